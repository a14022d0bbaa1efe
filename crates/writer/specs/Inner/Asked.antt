-- What the functions of the writer ask of their lists. Assumes nothing.
use Rattle.std.specs.Prelude.{ℕ, Result, List, ◌≡◌, length}
use Rattle.groups.specs.Inner.Flat.{groups_in, marks_in, Holds}
use Rattle.job.specs.Job.{Job}
use Rattle.job.specs.Sound.{SoundJob}
use Rattle.report.specs.Inner.Printed.{Opened}
use Rattle.works.specs.Called.{Cleared}
use Rattle.works.specs.Calls.{settlement, settle_text}
use Rattle.member_ranges.specs.Tables.{table_of}
use Rattle.works.specs.declared.Unsettled.{Unsettled}
use Rattle.job_lines.specs.Texts.{job_with}

-- the job of a flat list's groups and marks and of these ranges
abbrev pub job_held : List ℕ → ℕ → List ℕ → List ℕ → Job
job_held flat count lows highs = job_with (marks_in (length lows) flat) (groups_in count flat) (table_of lows highs)

-- a flat list holds the groups and the marks of a sound job of so many units
pub record HeldGroups (flat : List ℕ) (count units : ℕ) : Type 0 where
  pub holds : Holds count flat
  pub job : Job
  pub sound : SoundJob job
  pub lists : job.groups ≡ groups_in count flat
  pub counts : length job.lows ≡ units
  pub marked : job.marks ≡ marks_in units flat

-- settling's checks let a text and a table through, with some scratch
pub record LetThrough (text lows highs : List ℕ) : Type 0 where
  pub scratch : ℕ
  pub cleared : Cleared text lows highs scratch

-- what settling answers and leaves over the table that a text's unit lines filled
pub record SettledFrom (text : List ℕ) (answer : Result ℕ Unsettled) (lows highs : List ℕ) : Type 0 where
  pub lows₀ : List ℕ
  pub highs₀ : List ℕ
  pub scratch : ℕ
  pub opened : Opened text lows₀ highs₀ scratch
  pub settles : settlement answer lows highs ≡ settle_text text lows₀ highs₀ scratch
