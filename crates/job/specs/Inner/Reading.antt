-- What scanning a text leaves in the lists. Assumes nothing.
use Rattle.std.specs.Prelude.{ℕ, List, ◌++◌, ◌≡◌, eqb, length, drop, Result, Ok, Err}
use Rattle.std.proofs.lemmas.List.Edits.{sets}
use Rattle.model.specs.Shares.{pick}
use Rattle.job.specs.Job.{Job, accepted, read_job}
use Rattle.groups.specs.Inner.Flat.{flatten, marks_from, marks_in}
use Rattle.job.specs.declared.steps.Progress.{Progress}
use Rattle.job.specs.declared.Counts.{Counts}
use Rattle.job.specs.Reading.{reading_of, ReadInto}
use Rattle.model.specs.Refusals.{refusal}
use Rattle.model.specs.declared.Refusal.{Refusal}

-- the answer to a text whose lines are all taken: 01: "10 no unit line, place 0"
unfoldable pub counts_of : Progress → Result Counts Refusal
counts_of p = pick (eqb p.units 0) (Err (refusal 10 0)) (Ok (record { units = p.units; groups = p.groups }))

-- what scanning a text for its groups and marks answers, and where it is accepted, what the flat list holds
pub record GroupsScanned (text flat₀ flat : List ℕ) (r : Result Counts Refusal) : Type 0 where
  pub answer : r ≡ reading_of (read_job text)
  pub found_flat : (job : Job) → read_job text ≡ accepted job
      → flat ≡ flatten job.groups ++ drop (length (flatten job.groups)) (sets flat₀ marks_from job.marks)
  pub found_marks : (job : Job) → read_job text ≡ accepted job → marks_in (length job.lows) flat ≡ job.marks

-- what scanning a whole text leaves: its ranges as well
pub record Scanned (text lows₀ highs₀ flat₀ lows highs flat : List ℕ) (r : Result Counts Refusal) : Type 0 where
  pub groups : GroupsScanned text flat₀ flat r
  pub found_lows : (job : Job) → read_job text ≡ accepted job → lows ≡ job.lows ++ drop (length job.lows) lows₀
  pub found_highs : (job : Job) → read_job text ≡ accepted job → highs ≡ job.highs ++ drop (length job.lows) highs₀
  pub pairs : (job : Job) → read_job text ≡ accepted job → length job.highs ≡ length job.lows

-- lists that begin with the ranges of a job of so many units and groups
pub record Fronts (least greatest : List ℕ) (units groups : ℕ) (job : Job) : Type 0 where
  pub rest : List ℕ
  pub past : List ℕ
  pub lows : least ≡ job.lows ++ rest
  pub highs : greatest ≡ job.highs ++ past
  pub units_are : length job.lows ≡ units
  pub pairs : length job.highs ≡ units
  pub groups_are : length job.groups ≡ groups

-- filling a table from such lists, whatever the text that was read
abbrev pub FilledBy : List ℕ → List ℕ → ℕ → ℕ → List ℕ → List ℕ → List ℕ → List ℕ → Result Counts Refusal → Type 0
FilledBy least greatest units groups lows₀ highs₀ lows highs r =
    (text : List ℕ) (job : Job) → read_job text ≡ accepted job → Fronts least greatest units groups job → ReadInto text lows₀ highs₀ lows highs r
