-- A settling of a text that the checks ahead of 11 let through: its job, its opening table, and the table that it leaves. Assumes nothing.
use Rattle.std.specs.Prelude.{ℕ, Result, Ok, Err, List, ◌≡◌, length, take}
use Rattle.job.specs.Job.{Job, accepted, read_job}
use Rattle.model.specs.Groups.{Group}
use Rattle.works.specs.Calls.{Settlement, check_table, settle_text}
use Rattle.member_ranges.specs.Tables.{Table, table_of}
use Rattle.works.specs.declared.Unsettled.{Unsettled}
use Rattle.works.specs.declared.Unsettled.TheVariants.{NoPlan, Refused}

-- 01: a settling "that the checks ahead of 11 let through": the text is that of a job, and the table passes
pub record Cleared (text lows highs : List ℕ) (scratch : ℕ) : Type 0 where
  pub found : Job
  pub reads : read_job text ≡ accepted found
  pub passes : check_table found.marks (length found.lows) lows highs scratch ≡ Ok tt

-- the ranges of the first units
abbrev pub first_of : ℕ → List ℕ → List ℕ → Table
first_of count lows highs = table_of (take count lows) (take count highs)

-- the passes of an answer
abbrev pub passes_in : Result ℕ Unsettled → ℕ
passes_in (Ok passes) = passes
passes_in (Err (NoPlan number place passes)) = passes
passes_in (Err (Refused refusal)) = 0

module _ {text lows highs : List ℕ} {scratch : ℕ} (cleared : Cleared text lows highs scratch) where
  -- the job's groups
  abbrev pub groups : List Group
  groups = cleared.found.groups

  -- 02: the marks of its units
  abbrev pub marks : List ℕ
  marks = cleared.found.marks

  -- the number of its units
  abbrev pub count : ℕ
  count = length cleared.found.lows

  -- 01: the opening table
  abbrev pub opening : Table
  opening = first_of count lows highs

  -- what the call answers, and the table's ranges after it
  abbrev pub called : Settlement
  called = settle_text text lows highs scratch

  -- the ranges of the units after it
  abbrev pub after : Table
  after = first_of count called.lows called.highs

  -- 01: refused for want of a plan
  abbrev pub WithoutPlan : Type 0
  WithoutPlan = (number : ℕ) × (place : ℕ) × (passes : ℕ) × (called.answer ≡ Err (NoPlan number place passes))
