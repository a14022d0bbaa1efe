-- Reports of two calls over one table, compared. Assumes nothing.
use Rattle.std.specs.Prelude.{ℕ, Result, Ok, Err, suc, ◌+◌, ◌≤◌, List, ◌≡◌, length, take}
use Rattle.std.proofs.Math.Option.{some}
use Rattle.std.proofs.Math.ListN.{get_elem?}
use Rattle.form.specs.Form.{most_bytes}
use Rattle.job.specs.TextLines.{lines_of}
use Rattle.model.specs.Groups.{Group}
use Rattle.works.specs.Called.{Cleared, groups, count}
use Rattle.report.specs.Places.{numbered}
use Rattle.report.specs.Promises.{outcome}
use Rattle.works.specs.declared.Unsettled.{Unsettled}
use Rattle.report.specs.declared.Written.{Written}
use Rattle.works.specs.declared.Unsettled.TheVariants.{NoPlan, Refused}

-- the passes of an answer
abbrev pub report_passes : Result Written Unsettled → ℕ
report_passes (Ok written) = written.passes
report_passes (Err (NoPlan number place passes)) = passes
report_passes (Err (Refused refusal)) = 0

-- one call
module _ {text lows highs : List ℕ} {scratch : ℕ} (cleared : Cleared text lows highs scratch) (buffer : List ℕ)
    (long : most_bytes ≤ length buffer) where
  -- 01: refused for want of a plan
  abbrev pub ReportedWithoutPlan : Type 0
  ReportedWithoutPlan = (number : ℕ) × (place : ℕ) × (passes : ℕ) × ((outcome cleared buffer long).answer ≡ Err (NoPlan number place passes))

  module _ {size passes : ℕ} (answers : (outcome cleared buffer long).answer ≡ Ok (record { length = size; passes = passes })) where
    -- the report: as many bytes of the buffer as the call answers
    abbrev pub report : List ℕ
    report = take size (outcome cleared buffer long).buffer

-- each group's line on two reports of so many units is the same but for its number, the group's place in its own job, from 1
abbrev pub SameLines : ℕ → List Group → List Group → List ℕ → List ℕ → Type 0
SameLines units groups reordered report other =
    (group : Group) (j k : ℕ) → get_elem? groups j ≡ some group → get_elem? reordered k ≡ some group
    → (past : List ℕ)
    × (get_elem? (lines_of report) (suc (units + j)) ≡ some (numbered (suc j) past))
    × (get_elem? (lines_of other) (suc (units + k)) ≡ some (numbered (suc k) past))

module _ {text other lows highs : List ℕ} {scratch room : ℕ} (first : Cleared text lows highs scratch) (second : Cleared other lows highs room)
    (buffer space : List ℕ) (long : most_bytes ≤ length buffer) (wide : most_bytes ≤ length space) where
  -- both leave one table and print for each group the same line but for its number, or both are refused for want of a plan
  pub data SameReports : Type 0 where
    written : {size passes more others : ℕ} (answers : (outcome first buffer long).answer ≡ Ok (record { length = size; passes = passes }))
        (replies : (outcome second space wide).answer ≡ Ok (record { length = more; passes = others }))
        → (outcome first buffer long).lows ≡ (outcome second space wide).lows
        → (outcome first buffer long).highs ≡ (outcome second space wide).highs
        → SameLines (count first) (groups first) (groups second) (report first buffer long answers) (report second space wide replies)
        → SameReports
    refused : ReportedWithoutPlan first buffer long → ReportedWithoutPlan second space wide → SameReports
