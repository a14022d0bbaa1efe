-- Settling a job text: the checks ahead of it, its answer, and the table after it. Assumes nothing.
use Rattle.model.specs.declared.Refusal.{Refusal}
use Rattle.std.specs.Prelude.{ℕ, Ok, ◌*◌, Result, Err, Bool, true, not, ◌&&◌, List, ◌++◌, ◌⊎◌, ◌≡◌, leb, length, take, drop}
use Rattle.list_checks.specs.Checks.{refuse_if, check_lists}
use Rattle.job.specs.Job.{read_job, accepted, refused}
use Rattle.model.specs.Groups.{Group}
use Rattle.works.specs.Answers.{answer_of, table_after}
use Rattle.works.specs.Resting.{running_groups}
use Rattle.works.specs.Settling.{Outcome, settle}
use Rattle.member_ranges.specs.Tables.{Table, table_of}
use Rattle.works.specs.declared.Unsettled.{Unsettled}
use Rattle.works.specs.declared.Unsettled.TheVariants.{Refused}

-- what a call answers, and both lists of the table after it
pub record Settlement : Type 0 where
  pub answer : Result ℕ Unsettled
  pub lows : List ℕ
  pub highs : List ℕ

-- a call with this answer and these lists
abbrev pub settlement : Result ℕ Unsettled → List ℕ → List ℕ → Settlement
settlement answer lows highs = record { answer = answer; lows = lows; highs = highs }

-- 01, 1: the table's lists, and a scratch of 8 numbers a unit, are long enough for the units
abbrev pub has_room : ℕ → ℕ → ℕ → ℕ → Bool
has_room units lows highs scratch = leb units lows && (leb units highs && leb (8 * units) scratch)

-- 01: "then 1 for table and scratch, then in settling 4 and after it 7 for the lent ranges, place the first such unit"; 02: "a shut
-- member's range other than 0 to 0 is 7, with that unit's place, in a lent table too"
unfoldable pub check_table : List ℕ → ℕ → List ℕ → List ℕ → ℕ → Result (Unit {0}) Refusal
check_table marks units lows highs scratch =
    refuse_if (not (has_room units (length lows) (length highs) scratch)) 1 0
    (check_lists (take units lows) (take units highs) marks units true)

-- the answer of an outcome; the table's entries past the units keep their values
abbrev pub leaving : Outcome → ℕ → List ℕ → List ℕ → Settlement
leaving outcome units lows highs =
    let table : Table = table_after outcome (table_of (take units lows) (take units highs)) in
    settlement (answer_of outcome) (table.lows ++ drop units lows) (table.highs ++ drop units highs)

-- what a check's refusal answers: the table holds what it held
abbrev pub settled_after : Result (Unit {0}) Refusal → List ℕ → List ℕ → Settlement → Settlement
settled_after (Err refusal) lows highs next = settlement (Err (Refused refusal)) lows highs
settled_after (Ok _) lows highs next = next

-- settling groups over the first units of a table, with the units' marks and a scratch of so many numbers; 02: each group of its running members
unfoldable pub settle_job : List ℕ → List Group → ℕ → List ℕ → List ℕ → ℕ → Settlement
settle_job marks groups units lows highs scratch =
    settled_after (check_table marks units lows highs scratch) lows highs
    (leaving (settle (running_groups marks groups) (table_of (take units lows) (take units highs))) units lows highs)

-- 01: settling "takes the groups from the text and opens with the ranges that the table holds"; 02: which units are shut the text says
unfoldable pub settle_text : List ℕ → List ℕ → List ℕ → ℕ → Settlement
settle_text text lows highs scratch =
    elim (read_job text) [
      | accepted found ↦ settle_job found.marks found.groups (length found.lows) lows highs scratch
      | refused refusal ↦ settlement (Err (Refused refusal)) lows highs
    ]

-- 01: refused for want of a plan
abbrev pub WantOfPlan : ℕ → Type 0
WantOfPlan number = (number ≡ 11) ⊎ (number ≡ 12)
