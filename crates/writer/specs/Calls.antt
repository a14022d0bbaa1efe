-- Writing a job and its table: the answer, and the buffer after it. Assumes nothing.
use Rattle.std.specs.Prelude.{ℕ, Result, Ok, Err, ◌*◌, List, ◌++◌, leb, length, drop}
use Rattle.job.specs.Job.{Job, read_job, accepted, refused}
use Rattle.model.specs.Groups.{Group}
use Rattle.model.specs.Refusals.{refusal}
use Rattle.model.specs.Shares.{pick}
use Rattle.model.specs.declared.Refusal.{Refusal}
use Rattle.works.specs.Called.{first_of}
use Rattle.works.specs.Calls.{check_table}
use Rattle.job_lines.specs.Texts.{job_with, job_text}

-- what a call answers, and the buffer after it
pub record WrittenText : Type 0 where
  pub answer : Result ℕ Refusal
  pub buffer : List ℕ

-- a call with this answer and this buffer
abbrev pub written_text : Result ℕ Refusal → List ℕ → WrittenText
written_text answer buffer = record { answer = answer; buffer = buffer }

-- 02: "then a buffer shorter than the text as 1, place 0. It hands back the length."; bytes past the text keep their values
unfoldable pub write_job : Job → List ℕ → WrittenText
write_job job buffer =
    let text : List ℕ = job_text job in
    pick (leb (length text) (length buffer))
    (written_text (Ok (length text)) (text ++ drop (length text) buffer))
    (written_text (Err (refusal 1 0)) buffer)

-- what a check's refusal answers: the buffer holds what it held
abbrev pub written_after : Result (Unit {0}) Refusal → List ℕ → WrittenText → WrittenText
written_after (Err refusal) buffer next = written_text (Err refusal) buffer
written_after (Ok _) buffer next = next

-- writing groups over the first units of a table, which have these marks; the checks are settling's, with a scratch that is long enough
unfoldable pub write_over : List ℕ → List Group → ℕ → List ℕ → List ℕ → List ℕ → WrittenText
write_over marks groups units lows highs buffer =
    written_after (check_table marks units lows highs (8 * units)) buffer (write_job (job_with marks groups (first_of units lows highs)) buffer)

-- 02: "borrows no scratch and refuses as settling does up to 7 for the lent ranges"
unfoldable pub write_text : List ℕ → List ℕ → List ℕ → List ℕ → WrittenText
write_text text lows highs buffer =
    elim (read_job text) [
      | accepted found ↦ write_over found.marks found.groups (length found.lows) lows highs buffer
      | refused refusal ↦ written_text (Err refusal) buffer
    ]
