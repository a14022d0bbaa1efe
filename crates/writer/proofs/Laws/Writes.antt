-- What writing answers and leaves, by its tests and by the page that holds the text. Assumes nothing.
use Rattle.std.specs.Prelude.{ℕ, Ok, Err, ◌*◌, ◌≤◌, ◌<◌, List, ◌++◌, ◌≡◌, length, take, drop}
use Rattle.std.proofs.Common.{sym, ap, ◌∙◌, arith, le-leb, take_at}
use Rattle.std.proofs.lemmas.Bool.{lt-leb}
use Rattle.job.specs.Job.{Job}
use Rattle.model.specs.Groups.{Group}
use Rattle.model.specs.Refusals.{refusal}
use Rattle.model.specs.declared.Refusal.{Refusal}
use Rattle.print.specs.Inner.Written.{Room, Wrote}
use Rattle.print.specs.Laws.Written.{from_start}
use Rattle.works.specs.Called.{first_of}
use Rattle.works.specs.Calls.{check_table}
use Rattle.writer.specs.Calls.{written_text, write_job, write_over}
use Rattle.job_lines.specs.Texts.{job_with, job_text}

-- a text longer than the buffer is refused, and leaves it
pub text_refused : (job : Job) (buffer : List ℕ) → length buffer < length (job_text job) → written_text (Err (refusal 1 0)) buffer ≡ write_job job buffer
unfolding write_job
text_refused job buffer short = rw (lt-leb (length (job_text job)) (length buffer) short)

-- a text that fits is written at its start
pub text_written : (job : Job) (buffer : List ℕ) → length (job_text job) ≤ length buffer
    → written_text (Ok (length (job_text job))) (job_text job ++ drop (length (job_text job)) buffer) ≡ write_job job buffer
unfolding write_job
text_written job buffer fits = rw (le-leb (length (job_text job)) (length buffer) fits)

-- a page that begins with a job's text
module _ (job : Job) (rest : List ℕ) {page : List ℕ} {size : ℕ} (counted : size ≡ length (job_text job)) (holds : page ≡ job_text job ++ rest) where
  -- has it in its first bytes
  page_text : take size page ≡ job_text job
  page_text = ap (take size) holds ∙ take_at (job_text job) rest size (sym counted)

  module _ (buffer : List ℕ) where
    -- is too long for the buffer
    pub page_refused : length buffer < size → written_text (Err (refusal 1 0)) buffer ≡ write_job job buffer
    page_refused short = text_refused job buffer (omega (arith, counted))

    -- or fits there
    pub page_room : size ≤ length buffer → Room buffer 0 (take size page)
    page_room fits = rw page_text (record { fits = omega (arith, counted) })

    -- and is then written
    pub page_written : {exit : List ℕ} {next : ℕ} → size ≤ length buffer → Wrote (take size page) buffer 0 exit next
        → written_text (Ok size) exit ≡ write_job job buffer
    page_written fits wrote =
        let (moved, leaves) = from_start (rw page_text at (page_room fits)) (rw page_text at wrote) in
        rw (leaves, counted) (text_written job buffer (omega (arith, counted)))

    -- or its first bytes are copied there
    pub page_copied : size ≤ length buffer → written_text (Ok size) (take size page ++ drop size buffer) ≡ write_job job buffer
    page_copied fits = rw (page_text, counted) (text_written job buffer (omega (arith, counted)))

module _ (marks : List ℕ) (groups : List Group) (units : ℕ) (lows highs buffer : List ℕ) where
  -- a table that fails the checks is refused, and the buffer holds what it held
  pub over_failed : (reason : Refusal) → check_table marks units lows highs (8 * units) ≡ Err reason
      → written_text (Err reason) buffer ≡ write_over marks groups units lows highs buffer
  unfolding write_over
  over_failed reason fails = rw fails

  -- one that passes them is written
  pub over_passed : check_table marks units lows highs (8 * units) ≡ Ok tt
      → write_job (job_with marks groups (first_of units lows highs)) buffer ≡ write_over marks groups units lows highs buffer
  unfolding write_over
  over_passed passes = rw passes
