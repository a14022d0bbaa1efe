-- What writing promises of a job text, a table and a buffer. Assumes nothing.
use Rattle.std.specs.Prelude.{ℕ, Err, ◌*◌, ◌≤◌, ◌<◌, List, ◌≡◌, length, take}
use Rattle.job.specs.Job.{Job}
use Rattle.model.specs.Refusals.{refusal}
use Rattle.model.specs.Shares.{most_units}
use Rattle.model.specs.declared.Refusal.{Refusal}
use Rattle.works.specs.Called.{Cleared, groups, marks, opening}
use Rattle.works.specs.Calls.{settle_text}
use Rattle.works.specs.declared.Unsettled.TheVariants.{Refused}
use Rattle.writer.specs.Calls.{WrittenText}
use Rattle.job_lines.specs.Texts.{job_with, job_text}

-- the job of the text with the lent ranges
abbrev pub lent_job : {text lows highs : List ℕ} {scratch : ℕ} → Cleared text lows highs scratch → Job
lent_job cleared = job_with (marks cleared) (groups cleared) (opening cleared)

-- the text written: as many bytes of the buffer as the call answers
abbrev pub text_in : ℕ → WrittenText → List ℕ
text_in size written = take size written.buffer

-- a scratch that is long enough for every job
abbrev pub most_scratch : ℕ
most_scratch = 8 * most_units

module _ (text lows highs buffer : List ℕ) where
  -- 02: a text is written: settling's checks let text and table through, and it fits the buffer
  pub record WritesText (size : ℕ) : Type 0 where
    pub cleared : Cleared text lows highs most_scratch
    pub counted : size ≡ length (job_text (lent_job cleared))
    pub fits : size ≤ length buffer

  -- 02: "refuses as settling does up to 7 for the lent ranges, then a buffer shorter than the text as 1, place 0"
  pub data RefusesText : Refusal → Type 0 where
    as_settling : {reason : Refusal} → (settle_text text lows highs most_scratch).answer ≡ Err (Refused reason) → RefusesText reason
    short : (cleared : Cleared text lows highs most_scratch) → length buffer < length (job_text (lent_job cleared)) → RefusesText (refusal 1 0)
