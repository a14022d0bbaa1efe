-- Reporting a job text: its answer, and the table and the buffer after it. Assumes nothing.
use Rattle.std.specs.Prelude.{ℕ, Result, Ok, Err, List, ◌++◌, leb, length, take, drop}
use Rattle.job.specs.Job.{Job, JobOrRefusal, accepted, refused, no_lines, read_job}
use Rattle.form.specs.Form.{most_bytes}
use Rattle.model.specs.Groups.{Group}
use Rattle.model.specs.Shares.{pick}
use Rattle.works.specs.Calls.{Settlement, settle_text}
use Rattle.member_ranges.specs.Tables.{table_of}
use Rattle.works.specs.declared.Unsettled.{Unsettled}
use Rattle.report.specs.Reports.{report_of}
use Rattle.report.specs.declared.Written.{Written}
use Rattle.model.specs.Refusals.{refusal}
use Rattle.works.specs.declared.Unsettled.TheVariants.{NoPlan, Refused}

-- what a call answers, both lists of the table after it, and the buffer
pub record Reported : Type 0 where
  pub answer : Result Written Unsettled
  pub lows : List ℕ
  pub highs : List ℕ
  pub buffer : List ℕ

abbrev pub reported : Result Written Unsettled → List ℕ → List ℕ → List ℕ → Reported
reported answer lows highs buffer = record { answer = answer; lows = lows; highs = highs; buffer = buffer }

-- what is reported of a settling's answer: the report of the first units' ranges, and past it what the buffer held;
-- on a refusal the buffer holds what it held
abbrev pub report_by : List ℕ → List Group → ℕ → Result ℕ Unsettled → List ℕ → List ℕ → List ℕ → Reported
report_by marks groups units (Ok passes) lows highs buffer =
    let report : List ℕ = report_of marks groups (table_of (take units lows) (take units highs)) passes in
    reported (Ok (record { length = length report; passes = passes })) lows highs (report ++ drop (length report) buffer)
report_by marks groups units (Err (NoPlan number place passes)) lows highs buffer = reported (Err (NoPlan number place passes)) lows highs buffer
report_by marks groups units (Err (Refused refusal)) lows highs buffer = reported (Err (Refused refusal)) lows highs buffer

-- what is reported of a settling
unfoldable pub report_settled : List ℕ → List Group → ℕ → Settlement → List ℕ → Reported
report_settled marks groups units settled buffer = report_by marks groups units settled.answer settled.lows settled.highs buffer

-- the job that a text holds
abbrev pub job_of : JobOrRefusal → Job
job_of (accepted found) = found
job_of (refused refusal) = no_lines

-- 01: "One call settles and writes the report"; "Order: 1 for the report buffer", then as settling
unfoldable pub report_text : List ℕ → List ℕ → List ℕ → ℕ → List ℕ → Reported
report_text text lows highs scratch buffer =
    let found : Job = job_of (read_job text) in
    pick (leb most_bytes (length buffer))
    (report_settled found.marks found.groups (length found.lows) (settle_text text lows highs scratch) buffer)
    (reported (Err (Refused (refusal 1 0))) lows highs buffer)
