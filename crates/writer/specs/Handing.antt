-- What the program hand_on writes of a job text. Assumes nothing.
use Rattle.std.specs.Prelude.{ℕ, List, ◌∷◌, ◌≡◌}
use Rattle.job.specs.Job.{JobOrRefusal, accepted, refused, read_job}
use Rattle.job.specs.TextLines.{lines_of}
use Rattle.model.specs.Groups.{Group}
use Rattle.report.specs.Lines.{settled_line, refusal_line}
use Rattle.report.specs.Program.{printed_of}
use Rattle.works.specs.Resting.{running_groups}
use Rattle.works.specs.Settling.{Outcome, settle}
use Rattle.member_ranges.specs.Tables.{table_of}
use Rattle.job_lines.specs.Texts.{job_with, job_text}

-- what is handed on of a settling: the settled job as a job text, or the refusal's line
unfoldable pub handed_after : List ℕ → List Group → Outcome → List ℕ
handed_after marks groups (Outcome.settled table passes) = job_text (job_with marks groups table)
handed_after marks groups (Outcome.refused number place passes) = refusal_line number place

-- of a reading: a job is settled from the ranges of its unit lines, with its running members
unfoldable pub handed_read : JobOrRefusal → List ℕ
handed_read (accepted found) =
    handed_after found.marks found.groups (settle (running_groups found.marks found.groups) (table_of found.lows found.highs))
handed_read (refused refusal) = refusal_line refusal.number refusal.place

-- 02: "The day desk wants a settled job as a job text, to start from"
unfoldable pub handed_on : List ℕ → List ℕ
handed_on text = handed_read (read_job text)

-- what the program settle prints of a text and of what is handed on of it: the same lines but for the passes, which are then 1, and handing
-- it on again gives the same bytes; or the refusal's line for both
pub data SameHandedOn (text : List ℕ) : Type 0 where
  handed : (passes : ℕ) (lines : List (List ℕ)) → lines_of (printed_of text) ≡ settled_line passes ∷ lines
      → lines_of (printed_of (handed_on text)) ≡ settled_line 1 ∷ lines → handed_on (handed_on text) ≡ handed_on text → SameHandedOn text
  line : (number place : ℕ) → printed_of text ≡ refusal_line number place → handed_on text ≡ refusal_line number place → SameHandedOn text
