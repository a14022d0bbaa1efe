-- What is handed on of a text settles as the text does, in one pass. Assumes nothing.
use Rattle.std.specs.Prelude.{ℕ, List, ◌++◌, ◌≡◌, refl}
use Rattle.std.proofs.Common.{sym, ◌∙◌}
use Rattle.std.proofs.Math.Path.{ap}
use Rattle.job.specs.Job.{Job, JobOrRefusal, accepted, refused, read_job}
use Rattle.job.proofs.Laws.Sound.{accepted_sound}
use Rattle.job.specs.Sound.{SoundJob}
use Rattle.job.specs.TextLines.{lines_of}
use Rattle.model.specs.Groups.{Group}
use Rattle.report.proofs.Laws.Cut.{report_cut}
use Rattle.report.specs.Places.{report_lines}
use Rattle.report.specs.Program.{printed_read, printed_of}
use Rattle.report.specs.Reports.{unit_lines, group_lines, printed, report_of}
use Rattle.works.specs.Consistency.{SoundOpening}
use Rattle.works.proofs.Laws.Accepted.{accepted_groups}
use Rattle.works.proofs.Laws.Resting.{running_sound, settled_opening}
use Rattle.works.proofs.Laws.Settled.{settled_inside, settled_again}
use Rattle.works.specs.Resting.{ShutOpening, running_groups}
use Rattle.works.specs.Settling.{Outcome, settle}
use Rattle.member_ranges.specs.Tables.{Table, table_of}
use Rattle.writer.specs.Handing.{handed_after, handed_read, handed_on, SameHandedOn}
use Rattle.writer.proofs.Laws.Held.{with_sound}
use Rattle.writer.proofs.Laws.Spelled.{text_accepted}
use Rattle.job_lines.specs.Texts.{job_with, job_text}

-- what is printed and handed on of a text that is read so
printed_read_lem : (text : List ℕ) {o : JobOrRefusal} → read_job text ≡ o → printed_of text ≡ printed_read o
unfolding printed_of
printed_read_lem text reads = ap printed_read reads

pub handed_read_lem : (text : List ℕ) {o : JobOrRefusal} → read_job text ≡ o → handed_on text ≡ handed_read o
unfolding handed_on
handed_read_lem text reads = ap handed_read reads

-- of a job that settles so
module _ (text : List ℕ) (found : Job) (reads : read_job text ≡ accepted found) where
  abbrev opening : Table
  opening = table_of found.lows found.highs

  abbrev running : List Group
  running = running_groups found.marks found.groups

  printed_settles : {outcome : Outcome} → settle running opening ≡ outcome → printed_of text ≡ printed found.marks found.groups outcome
  unfolding printed_read
  printed_settles settles = printed_read_lem text reads ∙ ap (printed found.marks found.groups) settles

  pub handed_settles : {outcome : Outcome} → settle running opening ≡ outcome → handed_on text ≡ handed_after found.marks found.groups outcome
  unfolding handed_read
  handed_settles settles = handed_read_lem text reads ∙ ap (handed_after found.marks found.groups) settles

-- the lines of a report: those of the passes, the units and the groups
lines_of_lem : {bytes : List ℕ} (marks : List ℕ) (groups : List Group) (table : Table) (passes : ℕ) → bytes ≡ report_of marks groups table passes
    → lines_of bytes ≡ report_lines marks groups table passes
lines_of_lem marks groups table passes is = ap lines_of is ∙ report_cut marks groups table passes

-- of every text
pub same_handed_on : (text : List ℕ) → SameHandedOn text
unfolding printed_read handed_read printed handed_after
same_handed_on text = by_text (read_job text) refl
  where
    by_outcome : (found : Job) → read_job text ≡ accepted found → (outcome : Outcome)
        → settle (running_groups found.marks found.groups) (table_of found.lows found.highs) ≡ outcome → SameHandedOn text
    by_outcome found reads (Outcome.refused number place passes) settles =
        SameHandedOn.line number place (printed_settles text found reads settles) (handed_settles text found reads settles)
    by_outcome found reads (Outcome.settled table passes) settles =
        let built = (accepted_sound text found reads).built in
        let shut : ShutOpening found.marks found.groups (table_of found.lows found.highs) =
        accepted_groups text found reads built.ranges built.marked in
        let sound : SoundOpening (running_groups found.marks found.groups) (table_of found.lows found.highs) = running_sound shut in
        let final : ShutOpening found.marks found.groups table = settled_opening shut settles in
        let again : Job = job_with found.marks found.groups table in
        let sound_again : SoundJob again =
        with_sound found (accepted_sound text found reads) table final.valid final.shut (settled_inside sound settles).same_lows in
        let reads_again : read_job (job_text again) ≡ accepted again = text_accepted again sound_again in
        let settles_again : settle (running_groups found.marks found.groups) table ≡ Outcome.settled table 1 = settled_again sound settles in
        let handed : handed_on text ≡ job_text again = handed_settles text found reads settles in
        SameHandedOn.handed passes (unit_lines 1 table.lows table.highs ++ group_lines found.marks 1 table found.groups)
        (lines_of_lem found.marks found.groups table passes (printed_settles text found reads settles))
        (lines_of_lem found.marks found.groups table 1 (ap printed_of handed ∙ printed_settles (job_text again) again reads_again settles_again))
        (ap handed_on handed ∙ handed_settles (job_text again) again reads_again settles_again ∙ sym handed)

    by_text : (o : JobOrRefusal) → read_job text ≡ o → SameHandedOn text
    by_text (accepted found) reads = by_outcome found reads (settle (running_groups found.marks found.groups) (table_of found.lows found.highs)) refl
    by_text (refused reason) refuses =
        SameHandedOn.line reason.number reason.place (printed_read_lem text refuses) (handed_read_lem text refuses)
