-- What the program prints of a job text. Assumes nothing.
use Rattle.std.specs.Prelude.{ℕ, List}
use Rattle.job.specs.Job.{JobOrRefusal, accepted, refused, read_job}
use Rattle.works.specs.Resting.{running_groups}
use Rattle.works.specs.Settling.{settle}
use Rattle.member_ranges.specs.Tables.{table_of}
use Rattle.report.specs.Lines.{refusal_line}
use Rattle.report.specs.Reports.{printed}

-- what is printed of a reading: of a job, what settling its groups from the ranges of its unit lines gives; of a refusal, its line
unfoldable pub printed_read : JobOrRefusal → List ℕ
printed_read (accepted found) = printed found.marks found.groups (settle (running_groups found.marks found.groups) (table_of found.lows found.highs))
printed_read (refused refusal) = refusal_line refusal.number refusal.place

-- 01: the program "reads a job from standard input and writes the report"; "A refusal prints one line"
unfoldable pub printed_of : List ℕ → List ℕ
printed_of text = printed_read (read_job text)
