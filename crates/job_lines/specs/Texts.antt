-- The text of a job, in the form of 01. Assumes nothing.
use Rattle.std.specs.Prelude.{ℕ, suc, Bool, true, false}
use mathlib.Core.List.{List, [], ◌∷◌, ◌++◌, map, flatten}
use Rattle.form.specs.Form.{range, shut, print_unit_line, PairsLimit, unsaid, said, Heading, print_group}
use Rattle.job.specs.Job.{Job}
use Rattle.model.specs.Groups.{Group}
use Rattle.model.specs.Running.{runs}
use Rattle.model.specs.Shares.{pick}
use Rattle.model.specs.declared.Limit.{Limit}
use Rattle.model.specs.declared.Limits.{Limits}
use Rattle.member_ranges.specs.Tables.{Table}

-- a unit's line: its range, or `(shut)` where its mark is not 0
abbrev pub range_line : ℕ → ℕ → ℕ → List ℕ
range_line mark low high = print_unit_line (pick (runs mark) (range low high) shut)

-- the unit line of each unit, in order
unfoldable pub range_lines : List ℕ → List ℕ → List ℕ → List (List ℕ)
range_lines [] lows highs = []
range_lines (m ∷ marks) [] highs = []
range_lines (m ∷ marks) (l ∷ lows) [] = []
range_lines (m ∷ marks) (l ∷ lows) (h ∷ highs) = range_line m l h ∷ range_lines marks lows highs

-- 02: "The writer prints pairs only if it was there", with the word any too
abbrev pub pairs_written : Bool → Limit → PairsLimit
pairs_written false limit = unsaid
pairs_written true limit = said limit

-- what a group's line says ahead of its members
abbrev pub heading_of : ℕ → Limits → Bool → Heading
heading_of total limits pairs_there =
    record {
      total = total;
      deviation = limits.deviation;
      spread = limits.spread;
      pairs = pairs_written pairs_there limits.pairs;
    }

-- a group's line: its total, its limits and its members' unit numbers, counted from 1
unfoldable pub member_line : Group → List ℕ
member_line group = print_group (heading_of group.total group.limits group.pairs_there) (map suc group.members)

-- the job of units with these marks and of these groups, with the ranges of a table
abbrev pub job_with : List ℕ → List Group → Table → Job
job_with marks groups table = record { lows = table.lows; highs = table.highs; marks = marks; groups = groups }

-- the lines of a job; 01: "Unit lines precede group lines"
abbrev pub job_lines : Job → List (List ℕ)
job_lines job = range_lines job.marks job.lows job.highs ++ map member_line job.groups

-- 02: "any job and its table become text in 01's form"
unfoldable pub job_text : Job → List ℕ
job_text job = flatten (job_lines job)

-- the most bytes of a job's text: 256 unit lines of 23, 64 group lines of 91 and 4,096 members of 4
abbrev pub most_written : ℕ
most_written = 28_096
