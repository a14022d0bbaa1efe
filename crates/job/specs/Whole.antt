-- A text as a whole: its unit lines, then its group lines, and the job that they are. Assumes nothing.
use Rattle.std.specs.Prelude.{ℕ, List, ◌++◌, map, ◌≡◌}
use Rattle.form.specs.Form.{UnitLine, line_low, line_high, line_mark, GroupLine, unit, group, print_line}
use Rattle.job.specs.Job.{Job, group_of}

-- a unit line's bytes
abbrev pub unit_bytes : UnitLine → List ℕ
unit_bytes u = print_line (unit u)

-- a group line's bytes
abbrev pub group_bytes : GroupLine → List ℕ
group_bytes g = print_line (group g)

-- 01: "Unit lines precede group lines": lines after a job's lines, and the job with what they hold
pub record Whole (job : Job) (lines : List (List ℕ)) (final : Job) : Type 0 where
  pub units : List UnitLine
  pub groups : List GroupLine
  pub lines_are : lines ≡ map unit_bytes units ++ map group_bytes groups
  pub lows_are : final.lows ≡ job.lows ++ map line_low units
  pub highs_are : final.highs ≡ job.highs ++ map line_high units
  pub marks_are : final.marks ≡ job.marks ++ map line_mark units
  pub groups_are : final.groups ≡ job.groups ++ map group_of groups
