-- Jobs that differ only in the order of their groups. Assumes nothing.
use mathlib.Core.List.{Permᴰ}
use Rattle.std.specs.Prelude.{◌≡◌}
use Rattle.job.specs.Job.{Job}

-- two jobs: the same units, and the same groups in two orders
pub record SameButOrder (job other : Job) : Type 0 where
  pub same_lows : job.lows ≡ other.lows
  pub same_highs : job.highs ≡ other.highs
  pub same_marks : job.marks ≡ other.marks
  pub rearranged : Permᴰ job.groups other.groups
