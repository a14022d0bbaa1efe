-- Bisection between a share with T at most the total and one above it ends at the level; a turn adds up T once and halves the levels left. Assumes nothing.
use Prim.Native.Nat.{ℕ, ◌-◌}
use Rattle.levelling.specs.Additions.{ByHalving}
use Rattle.levelling.specs.Inner.Searching.{LevelBetween}
use Rattle.levelling.proofs.levels.level_between.Given as goal

-- the level is from v to below top, and what is still added up comes to no more in all than the halvings of all the levels
abbrev pub invariant-loop-top : goal.invariant-loop-top
invariant-loop-top l = record {
  between : LevelBetween l.lows l.highs l.total l.v l.top;
  spent : (after : ℕ) → ByHalving (l.top - l.v) l.additions after → ByHalving (l.past - l.first) l.initial.additions after;
}

abbrev pub decreases-loop-top : goal.decreases-loop-top
decreases-loop-top l = l.top - l.v
