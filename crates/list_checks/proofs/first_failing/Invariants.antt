-- The first from i on is the first of all, while none was found. Assumes nothing.
use Rattle.std.proofs.Common.{ℕ, Bool}
use Rattle.list_checks.specs.Inner.Units.{Tells}
use Rattle.list_checks.proofs.Laws.First.{NoneBefore}
use Rattle.list_checks.proofs.first_failing.Given as goal

abbrev pub invariant-loop-i : goal.invariant-loop-i
invariant-loop-i g l = (test : ℕ → ℕ → ℕ → Bool) → Tells (goal.F-post g l.passes) test → NoneBefore test l.lows l.highs l.marks l.i
