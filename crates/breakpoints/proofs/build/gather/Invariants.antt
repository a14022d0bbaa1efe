-- What is kept of the members left is kept of all with the bounds in front of both lists. Assumes nothing.
use Rattle.std.proofs.Common.{◌≡◌, ◌+◌, ◌≤◌, List, ℕ, ◌++◌, length, take}
use Rattle.breakpoints.specs.Inner.Kept.{Kept}
use Rattle.breakpoints.proofs.build.gather.Given as goal

abbrev pub invariant-loop-low : goal.invariant-loop-low
invariant-loop-low l = record {
  paired : length l.low-iterator.b.rest.now ≡ length l.low-iterator.a.rest.now;
  few : l.count + length l.low-iterator.a.rest.now ≤ length l.lows;
  kept : (lows highs : List ℕ) → Kept l.low-iterator.a.rest.now l.low-iterator.b.rest.now lows highs
      → Kept l.lows l.highs (take l.count l.starts ++ lows) (take l.count l.stops ++ highs);
}
