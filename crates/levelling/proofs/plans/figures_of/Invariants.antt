-- The figures of the members passed and of those left add up to the figures; neither wraps. Assumes nothing.
use Prim.Native.Nat.{◌*◌}
use Rattle.model.specs.Figures.{apart}
use Rattle.levelling.specs.Laws.Summing.{Summed, SummedRunning}
use Rattle.levelling.proofs.plans.figures_of.Given as goal

abbrev pub invariant-loop-i : goal.invariant-loop-i
invariant-loop-i l =
    SummedRunning (λ x. apart (l.count * x) l.total) l.marks l.shares l.i l.deviation × Summed (λ x. x * x) l.shares l.i l.squares
