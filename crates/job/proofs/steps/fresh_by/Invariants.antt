-- The numbers passed are marked; the rest is asked of those marks. Assumes nothing.
use mathlib.Core.Path.{◌≡◌}
use lib.ListN.{length, drop}
use Rattle.job.specs.Inner.Distinct.{fresh_by}
use Rattle.job.proofs.steps.fresh_by.Given as goal

abbrev pub invariant-loop-member : goal.invariant-loop-member
invariant-loop-member l =
    (length l.marks ≡ length l.initial.marks) × (fresh_by l.marks (drop l.member-index l.members) ≡ fresh_by l.initial.marks l.members)
