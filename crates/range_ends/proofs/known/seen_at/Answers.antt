-- The tests in turn, each with what it tells. Assumes nothing.
use Rattle.range_ends.specs.Inner.Known.{SeenTo}
use Rattle.range_ends.proofs.known.seen_at.Goals as goal
use Rattle.range_ends.proofs.known.seen_at.Goals.{then-way-via-then-way, then-way-via-else-way+then-end_known}

pub returns-then-way : goal.returns-then-way
returns-then-way c =
    elim c.then-way.branch [
      | then-way-via-then-way w ↦ SeenTo.itself w.if-way.true
      | then-way-via-else-way+then-end_known w ↦ SeenTo.within (w.end_known.ensures w.if-end_known.true)
    ]

pub returns-then-edge_known : goal.returns-then-edge_known
returns-then-edge_known c = SeenTo.before c.if-way.false (c.edge_known.ensures c.if-edge_known.true)
