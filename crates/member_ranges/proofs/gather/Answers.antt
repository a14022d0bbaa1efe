-- The entries of the members passed are written, in order. Assumes nothing.
use Rattle.std.proofs.Common.{sym, arith}
use Rattle.member_ranges.specs.Laws.Members.{gather_length, gather_at}
use Rattle.model.proofs.Laws.Writing.{filled_more, filled_all}
use Rattle.member_ranges.proofs.gather.Goals as goal

pub loop-k-preserved : goal.loop-k-preserved
loop-k-preserved c =
    filled_more c.loop-k.invariant
    (omega (arith, gather_length c.args.entries.now c.args.members.now))
    (omega arith)
    _
    (sym (gather_at c.args.entries.now c.args.members.now c.loop-k.k (omega arith)))

pub returns : goal.returns
returns c =
    let counted = gather_length c.args.entries.now c.args.members.now in
    filled_all c.loop-k.invariant (omega arith) (omega arith)
