-- The running members passed are at the front, in order. Assumes nothing.
use Rattle.std.proofs.Common.{◌≤◌, length, sym, ap, ◌∙◌, arith, length-take-le}
use Rattle.model.proofs.Laws.Packing.{packed_none, packed_step, packed_all}
use Rattle.model.proofs.running.pack.Goals as goal
use Rattle.model.proofs.running.pack.Goals.{After-count_of-count}

pub loop-i-init : goal.loop-i-init
loop-i-init c = packed_none _ _

pub bounds-numbers-count : goal.bounds-numbers-count
bounds-numbers-count c = omega (arith, c.loop-i.invariant)

-- one member more is passed
pub loop-i-preserved : goal.loop-i-preserved
loop-i-preserved c = packed_step c.requires (omega arith) c.loop-i.invariant _ c.count_of-count.ensures

pub overflow_add-count : goal.overflow_add-count
overflow_add-count c = omega (arith, (loop-i-preserved c).few)

pub returns : goal.returns
returns c =
    let front = packed_all c.loop-i-test.false c.loop-i.invariant in
    let fits : c.loop-i.count ≤ length c.loop-i.numbers = omega (arith, c.loop-i.invariant) in
    record { value = sym (length-take-le _ _ fits) ∙ ap length front; numbers_after = front }
