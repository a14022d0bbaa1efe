-- The numbers of the members from the i-th on are left to be written. Assumes nothing.
use Rattle.std.proofs.Common.{ℕ, suc, ◌+◌, ◌<◌, refl, ◌∙◌, List, ◌∷◌, length, get_or, drop, map, add-one, drop-cons, drop_of_length-le, arith}
use mathlib.Core.List.{flatten}
use Rattle.print.specs.Items.{item, items}
use Rattle.print.specs.Laws.Written.{Rest, begin, room_next, next, done}
use Rattle.job_lines.proofs.put_members.Goals as goal

-- the next number, and those after it
one : (members : List ℕ) (i : ℕ) {bytes entry : List ℕ} {start : ℕ} {buffer : List ℕ} {at : ℕ} → i < length members
    → Rest bytes entry start (map item (map suc (drop i members))) buffer at
    → Rest bytes entry start (item (get_or members i 0 + 1) ∷ map item (map suc (drop (i + 1) members))) buffer at
one members i below r = rw (add-one i, add-one (get_or members i 0)) (rw (drop-cons members i 0 below) at r)

pub loop-member-init : goal.loop-member-init
unfolding items
loop-member-init c = (begin _ refl c.requires.room, refl)

pub overflow_add-member : goal.overflow_add-member
overflow_add-member c = omega (arith, c.requires.named.below _ c.loop-member-test.true)

pub item-requires : goal.item-requires
item-requires c = room_next (one _ _ c.loop-member-test.true c.loop-member.invariant.0)

pub loop-member-preserved : goal.loop-member-preserved
loop-member-preserved c =
    (next (one _ _ c.loop-member-test.true c.loop-member.invariant.0) c.item.ensures.wrote, c.item.ensures.same_reference ∙ c.loop-member.invariant.1)

pub returns-clause-wrote : goal.returns-clause-wrote
unfolding flatten
returns-clause-wrote c =
    let members : List ℕ = c.args.members.now in
    done (rw (drop_of_length-le members c.loop-member-test.false)) c.loop-member.invariant.0
