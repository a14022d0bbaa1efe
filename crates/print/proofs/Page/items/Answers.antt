-- The numbers from the i-th on are left to be written. Assumes nothing.
use Rattle.std.proofs.Common.{ℕ, List, ◌∷◌, ◌+◌, ◌<◌, refl, ◌∙◌, length, get_or, drop, map, add-one, drop-cons, drop_of_length-le}
use mathlib.Core.List.{flatten}
use Rattle.print.specs.Items.{item, items}
use Rattle.print.specs.Laws.Written.{Rest, begin, room_next, next, done}
use Rattle.print.proofs.Page.items.Goals as goal

-- the next number, and those after it
one : (vs : List ℕ) (i : ℕ) {bytes entry : List ℕ} {start : ℕ} {buffer : List ℕ} {at : ℕ}
    → i < length vs → Rest bytes entry start (map item (drop i vs)) buffer at
    → Rest bytes entry start (item (get_or vs i 0) ∷ map item (drop (i + 1) vs)) buffer at
one vs i below r = rw add-one (rw (drop-cons vs i 0 below) at r)

pub loop-v-init : goal.loop-v-init
unfolding items
loop-v-init c = (begin _ refl c.requires, refl)

pub item-requires : goal.item-requires
item-requires c = room_next (one _ _ c.loop-v-test.true c.loop-v.invariant.0)

pub loop-v-preserved : goal.loop-v-preserved
loop-v-preserved c =
    (next (one _ _ c.loop-v-test.true c.loop-v.invariant.0) c.item.ensures.wrote, c.item.ensures.same_reference ∙ c.loop-v.invariant.1)

pub returns-clause-wrote : goal.returns-clause-wrote
unfolding flatten
returns-clause-wrote c =
    let vs : List ℕ = c.args.vs.now in
    done (rw (drop_of_length-le vs c.loop-v-test.false)) c.loop-v.invariant.0
