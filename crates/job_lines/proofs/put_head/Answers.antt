-- The total, the deviation limit, the spread limit, the pairs limit, and what opens the members. Assumes nothing.
use Prim.Native.Nat.{ℕ}
use mathlib.Core.List.{List, [], ◌∷◌, ◌++◌, flatten}
use mathlib.Core.Path.{refl}
use Rattle.form.specs.Form.{deviation_opening, spread_opening, members_opening, Heading, print_limit, print_pairs}
use Rattle.print.specs.Inner.Written.{Room}
use Rattle.print.specs.Items.{form}
use Rattle.print.specs.Laws.Written.{Rest, begin, room_next, next, done}
use Rattle.text.specs.Words.{bytes}
use Rattle.job_lines.specs.Inner.Pieces.{group_head}
use Rattle.job_lines.proofs.put_head.Goals as goal

parts : (h : Heading) {buffer : List ℕ} {at : ℕ} → Room buffer at (group_head h)
    → Rest (group_head h) buffer at
    (form (bytes "(group") (h.total ∷ [])
    ∷ (deviation_opening ++ print_limit h.deviation)
    ∷ (spread_opening ++ print_limit h.spread)
    ∷ print_pairs h.pairs
    ∷ members_opening
    ∷ [])
    buffer at
unfolding group_head
parts h room = begin _ refl room

pub form-requires : goal.form-requires
form-requires c = room_next (parts _ c.requires)

pub put_limited-requires : goal.put_limited-requires
put_limited-requires c =
    room_next (next (parts _ c.requires) c.form.ensures.wrote)

pub put_limited-requires-2 : goal.put_limited-requires-2
put_limited-requires-2 c =
    room_next (next (next (parts _ c.requires) c.form.ensures.wrote) c.put_limited.ensures.wrote)

pub put_pairs-requires : goal.put_pairs-requires
put_pairs-requires c =
    let opened = next (parts _ c.requires) c.form.ensures.wrote in
    room_next (next (next opened c.put_limited.ensures.wrote) c.put_limited-2.ensures.wrote)

pub word-requires : goal.word-requires
word-requires c =
    let opened = next (parts _ c.requires) c.form.ensures.wrote in
    let limited = next (next opened c.put_limited.ensures.wrote) c.put_limited-2.ensures.wrote in
    room_next (next limited c.put_pairs.ensures.wrote)

pub returns-clause-wrote : goal.returns-clause-wrote
unfolding flatten
returns-clause-wrote c =
    let opened = next (parts _ c.requires) c.form.ensures.wrote in
    let limited = next (next opened c.put_limited.ensures.wrote) c.put_limited-2.ensures.wrote in
    done refl (next (next limited c.put_pairs.ensures.wrote) c.word.ensures.wrote)
