-- The group's numbers, its shares, and both closing brackets. Assumes nothing.
use Prim.Native.Nat.{ℕ}
use mathlib.Core.List.{List, [], ◌∷◌, flatten}
use mathlib.Core.Path.{refl}
use Rattle.model.specs.declared.Figures.{Figures}
use Rattle.text.specs.Words.{bytes}
use Rattle.print.specs.Items.{form}
use Rattle.print.specs.Inner.Written.{Room}
use Rattle.print.specs.Laws.Written.{Rest, begin, room_next, next, done}
use Rattle.report.specs.Lines.{group_line}
use Rattle.report.proofs.lines.put_group_line.Goals as goal

parts : (number level : ℕ) (figures : Figures) (shares : List ℕ) {buffer : List ℕ} {at : ℕ}
    → Room buffer at (group_line number level figures shares)
    → Rest (group_line number level figures shares) buffer at
    (form (bytes "(group") (number ∷ level ∷ figures.deviation.0 ∷ figures.spread.0 ∷ figures.pairs.0 ∷ []) ∷ form (bytes " (plan") shares ∷ bytes "))\n" ∷ [])
    buffer at
unfolding group_line
parts number level figures shares room = begin _ refl room

pub form-requires : goal.form-requires
form-requires c = room_next (parts _ _ _ _ c.requires)

pub form-requires-2 : goal.form-requires-2
form-requires-2 c =
    room_next (next (parts _ _ _ _ c.requires) c.form.ensures.wrote)

pub word-requires : goal.word-requires
word-requires c =
    room_next (next (next (parts _ _ _ _ c.requires) c.form.ensures.wrote) c.form-2.ensures.wrote)

pub returns-clause-wrote : goal.returns-clause-wrote
unfolding flatten
returns-clause-wrote c =
    let opened = next (parts _ _ _ _ c.requires) c.form.ensures.wrote in
    done refl (next (next opened c.form-2.ensures.wrote) c.word.ensures.wrote)
