-- What opens a limit, then the limit. Assumes nothing.
use mathlib.Core.List.{List, [], ◌∷◌, ◌++◌, flatten, append-nil}
use mathlib.Core.Path.{refl, ap}
use Prim.Native.Nat.{ℕ}
use Rattle.form.specs.Form.{print_limit}
use Rattle.model.specs.declared.Limit.{Limit}
use Rattle.print.specs.Inner.Written.{Room}
use Rattle.print.specs.Laws.Written.{Rest, begin, room_next, next, done}
use Rattle.job_lines.proofs.put_limited.Goals as goal

parts : (opening : List ℕ) (limit : Limit) {buffer : List ℕ} {at : ℕ} → Room buffer at (opening ++ print_limit limit)
    → Rest (opening ++ print_limit limit) buffer at (opening ∷ print_limit limit ∷ []) buffer at
unfolding flatten
parts opening limit room = begin _ (ap (λ (s : List ℕ). opening ++ s) (append-nil (print_limit limit))) room

pub word-requires : goal.word-requires
word-requires c = room_next (parts _ _ c.requires)

pub put_limit-requires : goal.put_limit-requires
put_limit-requires c =
    room_next (next (parts _ _ c.requires) c.word.ensures.wrote)

pub returns-clause-wrote : goal.returns-clause-wrote
unfolding flatten
returns-clause-wrote c =
    done refl (next (next (parts _ _ c.requires) c.word.ensures.wrote) c.put_limit.ensures.wrote)
