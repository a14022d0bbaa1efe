-- A number of one digit is that byte; one of more is its tenth, then its last digit. Assumes nothing.
use native.Mathlib.Omega.{arith}
use native.Mathlib.Nat.{div-lt_self}
use Prim.Native.Nat.{ℕ, ◌+◌, ◌/◌, ◌%◌, ◌≤◌, ◌<◌}
use mathlib.Core.List.{List, [], ◌∷◌, flatten}
use mathlib.Core.Path.{refl, sym}
use Rattle.text.specs.Numbers.{print_number}
use Rattle.text.specs.Laws.Printed.{print_one, print_more}
use Rattle.print.specs.Inner.Written.{Room, Wrote}
use Rattle.print.specs.Laws.Written.{Rest, begin, room_next, next, done}
use Rattle.print.proofs.+put_number.Goals as goal

-- a number of more than one digit, in two pieces
parts : (v : ℕ) (buffer : List ℕ) (at : ℕ) → 10 ≤ v → Room buffer at (print_number v)
    → Rest (print_number v) buffer at (print_number (v / 10) ∷ ((48 + v % 10) ∷ []) ∷ []) buffer at
unfolding flatten
parts v buffer at h room = begin (print_number (v / 10) ∷ ((48 + v % 10) ∷ []) ∷ []) (sym (print_more v h)) room

-- once its tenth is written, the last digit is left
digit : (v : ℕ) (buffer : List ℕ) (at : ℕ) {exit : List ℕ} {to : ℕ} → 10 ≤ v → Room buffer at (print_number v)
    → Wrote (print_number (v / 10)) buffer at exit to → Rest (print_number v) buffer at (((48 + v % 10) ∷ []) ∷ []) exit to
digit v buffer at h room wrote = next (parts v buffer at h room) wrote

pub put_byte-requires : goal.put_byte-requires
put_byte-requires t c = rw (print_one c.args.v (omega arith)) at c.requires

pub returns-then-v-lt10 : goal.returns-then-v-lt10
returns-then-v-lt10 t c = rw (print_one c.args.v (omega arith)) c.put_byte.ensures

pub put_number-next-requires : goal.put_number-next-requires
put_number-next-requires t c =
    let more : 10 ≤ c.args.v = omega arith in
    let less : c.args.v / 10 < c.args.v = div-lt_self (omega arith) (omega arith) in
    (omega (arith, c.decreases), room_next (parts _ _ _ more c.requires))

pub put_byte-requires-2 : goal.put_byte-requires-2
put_byte-requires-2 t c =
    let more : 10 ≤ c.args.v = omega arith in
    room_next (digit _ _ _ more c.requires c.put_number-next.ensures)

pub returns : goal.returns
unfolding flatten
returns t c =
    let more : 10 ≤ c.args.v = omega arith in
    done refl (next (digit _ _ _ more c.requires c.put_number-next.ensures) c.put_byte-2.ensures)
