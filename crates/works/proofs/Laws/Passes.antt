-- A pass: it shrinks the table, keeps every consistent table inside, and is quiet only where the table is consistent. Assumes nothing.
use Rattle.std.specs.Prelude.{ℕ, suc, ◌≡◌, refl}
use mathlib.Core.List.Memᴰ
use mathlib.Core.List.{List, [], ◌∷◌, Memᴰ}
use Rattle.std.proofs.Common.{⊎_elim, arith}
use Rattle.model.specs.Groups.{Group}
use Rattle.works.specs.Consistency.{SoundOpening, Supported, Consistent}
use Rattle.works.specs.Settling.{Revised, AfterPass, narrowed, revise, pass_from}
use Rattle.member_ranges.specs.Tables.{Table, Valid, Inside}
use Rattle.member_ranges.specs.Laws.Inside.{inside_refl, inside_trans, inside_both}
use Rattle.works.proofs.Laws.Turns.{turn_inside, turn_valid, turn_other, turn_keeps, turn_quiet}
use Rattle.works.specs.Endings.{After}

-- the groups are sound over each table of ranges inside
pub sound_inside : {groups : List Group} {next table : Table} → SoundOpening groups table → Valid next → Inside next table
    → SoundOpening groups next
sound_inside {next} {table} sound valid inside =
    record { valid = valid; each = λ group member. rw inside.same_lows (sound.each group member) }

-- the first of some groups, and the others
pub first_group : {group : Group} {groups : List Group} → Memᴰ group (group ∷ groups)
first_group = Memᴰ.head refl

pub sound_rest : {group : Group} {groups : List Group} {table : Table} → SoundOpening (group ∷ groups) table → SoundOpening groups table
sound_rest sound = record { valid = sound.valid; each = λ g member. sound.each g (Memᴰ.tail member) }

-- after a turn the other groups are sound
pub sound_turn : {group : Group} {groups : List Group} {table middle : Table} → SoundOpening (group ∷ groups) table
    → revise table group ≡ Revised.revised middle → SoundOpening groups middle
sound_turn {group} {table} sound turn =
    sound_inside (sound_rest sound)
    (turn_valid table group sound.valid (sound.each group first_group) turn)
    (turn_inside table group sound.valid (sound.each group first_group) turn)

-- a pass over some groups that is not stopped is the first group's turn and a pass over the others
step : (place : ℕ) (group : Group) (groups : List Group) (table next : Table) → pass_from place (group ∷ groups) table ≡ AfterPass.passed next
    → (middle : Table) × (revise table group ≡ Revised.revised middle) × (pass_from (suc place) groups middle ≡ AfterPass.passed next)
unfolding pass_from
step place group groups table next e = by_answer (revise table group) refl
  where
    by_answer : (answer : Revised) → revise table group ≡ answer
        → (middle : Table) × (revise table group ≡ Revised.revised middle) × (pass_from (suc place) groups middle ≡ AfterPass.passed next)
    by_answer (Revised.revised middle) r = (middle, r, rw (r, pass_from) at e)
    by_answer (Revised.no_plan number) r =
        absurd (let stop : AfterPass.stopped number place ≡ AfterPass.passed next = rw (r, pass_from) at e in let z : ◌≡◌ {A = ℕ} 0 1 = cc in omega arith)

-- what a pass leaves
pub pass_after : (place : ℕ) (groups : List Group) (table next : Table) → SoundOpening groups table
    → pass_from place groups table ≡ AfterPass.passed next → After groups next table
pass_after place [] table next sound e = unfold pass_from in
    let same : next ≡ table = cc in
    rw same (record { inside = inside_refl table; valid = sound.valid; untouched = λ unit apart. (refl, refl) })
pass_after place (group ∷ groups) table next sound e =
    let (middle, turn, rest) = step place group groups table next e in
    let after : After groups next middle = pass_after (suc place) groups middle next (sound_turn sound turn) rest in
    record {
      inside = inside_trans after.inside (turn_inside table group sound.valid (sound.each group first_group) turn);
      valid = after.valid;
      untouched = λ unit apart.
          omega (
            arith,
            turn_other table group sound.valid (sound.each group first_group) turn unit (apart group first_group),
            after.untouched unit (λ g member. apart g (Memᴰ.tail member)),
          );
    }

-- a pass keeps every consistent table inside
pub pass_keeps : (place : ℕ) (groups : List Group) (table : Table) → SoundOpening groups table
    → {inner : Table} → Consistent groups inner → Inside inner table
    → (next : Table) × (pass_from place groups table ≡ AfterPass.passed next) × Inside inner next
unfolding pass_from
pass_keeps place [] table sound consistent inside = (table, refl, inside)
pass_keeps place (group ∷ groups) table sound consistent inside =
    let (turn, kept) =
    turn_keeps table group sound.valid (sound.each group first_group) consistent.valid (consistent.each group first_group) inside in
    let (next, rest, last) =
    pass_keeps (suc place) groups (narrowed table group) (sound_turn sound turn)
    (record { valid = consistent.valid; each = λ g member. consistent.each g (Memᴰ.tail member) }) kept in
    (next, rw (turn, pass_from) rest, last)

-- a pass that changes nothing met a table that every group supports
pub pass_quiet : (place : ℕ) (groups : List Group) (table next : Table) → SoundOpening groups table
    → pass_from place groups table ≡ AfterPass.passed next → Inside table next
    → (group : Group) → Memᴰ group groups → Supported table group
pass_quiet place [] table next sound e wide g member = absurd (Memᴰ.not-nil member)
pass_quiet place (group ∷ groups) table next sound e wide g member =
    let (middle, turn, rest) = step place group groups table next e in
    let after : After groups next middle = pass_after (suc place) groups middle next (sound_turn sound turn) rest in
    let same : middle ≡ table =
    inside_both (turn_inside table group sound.valid (sound.each group first_group) turn) (inside_trans wide after.inside) in
    ⊎_elim
    (λ here. rw here (turn_quiet table group sound.valid (sound.each group first_group) (rw same at turn)))
    (λ later. pass_quiet (suc place) groups table next (sound_rest sound) (rw same at rest) wide g later)
    (Memᴰ.cases_cons member)
