-- The laws of settling, for every list of sound groups and every sound opening table. Assumes nothing.
use Rattle.std.specs.Prelude.{ℕ, suc, ◌≤◌, ◌↔◌, ◌≡◌, refl}
use mathlib.Core.List.{List, Memᴰ}
use Rattle.std.proofs.Math.Option.{none, some}
use Rattle.std.proofs.Common.{ap, arith}
use Rattle.model.specs.Groups.{Group}
use Rattle.works.specs.Consistency.{SoundOpening, Apart, Consistent, NoneInside}
use Rattle.works.specs.Settling.{Outcome, AfterPass, pass, passes_of, settled_table, settle_from, settle}
use Rattle.member_ranges.specs.Tables.{Table, low_of, high_of, width, Inside}
use Rattle.works.specs.Endings.{Greatest}
use Rattle.works.proofs.Laws.Ends.{Right, settle_right}
use Rattle.member_ranges.specs.Laws.Inside.{inside_refl, inside_both, table_same}
use Rattle.works.proofs.Laws.Passes.{sound_inside, pass_after, pass_keeps}

module _ {groups : List Group} {table : Table} (sound : SoundOpening groups table) where
  -- the settled table is the greatest consistent one inside the opening table
  greatest : {final : Table} {passes : ℕ} → settle groups table ≡ Outcome.settled final passes → Greatest groups table final
  greatest e = settled_right (rw e at (settle_right groups table sound))
    where
      settled_right : {most passes : ℕ} {final : Table} → Right groups table most (Outcome.settled final passes) → Greatest groups table final
      settled_right (Right.settled greatest bound) = greatest

  -- the settled table lies inside the opening one
  pub settled_inside : {final : Table} {passes : ℕ} → settle groups table ≡ Outcome.settled final passes → Inside final table
  settled_inside e = (greatest e).after.inside

  -- and is consistent
  pub settled_consistent : {final : Table} {passes : ℕ} → settle groups table ≡ Outcome.settled final passes → Consistent groups final
  settled_consistent e = (greatest e).consistent

  -- every consistent table inside the opening one lies inside the settled one
  pub settled_greatest : {final : Table} {passes : ℕ} → settle groups table ≡ Outcome.settled final passes
      → (inner : Table) → Consistent groups inner → Inside inner table → Inside inner final
  settled_greatest e = (greatest e).holds

  -- units in no group keep their range
  pub untouched : {final : Table} {passes : ℕ} → settle groups table ≡ Outcome.settled final passes → (unit : ℕ) → Apart groups unit
      → (low_of final unit ≡ low_of table unit) × (high_of final unit ≡ high_of table unit)
  untouched e = (greatest e).after.untouched

  -- settling is refused for want of a plan exactly if no table inside the opening one is consistent
  pub refused_exactly : settled_table (settle groups table) ≡ none ↔ NoneInside groups table
  refused_exactly = right_exactly (settle_right groups table sound)
    where
      right_exactly : {most : ℕ} {outcome : Outcome} → Right groups table most outcome → settled_table outcome ≡ none ↔ NoneInside groups table
      right_exactly (Right.settled {final = final} right bound) = (
        λ e. absurd (let z : ◌≡◌ {A = ℕ} 0 1 = cc in omega arith),
        λ none_inside. absurd (none_inside final right.consistent right.after.inside),
      )
      right_exactly (Right.refused none_inside bound) = (λ e. none_inside, λ again. refl)

  -- the passes are at most 1 plus the sum of high − low over the opening table
  pub passes_bound : passes_of (settle groups table) ≤ suc (width table)
  passes_bound = right_bound (settle_right groups table sound)
    where
      right_bound : {most : ℕ} {outcome : Outcome} → Right groups table most outcome → passes_of outcome ≤ most
      right_bound (Right.settled right bound) = bound
      right_bound (Right.refused right bound) = bound

-- settling a consistent table takes one pass and changes nothing
pub consistent_settles : {groups : List Group} {table : Table} → SoundOpening groups table → Consistent groups table
    → settle groups table ≡ Outcome.settled table 1
unfolding settle settle_from
consistent_settles {groups} {table} sound consistent =
    let (next, passing, kept) = pass_keeps 1 groups table sound consistent (inside_refl table) in
    let same : next ≡ table = inside_both (pass_after 1 groups table next sound passing).inside kept in
    let quiet : pass groups table ≡ AfterPass.passed table = rw same at passing in
    rw (quiet, settle_from, table_same table)

-- settling a settled table takes one pass and changes nothing
pub settled_again : {groups : List Group} {table final : Table} {passes : ℕ} → SoundOpening groups table
    → settle groups table ≡ Outcome.settled final passes → settle groups final ≡ Outcome.settled final 1
settled_again sound e =
    consistent_settles
    (sound_inside sound (settled_consistent sound e).valid (settled_inside sound e))
    (settled_consistent sound e)

-- any two orders of the groups give the same settled table, or both are refused for want of a plan
pub any_order : {groups others : List Group} {table : Table} → SoundOpening groups table
    → ((group : Group) → Memᴰ group groups ↔ Memᴰ group others)
    → settled_table (settle groups table) ≡ settled_table (settle others table)
any_order {groups} {others} {table} sound same =
    agree (settle_right groups table sound) (settle_right others table others_sound)
  where
    others_sound : SoundOpening others table
    others_sound = record { valid = sound.valid; each = λ group member. sound.each group ((same group).1 member) }

    there : {inner : Table} → Consistent groups inner → Consistent others inner
    there c = record { valid = c.valid; each = λ group member. c.each group ((same group).1 member) }

    back : {inner : Table} → Consistent others inner → Consistent groups inner
    back c = record { valid = c.valid; each = λ group member. c.each group ((same group).0 member) }

    agree : {most : ℕ} {a b : Outcome} → Right groups table most a → Right others table most b → settled_table a ≡ settled_table b
    agree (Right.settled {final = one} a p) (Right.settled {final = other} b q) =
        ap some
        (inside_both
        (b.holds one (there a.consistent) a.after.inside)
        (a.holds other (back b.consistent) b.after.inside))
    agree (Right.settled {final = one} a p) (Right.refused b q) = absurd (b one (there a.consistent) a.after.inside)
    agree (Right.refused a p) (Right.settled {final = other} b q) = absurd (a other (back b.consistent) b.after.inside)
    agree (Right.refused a p) (Right.refused b q) = refl
