-- The walk over the groups of a flat list: from the first, over each to the next, to the last. Assumes nothing.
use Prim.Native.Nat.{ℕ, zero, suc, ◌+◌, ◌≤◌, ◌<◌}
use mathlib.Core.List.{List, [], ◌∷◌}
use Rattle.std.specs.Prelude.{◌≡◌, refl, length}
use Rattle.std.proofs.Math.Path.{sym, ap, subst}
use Rattle.std.proofs.Common.{◌∙◌, arith, drop_of_length-le, drop-drop}
use Rattle.std.proofs.Math.ListN.{drop}
use Rattle.model.specs.Groups.{Group}
use Rattle.groups.specs.declared.Stored.{Stored}
use Rattle.groups.specs.Inner.Flat.{stored_at, WholeAt, group_in, groups_from, groups_in, HoldsFrom, Holds}
use Rattle.groups.specs.Laws.Reading.{groups_counted}

module _ (flat : List ℕ) (count : ℕ) where
  abbrev groups : List Group
  groups = groups_in count flat

  -- so many groups are passed, and the one after them starts at an index
  pub record Walk (at passed : ℕ) : Type 0 where
    pub left : ℕ
    pub counted : passed + left ≡ count
    pub holds : HoldsFrom left at flat
    pub rest : drop passed groups ≡ groups_from left at flat

  -- at first none is passed
  pub walk_start : Holds count flat → Walk 0 0
  walk_start holds = record { left = count; counted = omega arith; holds = holds; rest = refl }

  -- at last none is left
  pub walk_end : {at passed : ℕ} → Walk at passed → count ≤ passed → drop passed groups ≡ []
  walk_end {passed = passed} walk end = drop_of_length-le groups {i = passed} (omega (arith, groups_counted count 0 flat))

  -- where some are left, the one at the index lies whole in the list
  pub walk_whole : {at passed : ℕ} → Walk at passed → passed < count → WholeAt flat at
  walk_whole {at} {passed} walk some = whole walk.left walk.counted walk.holds
    where
      whole : (left : ℕ) → passed + left ≡ count → HoldsFrom left at flat → WholeAt flat at
      whole zero counted holds = absurd (omega arith)
      whole (suc left) counted (HoldsFrom.also lies holds) = lies

  -- it is the first of those left, and the walk goes on behind it
  pub record Next (passed : ℕ) (stored : Stored) : Type 0 where
    pub within : stored.from + stored.count ≤ length flat
    pub first : drop passed groups ≡ group_in flat stored ∷ drop (passed + 1) groups
    pub onward : Walk stored.next (passed + 1)

  pub walk_next : {at passed : ℕ} → Walk at passed → passed < count → {stored : Stored} → stored ≡ stored_at flat at → Next passed stored
  unfolding groups_from
  walk_next {at} {passed} walk some read =
      subst (Next passed) (sym read) (next walk.left walk.counted walk.holds walk.rest)
    where
      next : (left : ℕ) → passed + left ≡ count → HoldsFrom left at flat → drop passed groups ≡ groups_from left at flat
          → Next passed (stored_at flat at)
      next zero counted holds rest = absurd (omega arith)
      next (suc left) counted (HoldsFrom.also whole holds) rest =
          let behind : drop (passed + 1) groups ≡ groups_from left (stored_at flat at).next flat =
          sym (drop-drop 1 passed groups) ∙ ap (λ (gs : List Group). drop 1 gs) rest in
          record {
            within = whole;
            first = rw (rest, behind);
            onward = record { left = left; counted = omega arith; holds = holds; rest = behind };
          }
