-- A flat list of groups holds them whole, and gives them back. Assumes nothing.
use Rattle.std.specs.Prelude.{ℕ, zero, suc, ◌+◌, ◌-◌, ◌≤◌, Bool, true, false, not, ◌≢◌, ◌≡◌, refl, eqb, length, get_or, drop}
use mathlib.Core.List.{List, [], ◌∷◌, ◌++◌, append_assoc}
use Rattle.std.proofs.Common.{sym, subst, ◌∙◌, add-one, arith, ne_eqb, length-append, length-drop, length-take-le, get_or-append-add}
use Rattle.std.proofs.Math.Path.{ap}
use Rattle.std.proofs.Math.Seq.{take-append_seam, drop-append-add, get_or-append_seam}
use Rattle.model.specs.Groups.{Group}
use Rattle.model.specs.declared.Limit.{Limit}
use Rattle.model.specs.declared.Limit.TheVariants.{Any, AtMost}
use Rattle.groups.specs.declared.Stored.{Stored}
use Rattle.groups.specs.Inner.Flat.{limit_code, limit_of, pairs_code, pairs_of, flat_group, flatten, stored_at, WholeAt, group_in, groups_from, groups_in}
use Rattle.groups.specs.Inner.Flat.{HoldsFrom, Holds}
use Rattle.groups.specs.Memberships.{UnsaidAny}

-- a limit's number stands for the limit
limit_code_lem : (limit : Limit) → limit_of (limit_code limit) ≡ limit
limit_code_lem Any = refl
limit_code_lem (AtMost most) = rw add-one

-- a number but 0 stands for a limit one lower
pub limit_above : (code : ℕ) → code ≢ 0 → AtMost (code - 1) ≡ limit_of code
limit_above zero some = absurd (some refl)
limit_above (suc most) some = ap AtMost (omega arith)

-- a pairs limit's number stands for the limit, where what was not there is any
pairs_code_lem : (there : Bool) (limit : Limit) → (there ≡ false → limit ≡ Any) → pairs_of (pairs_code there limit) ≡ limit
pairs_code_lem false limit any = sym (any refl)
pairs_code_lem true limit any = rw add-one (limit_code_lem limit)

-- and says whether it was there
there_code : (there : Bool) (limit : Limit) → not (eqb (pairs_code there limit) 0) ≡ there
there_code false limit = refl
there_code true limit = ap not (ne_eqb (limit_code limit + 1) 0 (λ e. omega arith))

-- a number but 0 stands for the limit of the number below
pub pairs_above : (code : ℕ) → code ≢ 0 → limit_of (code - 1) ≡ pairs_of code
pairs_above zero some = absurd (some refl)
pairs_above (suc below) some = let e : suc below - 1 ≡ below = omega arith in ap limit_of e

-- there are as many groups as are read
pub groups_counted : (count at : ℕ) (flat : List ℕ) → length (groups_from count at flat) ≡ count
unfolding groups_from
groups_counted zero at flat = refl
groups_counted (suc count) at flat = ap suc (groups_counted count (stored_at flat at).next flat)

-- a group that lies whole in the list has as many members as it says
pub size_stored : (flat : List ℕ) (stored : Stored) → stored.from + stored.count ≤ length flat
    → length (group_in flat stored).members ≡ stored.count
size_stored flat stored within = length-take-le stored.count (drop stored.from flat) (omega (arith, length-drop stored.from flat))

-- a group behind some numbers
module _ (before : List ℕ) (g : Group) (rest : List ℕ) where
  abbrev list : List ℕ
  list = before ++ (flat_group g ++ rest)

  abbrev at : ℕ
  at = length before

  -- says how many members it has
  count_back : get_or list (at + 4) 0 ≡ length g.members
  count_back = get_or-append-add before (flat_group g ++ rest) 4 0

  -- is read back
  group_back : UnsaidAny g → group_in list (stored_at list at) ≡ g
  group_back any =
      rw (
        get_or-append_seam before,
        get_or-append-add before (flat_group g ++ rest) 1 0,
        get_or-append-add before (flat_group g ++ rest) 2 0,
        get_or-append-add before (flat_group g ++ rest) 3 0,
        count_back,
        drop-append-add before (flat_group g ++ rest) 5,
        take-append_seam g.members rest,
        limit_code_lem g.limits.deviation,
        limit_code_lem g.limits.spread,
        pairs_code_lem g.pairs_there g.limits.pairs any,
        there_code g.pairs_there g.limits.pairs,
      )

  -- ends where its numbers end
  next_back : (stored_at list at).next ≡ length (before ++ flat_group g)
  next_back = rw (count_back, length-append before (flat_group g)) (omega arith)

  -- lies whole in the list
  whole_back : WholeAt list at
  whole_back = omega (arith, count_back, length-append before (flat_group g ++ rest), length-append g.members rest)

  abbrev behind : List ℕ
  behind = before ++ flat_group g

  apart : list ≡ behind ++ rest
  apart = sym (append_assoc before (flat_group g) rest)

  -- the groups from it on are it and those behind it
  groups_on : UnsaidAny g → (count : ℕ) → groups_from (suc count) at list ≡ g ∷ groups_from count (length behind) (behind ++ rest)
  unfolding groups_from
  groups_on any count =
      ap (λ (h : Group). h ∷ groups_from count (stored_at list at).next list) (group_back any)
      ∙ ap (λ (i : ℕ). g ∷ groups_from count i list) next_back
      ∙ ap (λ (l : List ℕ). g ∷ groups_from count (length behind) l) apart

  -- whole, where those behind it are
  holds_on : (count : ℕ) → HoldsFrom count (length behind) (behind ++ rest) → HoldsFrom (suc count) at list
  holds_on count holds =
      let moved : HoldsFrom count (length behind) list = subst (λ (l : List ℕ). HoldsFrom count (length behind) l) (sym apart) holds in
      HoldsFrom.also whole_back (subst (λ (i : ℕ). HoldsFrom count i list) (sym next_back) moved)

-- every group without a pairs limit has the limit any
pub data AllUnsaidAny : List Group → Type 0 where
  none : AllUnsaidAny []
  also : {g : Group} {gs : List Group} → UnsaidAny g → AllUnsaidAny gs → AllUnsaidAny (g ∷ gs)

-- groups behind some numbers are read back
groups_back : (before : List ℕ) {groups : List Group} → AllUnsaidAny groups → (rest : List ℕ)
    → groups_from (length groups) (length before) (before ++ (flatten groups ++ rest)) ≡ groups
unfolding groups_from flatten
groups_back before AllUnsaidAny.none rest = refl
groups_back before (AllUnsaidAny.also {g} {gs} any others) rest =
    ap (λ (l : List ℕ). groups_from (suc (length gs)) (length before) (before ++ l)) (append_assoc (flat_group g) (flatten gs) rest)
    ∙ groups_on before g (flatten gs ++ rest) any (length gs)
    ∙ ap (λ (others : List Group). g ∷ others) (groups_back (before ++ flat_group g) others rest)

-- and lie there whole
whole_groups : (before : List ℕ) (groups : List Group) (rest : List ℕ)
    → HoldsFrom (length groups) (length before) (before ++ (flatten groups ++ rest))
unfolding flatten
whole_groups before [] rest = HoldsFrom.none
whole_groups before (g ∷ groups) rest =
    subst (λ (l : List ℕ). HoldsFrom (suc (length groups)) (length before) (before ++ l)) (sym (append_assoc (flat_group g) (flatten groups) rest))
    (holds_on before g (flatten groups ++ rest) (length groups) (whole_groups (before ++ flat_group g) groups rest))

-- the groups of a flat list, whatever comes after them
pub flatten_groups : {groups : List Group} → AllUnsaidAny groups → (rest : List ℕ) → groups_in (length groups) (flatten groups ++ rest) ≡ groups
flatten_groups any rest = groups_back [] any rest

-- it holds them whole
pub flatten_holds : (groups : List Group) (rest : List ℕ) → Holds (length groups) (flatten groups ++ rest)
flatten_holds groups rest = whole_groups [] groups rest
