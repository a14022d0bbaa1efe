-- Groups written one after another. Assumes nothing.
use Rattle.std.specs.Prelude.{ℕ, suc, ◌+◌, ◌≤◌, ◌<◌, Bool, List, [], ◌∷◌, ◌++◌, ◌≡◌, refl, length, get_or, drop, set}
use Rattle.std.proofs.Common.{append_assoc, append-nil, sym, ap, ◌∙◌, arith, add-one, length-append, length-drop, drop-cons, drop-drop}
use Rattle.std.proofs.lemmas.List.Edits.{sets, sets-eq}
use Rattle.std.proofs.lemmas.List.{set_at}
use Rattle.model.specs.Groups.{Group}
use Rattle.model.specs.declared.Limits.{Limits}
use Rattle.groups.specs.Inner.Flat.{head_of, flat_group, flatten, flat_length}
use Rattle.groups.specs.Memberships.{memberships}

-- one group more at the end
pub flatten_snoc : (gs : List Group) (g : Group) → flatten (gs ++ g ∷ []) ≡ flatten gs ++ flat_group g
unfolding flatten
flatten_snoc [] g = rw (append-nil g.members)
flatten_snoc (h ∷ gs) g = rw (flatten_snoc gs g) (sym (append_assoc (flat_group h) (flatten gs) (flat_group g)))

-- the memberships with one group more
pub memberships_snoc : (gs : List Group) (g : Group) → memberships (gs ++ g ∷ []) ≡ memberships gs + length g.members
unfolding memberships
memberships_snoc [] g = omega arith
memberships_snoc (h ∷ gs) g = rw (memberships_snoc gs g) (omega arith)

-- 5 numbers a group, and its members
pub length_flatten : (gs : List Group) → length (flatten gs) ≡ flat_length (length gs) (memberships gs)
unfolding flatten memberships
length_flatten [] = refl
length_flatten (g ∷ gs) = rw (length-append (flat_group g) (flatten gs), length_flatten gs) (omega arith)

-- a store behind a front leaves it
pub set_behind : (p r : List ℕ) (k v : ℕ) → set (p ++ r) (length p + k) v ≡ p ++ set r k v
set_behind [] r k v = let e : 0 + k ≡ k = omega arith in rw e
set_behind (x ∷ p) r k v = let e : suc (length p) + k ≡ suc (length p + k) = omega arith in rw (e, set_behind p r k v)

sets_behind : (p r : List ℕ) (k : ℕ) (vs : List ℕ) → sets (p ++ r) (length p + k) vs ≡ p ++ sets r k vs
sets_behind p r k [] = refl
sets_behind p r k (v ∷ vs) =
    let e : suc (length p + k) ≡ length p + suc k = omega arith in rw (set_behind p r k v, e) (sets_behind p (set r k v) (suc k) vs)

module _ (total : ℕ) (limits : Limits) (there : Bool) (n : ℕ) (members : List ℕ) where
  abbrev head : List ℕ
  head = head_of total limits there n

  -- a head and its members stored at the front
  head_stored : (r : List ℕ) → 5 + length members ≤ length r → sets (sets r 5 members) 0 head ≡ (head ++ members) ++ drop (5 + length members) r
  head_stored [] h = absurd (omega arith)
  head_stored (x ∷ []) h = absurd (omega arith)
  head_stored (x ∷ y ∷ []) h = absurd (omega arith)
  head_stored (x ∷ y ∷ z ∷ []) h = absurd (omega arith)
  head_stored (x ∷ y ∷ z ∷ w ∷ []) h = absurd (omega arith)
  head_stored (x ∷ y ∷ z ∷ w ∷ v ∷ r) h =
      let e : 5 + length members ≡ suc (suc (suc (suc (suc (length members))))) = omega arith in
      let k : 0 + length members ≡ length members = omega arith in
      rw (sets_behind (x ∷ y ∷ z ∷ w ∷ v ∷ []) r 0 members, e) (ap (λ (l : List ℕ). head ++ l) (sets-eq members r 0 (omega arith) ∙ rw k))

  -- a head and its members stored behind a front
  pub stored : (p d : List ℕ) (k : ℕ) → length p ≡ k → k + 5 + length members ≤ length d
      → sets (sets (p ++ drop k d) (k + 5) members) k head ≡ (p ++ (head ++ members)) ++ drop (k + 5 + length members) d
  stored p d k e h =
      let r : List ℕ = drop k d in
      let inner : sets (p ++ r) (k + 5) members ≡ p ++ sets r 5 members =
      ap (λ (i : ℕ). sets (p ++ r) (i + 5) members) (sym e) ∙ sets_behind p r 5 members in
      let z : k ≡ length p + 0 = omega arith in
      let outer : sets (p ++ sets r 5 members) k head ≡ p ++ sets (sets r 5 members) 0 head =
      ap (λ (i : ℕ). sets (p ++ sets r 5 members) i head) z ∙ sets_behind p (sets r 5 members) 0 head in
      let front : sets (sets r 5 members) 0 head ≡ (head ++ members) ++ drop (5 + length members) r =
      head_stored r (omega (arith, length-drop k d)) in
      let i : k + (5 + length members) ≡ k + 5 + length members = omega arith in
      ap (λ (l : List ℕ). sets l k head) inner
      ∙ outer
      ∙ ap (λ (l : List ℕ). p ++ l)
      (front ∙ ap (λ (l : List ℕ). (head ++ members) ++ l) (drop-drop (5 + length members) k d ∙ ap (λ (j : ℕ). drop j d) i))
      ∙ sym (append_assoc p (head ++ members) (drop (k + 5 + length members) d))

-- one number stored behind a front
pub put_behind : (xs d : List ℕ) (i v : ℕ) → length xs ≡ i → i < length d → set (xs ++ drop i d) i v ≡ (xs ++ v ∷ []) ++ drop (i + 1) d
put_behind xs d i v e h =
    rw (add-one, drop-cons d i 0, append_assoc) (set_at xs (get_or d i 0) (drop (suc i) d) v i e)
