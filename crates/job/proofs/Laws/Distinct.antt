-- Numbers are distinct, by marks: each is marked when it is met, and none is met marked. Assumes nothing.
use Rattle.std.specs.Prelude.{ℕ, zero, suc, ◌+◌, ◌-◌, ◌≤◌, ◌<◌, Bool, true, false, not, ◌&&◌, ◌||◌, List, [], ◌∷◌, map, ◌≡◌, refl, eqb, leb, length, get_or, set, drop, replicate}
use Rattle.std.proofs.Common.{sym, ◌∙◌, le_of_suc-le-suc, arith, eq-eqb, ne_eqb, eqb-true, leb-true, length-set, add-one, get_or-set_same, get_or-set_other, drop-cons}
use Rattle.std.proofs.Math.Decide.{ℕ_discrete}
use Rattle.std.proofs.lemmas.Bool.{not-true}
use Rattle.std.proofs.lemmas.List.{length-replicate, get_or-replicate}
use Rattle.model.proofs.Laws.Tests.{both, both_left, both_right, clash, either_right, and_exchanged, and_regrouped}
use Rattle.job.specs.Job.{contains, distinct}
use Rattle.form.specs.Named.{named, all_named, member_of}
use Rattle.job.specs.Inner.Below.{AllBelow}
use Rattle.job.specs.Inner.Distinct.{fresh_by}

-- none is marked
unfoldable unmarked : List ℕ → List ℕ → Bool
unmarked marks [] = true
unmarked marks (x ∷ xs) = eqb (get_or marks x 0) 0 && unmarked marks xs

-- marking one more number
marked : (marks xs : List ℕ) (x : ℕ) → x < length marks → unmarked (set marks x 1) xs ≡ not (contains x xs) && unmarked marks xs
unfolding unmarked contains
marked marks [] x h = refl
marked marks (y ∷ ys) x h =
    elim (ℕ_discrete x y) [
      | yes p ↦ rw (← p, get_or-set_same marks x 1 0 h, eq-eqb x x refl)
      | no p ↦
          rw (get_or-set_other marks x y 1 0 (λ e. p (sym e)), ne_eqb x y p, marked marks ys x h)
          (and_exchanged (eqb (get_or marks y 0) 0) (not (contains x ys)) (unmarked marks ys))
    ]

fresh_distinct : (marks xs : List ℕ) → AllBelow (length marks) xs → fresh_by marks xs ≡ unmarked marks xs && distinct xs
unfolding fresh_by unmarked distinct AllBelow
fresh_distinct marks [] b = refl
fresh_distinct marks (x ∷ xs) b =
    rw (fresh_distinct (set marks x 1) xs (rw (length-set marks x 1) b.1), marked marks xs x b.0)
    (and_regrouped (eqb (get_or marks x 0) 0) (not (contains x xs)) (unmarked marks xs) (distinct xs))

no_marks : (n : ℕ) (xs : List ℕ) → AllBelow n xs → unmarked (replicate n 0) xs ≡ true
unfolding unmarked AllBelow
no_marks n [] b = refl
no_marks n (x ∷ xs) b = rw (get_or-replicate {A = ℕ} n x 0 0 b.0, no_marks n xs b.1)

-- with no marks at first, that is being distinct
pub fresh_is_distinct : (n : ℕ) (xs : List ℕ) → AllBelow n xs → fresh_by (replicate n 0) xs ≡ distinct xs
fresh_is_distinct n xs b = fresh_distinct (replicate n 0) xs (rw (length-replicate {A = ℕ} n 0) b) ∙ rw (no_marks n xs b)

holds_members : (units m : ℕ) (ms : List ℕ) → 1 ≤ m → all_named units ms ≡ true → contains (member_of m) (map member_of ms) ≡ contains m ms
unfolding contains all_named
holds_members units m [] l h = refl
holds_members units m (k ∷ ks) l h =
    let n = leb-true 1 k (both_left (leb 1 k) (leb k units) (both_left (named units k) (all_named units ks) h)) in
    let again = holds_members units m ks l (both_right (named units k) (all_named units ks) h) in
    elim (ℕ_discrete m k)
    [ yes p ↦ rw (p, eq-eqb (k - 1) (k - 1) refl, eq-eqb k k refl) | no p ↦ rw (ne_eqb m k p, ne_eqb (m - 1) (k - 1) (λ e. p (omega arith))) again ]

-- members are distinct exactly where the unit numbers are
pub distinct_members : (units : ℕ) (ms : List ℕ) → all_named units ms ≡ true → distinct (map member_of ms) ≡ distinct ms
unfolding all_named distinct
distinct_members units [] h = refl
distinct_members units (m ∷ ms) h =
    let n = leb-true 1 m (both_left (leb 1 m) (leb m units) (both_left (named units m) (all_named units ms) h)) in
    let rest = both_right (named units m) (all_named units ms) h in
    rw (holds_members units m ms n rest, distinct_members units ms rest)

-- and below the count
pub members_below : (units n : ℕ) (ms : List ℕ) → units ≤ n → all_named units ms ≡ true → AllBelow n (map member_of ms)
unfolding all_named AllBelow
members_below units n [] l h = tt
members_below units n (m ∷ ms) l h =
    let t = both_left (named units m) (all_named units ms) h in
    let one = leb-true 1 m (both_left (leb 1 m) (leb m units) t) in
    let k = leb-true m units (both_right (leb 1 m) (leb m units) t) in
    (omega arith, members_below units n ms l (both_right (named units m) (all_named units ms) h))

-- a number of the list is below
pub below_at : (n : ℕ) (xs : List ℕ) (i : ℕ) → AllBelow n xs → i < length xs → get_or xs i 0 < n
unfolding AllBelow
below_at n [] i b h = absurd (omega arith)
below_at n (x ∷ xs) zero b h = b.0
below_at n (x ∷ xs) (suc i) b h = below_at n xs i b.1 (omega arith)

-- the next number of the list
pub fresh_next : (marks xs : List ℕ) (i : ℕ) → i < length xs
    → fresh_by marks (drop i xs) ≡ eqb (get_or marks (get_or xs i 0) 0) 0 && fresh_by (set marks (get_or xs i 0) 1) (drop (i + 1) xs)
unfolding fresh_by
fresh_next marks xs i h = rw (add-one, drop-cons xs i 0)

-- no number is left
pub fresh_end : (marks : List ℕ) → fresh_by marks [] ≡ true
unfolding fresh_by
fresh_end marks = refl

-- a number at a place of a list is found there
found_at : (x : ℕ) (xs : List ℕ) (k : ℕ) → k < length xs → x ≡ get_or xs k 0 → contains x xs ≡ true
unfolding contains
found_at x [] k h e = absurd (omega arith)
found_at x (y ∷ ys) zero h e = rw (eq-eqb x y e)
found_at x (y ∷ ys) (suc k) h e = either_right (eqb x y) (found_at x ys k (le_of_suc-le-suc h) e)

-- no two places of distinct numbers have the same
pub distinct_at : (xs : List ℕ) → distinct xs ≡ true → (j k : ℕ) → j < length xs → k < length xs → get_or xs j 0 ≡ get_or xs k 0 → j ≡ k
unfolding distinct
distinct_at [] held j k p q e = absurd (omega arith)
distinct_at (x ∷ xs) held zero zero p q e = refl
distinct_at (x ∷ xs) held zero (suc k) p q e =
    absurd (clash (found_at x xs k (le_of_suc-le-suc q) e) (not-true (contains x xs) (both_left _ _ held)))
distinct_at (x ∷ xs) held (suc j) zero p q e =
    absurd (clash (found_at x xs j (le_of_suc-le-suc p) (sym e)) (not-true (contains x xs) (both_left _ _ held)))
distinct_at (x ∷ xs) held (suc j) (suc k) p q e =
    omega (arith, distinct_at xs (both_right (not (contains x xs)) _ held) j k (le_of_suc-le-suc p) (le_of_suc-le-suc q) e)

-- a number that is found stands at some place
place_of : (x : ℕ) (xs : List ℕ) → contains x xs ≡ true → (k : ℕ) × (k < length xs) × (x ≡ get_or xs k 0)
unfolding contains
place_of x [] found = absurd (let z : ◌≡◌ {A = ℕ} 0 1 = cc in omega arith)
place_of x (y ∷ ys) found = by_test (eqb x y) refl found (place_of x ys)
  where
    by_test : (t : Bool) → eqb x y ≡ t → t || contains x ys ≡ true → (contains x ys ≡ true → (k : ℕ) × (k < length ys) × (x ≡ get_or ys k 0))
        → (k : ℕ) × (k < length (y ∷ ys)) × (x ≡ get_or (y ∷ ys) k 0)
    by_test true same found later = (0, omega arith, eqb-true x y same)
    by_test false same found later = let (k, below, is) = later found in (suc k, omega arith, is)

-- and numbers of which no two places have the same are distinct
pub different_distinct : (xs : List ℕ) → ((j k : ℕ) → j < length xs → k < length xs → get_or xs j 0 ≡ get_or xs k 0 → j ≡ k) → distinct xs ≡ true
unfolding distinct
different_distinct [] different = refl
different_distinct (x ∷ xs) different =
    both (by_test (contains x xs) refl)
    (different_distinct xs (λ j k p q same. omega (arith, different (suc j) (suc k) (omega arith) (omega arith) same)))
  where
    by_test : (t : Bool) → contains x xs ≡ t → not t ≡ true
    by_test false missing = refl
    by_test true found =
        let (k, below, is) = place_of x xs found in
        absurd (let clash : 0 ≡ suc k = different 0 (suc k) (omega arith) (omega arith) is in omega arith)
