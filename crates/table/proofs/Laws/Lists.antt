-- Laws of a list whose first entries come from another. Assumes nothing.
use Rattle.std.specs.Prelude.{ℕ, zero, suc, ◌<◌, ◌≤◌, min, ◌≡◌, refl, List, [], ◌∷◌, ◌++◌, map, length, get_or, set, take, drop, replicate}
use Rattle.std.proofs.Common.{sym, ap, ◌∙◌, le_of_suc-le-suc, not-suc-le-zero, arith, length-append, length-drop}
use Rattle.std.proofs.Math.Nat.{suc_inj, zero-min, min-zero, suc-min-suc}
use Rattle.std.proofs.lemmas.List.{length-replicate, length-map}
use Rattle.model.specs.Shares.{most_units}
use Rattle.table.specs.declared.Range.{Range}
use Rattle.table.specs.Tables.{lows_in, highs_in}
use Rattle.table.specs.Inner.Tables.{over, ranges, zeros, bounds_of}

-- it is as long as the list written over
pub over_length : {A : Type 0} (n : ℕ) (xs ys : List A) → length (over n xs ys) ≡ length ys
over_length zero xs ys = refl
over_length (suc n) [] ys = refl
over_length (suc n) (x ∷ xs) [] = refl
over_length (suc n) (x ∷ xs) (y ∷ ys) = ap suc (over_length n xs ys)

-- to write entry i of a table's field after the first i is to have written the first i + 1
pub over_map : {A B : Type 0} (f : A → B) (i : ℕ) (xs : List A) (ys : List B) (d : A) → i < length xs
    → set (over i (map f xs) ys) i (f (get_or xs i d)) ≡ over (suc i) (map f xs) ys
over_map f i [] ys d h = absurd (not-suc-le-zero h)
over_map f zero (x ∷ xs) [] d h = refl
over_map f zero (x ∷ xs) (y ∷ ys) d h = refl
over_map f (suc i) (x ∷ xs) [] d h = refl
over_map {B = B} f (suc i) (x ∷ xs) (y ∷ ys) d h = ap (λ (zs : List B). f x ∷ zs) (over_map f i xs ys d (le_of_suc-le-suc h))

-- and so of a table of ranges, from its lows and its highs
pub over_ranges : (i : ℕ) (ls hs : List ℕ) (ts : List Range) → i < length ls → i < length hs
    → set (over i (ranges ls hs) ts) i (record { low = get_or ls i 0; high = get_or hs i 0 }) ≡ over (suc i) (ranges ls hs) ts
over_ranges i [] hs ts p q = absurd (not-suc-le-zero p)
over_ranges i (l ∷ ls) [] ts p q = absurd (not-suc-le-zero q)
over_ranges zero (l ∷ ls) (h ∷ hs) [] p q = refl
over_ranges zero (l ∷ ls) (h ∷ hs) (t ∷ ts) p q = refl
over_ranges (suc i) (l ∷ ls) (h ∷ hs) [] p q = refl
over_ranges (suc i) (l ∷ ls) (h ∷ hs) (t ∷ ts) p q =
    ap (λ (zs : List Range). record { low = l; high = h } ∷ zs) (over_ranges i ls hs ts (le_of_suc-le-suc p) (le_of_suc-le-suc q))

-- the zeros are an array of 256 numbers
pub zeros_are : zeros ≡ replicate most_units 0
unfolding zeros
zeros_are = refl

pub zeros_length : length zeros ≡ most_units
zeros_length = ap length zeros_are ∙ length-replicate {A = ℕ} most_units 0

-- the first n of a list whose first n come from another
take_over : {A : Type 0} (n : ℕ) (xs ys : List A) → n ≤ length xs → n ≤ length ys → take n (over n xs ys) ≡ take n xs
take_over zero xs ys p q = refl
take_over (suc n) [] ys p q = absurd (not-suc-le-zero p)
take_over (suc n) (x ∷ xs) [] p q = absurd (not-suc-le-zero q)
take_over {A} (suc n) (x ∷ xs) (y ∷ ys) p q = ap (λ (zs : List A). x ∷ zs) (take_over n xs ys (le_of_suc-le-suc p) (le_of_suc-le-suc q))

-- to take no more than there are
take_least : {A : Type 0} (m : ℕ) (xs : List A) → take (min (length xs) m) xs ≡ take m xs
take_least zero xs = rw (min-zero (length xs)) refl
take_least (suc m) [] = rw (zero-min (suc m)) refl
take_least {A} (suc m) (x ∷ xs) = rw (suc-min-suc (length xs) m) (ap (λ (zs : List A). x ∷ zs) (take_least m xs))

-- the numbers that a table's bounds hold of a field are the field's first 256
pub bounds_hold : (f : Range → ℕ) (t : List Range) → take (min (length t) most_units) (over (min (length t) most_units) (map f t) zeros) ≡ take most_units (map f t)
bounds_hold f t =
    take_over (min (length t) most_units) (map f t) zeros (rw (length-map t f) (omega arith)) (rw zeros_length (omega arith))
    ∙ ap (λ (n : ℕ). take (min n most_units) (map f t)) (sym (length-map t f)) ∙ take_least most_units (map f t)

-- nor does it matter how many more than there are go
drop_least : {A : Type 0} (m : ℕ) (xs : List A) → drop (min (length xs) m) xs ≡ drop m xs
drop_least zero xs = rw (min-zero (length xs)) refl
drop_least (suc m) [] = rw (zero-min (suc m)) refl
drop_least (suc m) (x ∷ xs) = rw (suc-min-suc (length xs) m) (drop_least m xs)

-- the lows and highs of a table written over with as many as there are: what stands past them does not matter
over_fields : (n : ℕ) (ls hs ks js : List ℕ) (t : List Range) → length ls ≡ n → length hs ≡ n → n ≤ length t
    → (lows_in (over n (ranges (ls ++ ks) (hs ++ js)) t) ≡ ls ++ drop n (lows_in t)) × (highs_in (over n (ranges (ls ++ ks) (hs ++ js)) t) ≡ hs ++ drop n (highs_in t))
over_fields zero [] [] ks js t p q le = (refl, refl)
over_fields zero [] (h ∷ hs) ks js t p q le = absurd (omega (arith, q))
over_fields zero (l ∷ ls) hs ks js t p q le = absurd (omega (arith, p))
over_fields (suc n) [] hs ks js t p q le = absurd (omega (arith, p))
over_fields (suc n) (l ∷ ls) [] ks js t p q le = absurd (omega (arith, q))
over_fields (suc n) (l ∷ ls) (h ∷ hs) ks js [] p q le = absurd (not-suc-le-zero le)
over_fields (suc n) (l ∷ ls) (h ∷ hs) ks js (r ∷ t) p q le =
    let rest = over_fields n ls hs ks js t (suc_inj p) (suc_inj q) (le_of_suc-le-suc le) in
    (ap (λ (zs : List ℕ). l ∷ zs) rest.0, ap (λ (zs : List ℕ). h ∷ zs) rest.1)

-- lists that fill an array together with what it held past them are as long as the bounds say
pub front_length : (f : Range → ℕ) (t : List Range) (ls : List ℕ)
    → length (ls ++ drop (min (length t) most_units) (over (min (length t) most_units) (map f t) zeros)) ≡ most_units → length ls ≡ min (length t) most_units
front_length f t ls whole =
    let n : ℕ = min (length t) most_units in
    let kept : List ℕ = over n (map f t) zeros in
    let all : length kept ≡ most_units = over_length n (map f t) zeros ∙ zeros_length in
    omega (arith, whole, length-append ls (drop n kept), length-drop n kept, all)

-- a table after bounds whose first numbers are these: its entries past the first 256 keep their values
pub put_table : (t : List Range) (ls hs : List ℕ) → let n : ℕ = min (length t) most_units in
    let lows : List ℕ = ls ++ drop n (bounds_of t).lows in let highs : List ℕ = hs ++ drop n (bounds_of t).highs in
    length lows ≡ most_units → length highs ≡ most_units
    → (lows_in (over n (ranges lows highs) t) ≡ ls ++ drop most_units (lows_in t)) × (highs_in (over n (ranges lows highs) t) ≡ hs ++ drop most_units (highs_in t))
put_table t ls hs p q =
    let n : ℕ = min (length t) most_units in
    let both = over_fields n ls hs (drop n (bounds_of t).lows) (drop n (bounds_of t).highs) t (front_length (λ r. r.low) t ls p) (front_length (λ r. r.high) t hs q) (omega arith) in
    (both.0 ∙ ap (λ (zs : List ℕ). ls ++ zs) (past (λ r. r.low)), both.1 ∙ ap (λ (zs : List ℕ). hs ++ zs) (past (λ r. r.high)))
  where
    past : (f : Range → ℕ) → drop (min (length t) most_units) (map f t) ≡ drop most_units (map f t)
    past f = ap (λ (n : ℕ). drop (min n most_units) (map f t)) (sym (length-map t f)) ∙ drop_least most_units (map f t)
