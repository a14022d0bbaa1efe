-- General facts on lists of shares: ranges by index, and sums after one share is replaced. Assumes nothing.
use Rattle.std.specs.Prelude.{ℕ, zero, suc, ◌+◌, ◌≤◌, ◌<◌, List, [], ◌∷◌, ◌++◌, ◌≡◌, refl, length, get_or, set, take}
use Rattle.std.proofs.Common.{ap, sym, ◌∙◌, le_refl, le_of_suc-le-suc, arith, length-append, get_or-take, take-take}
use Rattle.std.proofs.lemmas.List.{get_or_push}
use Rattle.std.proofs.Math.Nat.{suc_inj}
use Rattle.std.proofs.Math.Seq.{take-append_seam}
use Rattle.std.specs.List.{sum_by}
use Rattle.std.proofs.lemmas.List.Recursion.{is_sum_by}
use Rattle.model.specs.Shares.{Ranges, Within, greatest_share, sum, sum_of}

-- shares within ranges are as many as the lows and the highs
pub within_length : {lows highs xs : List ℕ} → Within lows highs xs → (length lows ≡ length xs) × (length highs ≡ length xs)
within_length Within.none = (refl, refl)
within_length (Within.also p q w) = (ap suc (within_length w).0, ap suc (within_length w).1)

-- each share is from its low to its high
pub within_at : {lows highs xs : List ℕ} → Within lows highs xs
    → (i : ℕ) → i < length xs → (get_or lows i 0 ≤ get_or xs i 0) × (get_or xs i 0 ≤ get_or highs i 0)
within_at Within.none i h = absurd (omega arith)
within_at (Within.also p q w) zero h = (p, q)
within_at (Within.also p q w) (suc i) h = within_at w i (le_of_suc-le-suc h)

-- a share in its range may take another's place
pub within_set : {lows highs xs : List ℕ} → Within lows highs xs
    → (i y : ℕ) → get_or lows i 0 ≤ y → y ≤ get_or highs i 0 → Within lows highs (set xs i y)
within_set Within.none i y p q = Within.none
within_set (Within.also a b w) zero y p q = Within.also p q w
within_set (Within.also a b w) (suc i) y p q = Within.also a b (within_set w i y p q)

-- lists of one length, with each share from its low to its high, are within the ranges
pub within_of : (lows highs xs : List ℕ) → length lows ≡ length xs → length highs ≡ length xs
    → ((i : ℕ) → i < length xs → (get_or lows i 0 ≤ get_or xs i 0) × (get_or xs i 0 ≤ get_or highs i 0)) → Within lows highs xs
within_of [] [] [] a b f = Within.none
within_of (l ∷ ls) (h ∷ hs) (x ∷ xs) a b f =
    Within.also (f 0 (omega arith)).0 (f 0 (omega arith)).1
    (within_of ls hs xs (suc_inj a) (suc_inj b) (λ i p. f (suc i) (omega arith)))
within_of [] (h ∷ hs) [] a b f = absurd (omega arith)
within_of [] hs (x ∷ xs) a b f = absurd (omega arith)
within_of (l ∷ ls) hs [] a b f = absurd (omega arith)
within_of (l ∷ ls) [] (x ∷ xs) a b f = absurd (omega arith)

-- ranges have as many highs as lows
pub ranges_length : {lows highs : List ℕ} → Ranges lows highs → length highs ≡ length lows
ranges_length Ranges.none = refl
ranges_length (Ranges.also p q r) = ap suc (ranges_length r)

-- each low is at most its high, and each high is a share
pub ranges_at : {lows highs : List ℕ} → Ranges lows highs
    → (i : ℕ) → i < length lows → (get_or lows i 0 ≤ get_or highs i 0) × (get_or highs i 0 ≤ greatest_share)
ranges_at Ranges.none i h = absurd (omega arith)
ranges_at (Ranges.also p q r) zero h = (p, q)
ranges_at (Ranges.also p q r) (suc i) h = ranges_at r i (le_of_suc-le-suc h)

-- the lows are within their ranges, and so are the highs
pub lows_within : {lows highs : List ℕ} → Ranges lows highs → Within lows highs lows
lows_within Ranges.none = Within.none
lows_within (Ranges.also p q r) = Within.also (le_refl _) p (lows_within r)

pub highs_within : {lows highs : List ℕ} → Ranges lows highs → Within lows highs highs
highs_within Ranges.none = Within.none
highs_within (Ranges.also p q r) = Within.also p (le_refl _) (highs_within r)

-- lists of one length, with each low at most its high and each high a share, are ranges
pub ranges_of : (lows highs : List ℕ) → length highs ≡ length lows
    → ((i : ℕ) → i < length lows → (get_or lows i 0 ≤ get_or highs i 0) × (get_or highs i 0 ≤ greatest_share)) → Ranges lows highs
ranges_of [] [] a f = Ranges.none
ranges_of (l ∷ ls) (h ∷ hs) a f =
    Ranges.also (f 0 (omega arith)).0 (f 0 (omega arith)).1
    (ranges_of ls hs (suc_inj a) (λ i p. f (suc i) (omega arith)))
ranges_of [] (h ∷ hs) a f = absurd (omega arith)
ranges_of (l ∷ ls) [] a f = absurd (omega arith)

-- of a list that is passed from its end the first numbers are left, and the last of these is passed next
pub from_end : (xs rest less : List ℕ) (x : ℕ) → rest ≡ take (length rest) xs → rest ≡ less ++ (x ∷ [])
    → (length rest ≡ suc (length less)) × (x ≡ get_or xs (length less) 0) × (less ≡ take (length less) xs)
from_end xs rest less x first is =
    let more : length rest ≡ suc (length less) = omega (arith, ap length is, length-append less (x ∷ [])) in
    let all : less ++ (x ∷ []) ≡ take (suc (length less)) xs = sym is ∙ first ∙ ap (λ (n : ℕ). take n xs) more in (
      more,
      sym (get_or_push less x 0 (length less) refl) ∙ ap (λ (l : List ℕ). get_or l (length less) 0) all
          ∙ get_or-take (suc (length less)) xs (length less) 0 (omega arith),
      sym (take-append_seam less (x ∷ [])) ∙ ap (take (length less)) all ∙ take-take (length less) (suc (length less)) xs (omega arith),
    )

-- a sum over shares changes by what one replaced share changes it
pub sum_of_set : (f : ℕ → ℕ) (xs : List ℕ) (i y : ℕ) → i < length xs → sum_of f (set xs i y) + f (get_or xs i 0) ≡ sum_of f xs + f y
unfolding sum_of
sum_of_set f [] i y h = absurd (omega arith)
sum_of_set f (x ∷ xs) zero y h = omega arith
sum_of_set f (x ∷ xs) (suc i) y h = omega (arith, sum_of_set f xs i y (le_of_suc-le-suc h))

-- the total is the sum of the shares themselves
pub sum_sum_of : (xs : List ℕ) → sum xs ≡ sum_of (λ x. x) xs
unfolding sum sum_of
sum_sum_of [] = refl
sum_sum_of (x ∷ xs) = ap (λ (n : ℕ). x + n) (sum_sum_of xs)

-- and the library's sum
pub sum_is : (xs : List ℕ) → sum xs ≡ sum_by (λ x. x) xs
unfolding sum
sum_is = is_sum_by sum (λ x. x) refl (λ _ _. refl)

-- the total changes by what one replaced share changes it
pub sum_set : (xs : List ℕ) (i y : ℕ) → i < length xs → sum (set xs i y) + get_or xs i 0 ≡ sum xs + y
sum_set xs i y h = simp sum_sum_of (sum_of_set (λ x. x) xs i y h)

-- shares that are each at most another list's have at most its total
pub sum_le : (xs ys : List ℕ) → length xs ≡ length ys
    → ((i : ℕ) → i < length xs → get_or xs i 0 ≤ get_or ys i 0) → sum xs ≤ sum ys
unfolding sum
sum_le [] [] a f = omega arith
sum_le (x ∷ xs) (y ∷ ys) a f =
    omega (arith, f 0 (omega arith), sum_le xs ys (suc_inj a) (λ i p. f (suc i) (omega arith)))
sum_le [] (y ∷ ys) a f = absurd (omega arith)
sum_le (x ∷ xs) [] a f = absurd (omega arith)

-- and a lower one where one of them is lower
pub sum_lt : (xs ys : List ℕ) → length xs ≡ length ys → ((i : ℕ) → i < length xs → get_or xs i 0 ≤ get_or ys i 0)
    → (k : ℕ) → k < length xs → get_or xs k 0 < get_or ys k 0 → sum xs < sum ys
unfolding sum
sum_lt (x ∷ xs) (y ∷ ys) a f zero h p = omega (arith, sum_le xs ys (suc_inj a) (λ i q. f (suc i) (omega arith)))
sum_lt (x ∷ xs) (y ∷ ys) a f (suc k) h p =
    omega (arith, f 0 (omega arith), sum_lt xs ys (suc_inj a) (λ i q. f (suc i) (omega arith)) k (le_of_suc-le-suc h) p)
sum_lt [] ys a f k h p = absurd (omega arith)
sum_lt (x ∷ xs) [] a f k h p = absurd (omega arith)
