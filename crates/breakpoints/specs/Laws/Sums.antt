-- Sums of any f over shares at a level: with copies left over, from level to level, and with a member pinned. Assumes nothing.
use Prim.Native.Nat.{ℕ, zero, suc, ◌+◌, ◌-◌, ◌*◌, ◌≤◌, ◌<◌, max}
use mathlib.Core.List.{List, [], ◌∷◌}
use Rattle.std.specs.Prelude.{◌≡◌, length, get_or, set, drop}
use Rattle.std.proofs.Math.Path.{refl, ap}
use Rattle.std.proofs.Math.Decide.{dec_le}
use Rattle.std.proofs.Common.{le_of_suc-le-suc, drop_of_length-le, drop-cons}
use native.Mathlib.Omega.{arith}
use Rattle.std.proofs.Math.Numerals.{add-one}
use Rattle.model.specs.Shares.{Ranges, Within, sum, sum_of}
use Rattle.model.specs.Levels.{clamp, clamped, total_at}
use Rattle.model.proofs.Laws.Levelled.{LevelOrNext, within_sum_low}

-- a product with a sum
parts : (a b : ℕ) {c : ℕ} (x : ℕ) → a + b ≡ c → a * x + b * x ≡ c * x
parts a b x e = rw (← e) (omega arith)

module _ (f : ℕ → ℕ) where
  -- a copy more moves a share's part from w to w + 1, since its member grows at w
  share_sum : (l h w x : ℕ) → l ≤ h → clamp l h w ≤ x → x ≤ clamp l h (suc w)
      → f x + (x - clamp l h w) * f w ≡ f (clamp l h w) + (x - clamp l h w) * f (suc w)
  share_sum l h w x p low high =
      elim (dec_le x (clamp l h w)) [
        | yes none ↦
            let less : x - clamp l h w ≡ 0 = omega arith in
            let same : x ≡ clamp l h w = omega arith in
            rw (less, same) (omega arith)
        | no some ↦
            let less : x - clamp l h w ≡ 1 = omega arith in
            let at : clamp l h w ≡ w = omega arith in
            let next : x ≡ suc w = omega arith in
            rw (less, at, next) (omega arith)
      ]

  -- shares from those at w to those at w + 1 have as many parts moved from w to w + 1 as copies more: whoever takes them
  pub between_sum : {lows highs xs : List ℕ} → Ranges lows highs → (w : ℕ) → LevelOrNext w lows highs xs
      → (left : ℕ) → sum xs ≡ total_at lows highs w + left
      → sum_of f xs + left * f w ≡ sum_of f (clamped lows highs w) + left * f (suc w)
  unfolding sum_of clamped sum total_at
  between_sum Ranges.none w Within.none left adds = let none : left ≡ 0 = omega arith in rw none (omega arith)
  between_sum (Ranges.also {l} {h} {ls} {hs} p q r) w (Within.also {x} {xs} a b rest) left adds =
      let more : ℕ = x - clamp l h w in
      let others : sum xs ≡ total_at ls hs w + (left - more) = omega (arith, within_sum_low rest) in
      let all : more + (left - more) ≡ left = omega (arith, within_sum_low rest) in
      omega (
        arith,
        share_sum l h w x p a b,
        between_sum r w rest (left - more) others,
        parts more (left - more) (f w) all,
        parts more (left - more) (f (suc w)) all,
      )

  -- a share's part at w, by what its low and its high are there
  clamp_sum : (l h w : ℕ) → l ≤ h → f (clamp l h w) + f (max h w) ≡ f (max l w) + f h
  clamp_sum l h w p =
      elim (dec_le w h) [
        | yes a ↦
            let e : clamp l h w ≡ max l w = omega arith in
            let g : max h w ≡ h = omega arith in rw (e, g) (omega arith)
        | no a ↦
            let e : clamp l h w ≡ h = omega arith in
            let g : max h w ≡ max l w = omega arith in rw (e, g) (omega arith)
      ]

  -- a sum over shares at w splits into one over the lows and one over the highs, and neither sees the order
  pub clamped_sum : {lows highs : List ℕ} → Ranges lows highs → (w : ℕ)
      → sum_of f (clamped lows highs w) + sum_of (λ h. f (max h w)) highs ≡ sum_of (λ l. f (max l w)) lows + sum_of f highs
  unfolding sum_of clamped
  clamped_sum Ranges.none w = refl
  clamped_sum (Ranges.also {l} {h} p q r) w = omega (arith, clamp_sum l h w p, clamped_sum r w)

  -- a member pinned to v has the part of v in place of its own
  pub pinned_sum : {lows highs : List ℕ} → Ranges lows highs → (i v w : ℕ) → i < length lows
      → sum_of f (clamped (set lows i v) (set highs i v) w) + f (clamp (get_or lows i 0) (get_or highs i 0) w)
      ≡ sum_of f (clamped lows highs w) + f v
  unfolding sum_of clamped
  pinned_sum Ranges.none i v w below = absurd (omega arith)
  pinned_sum (Ranges.also {l} {h} p q r) zero v w below =
      let e : clamp v v w ≡ v = omega arith in rw e (omega arith)
  pinned_sum (Ranges.also {l} {h} p q r) (suc i) v w below = omega (arith, pinned_sum r i v w (le_of_suc-le-suc below))

  -- one part of a sum is at most the sum
  pub part_at_most : (xs : List ℕ) (i : ℕ) → i < length xs → f (get_or xs i 0) ≤ sum_of f xs
  unfolding sum_of
  part_at_most [] i below = absurd (omega arith)
  part_at_most (x ∷ xs) zero below = omega arith
  part_at_most (x ∷ xs) (suc i) below = omega (arith, part_at_most xs i (le_of_suc-le-suc below))

-- the parts of the numbers before i add up to a sum
pub record Added (f : ℕ → ℕ) (xs : List ℕ) (i sum : ℕ) : Type 0 where
  pub adds : sum + sum_of f (drop i xs) ≡ sum_of f xs

module _ (f : ℕ → ℕ) (xs : List ℕ) where
  pub added_none : Added f xs 0 0
  added_none = record { adds = omega arith }

  -- one number more
  pub added_one : {i sum : ℕ} → i < length xs → Added f xs i sum → Added f xs (i + 1) (sum + f (get_or xs i 0))
  unfolding sum_of
  added_one {i} {sum} below added =
      record { adds = rw add-one (omega (arith, added.adds, ap (sum_of f) (drop-cons xs i 0 below))) }

  -- all of them
  pub added_all : {i sum : ℕ} → length xs ≤ i → Added f xs i sum → sum ≡ sum_of f xs
  unfolding sum_of
  added_all {i} {sum} past added = omega (arith, added.adds, ap (sum_of f) (drop_of_length-le xs past))

-- at level 0 the shares are the lows
pub clamped_least : {lows highs : List ℕ} → Ranges lows highs → clamped lows highs 0 ≡ lows
unfolding clamped
clamped_least Ranges.none = refl
clamped_least (Ranges.also {l} {h} p q r) = let low : clamp l h 0 ≡ l = omega arith in rw (low, clamped_least r)
