-- The level is the greatest v from 0 to 1,000,000 with T(v) at most the total. Assumes nothing.
use Prim.Native.Nat.{ℕ, zero, suc, ◌+◌, ◌/◌, ◌^◌, ◌≤◌, ◌<◌}
use Rattle.std.specs.Prelude.{List, [], ◌∷◌, ◌≡◌, refl}
use Rattle.std.proofs.Math.Decide.{dec_le, dec_lt}
use native.Mathlib.Omega.{arith, by_contra}
use Rattle.std.proofs.Common.{le-leb, lt-ltb, le-ltb}
use Rattle.std.proofs.lemmas.Bool.{lt-leb}
use Rattle.model.specs.Shares.{greatest_share, Ranges, sum}
use Rattle.model.specs.Levels.{clamp, clamped, total_at, level_below, level, growth}

-- v moved into a range is at least its low
pub clamp_at_least : (l h v : ℕ) → l ≤ clamp l h v
clamp_at_least l h v = omega arith

-- v moved into a range is at most its high
pub clamp_at_most : (l h v : ℕ) → l ≤ h → clamp l h v ≤ h
clamp_at_most l h v p = omega arith

-- a higher v moved into a range is no lower
pub clamp_mono : (l h v w : ℕ) → v ≤ w → clamp l h v ≤ clamp l h w
clamp_mono l h v w p = omega arith

-- from v to v + 1 a share rises by one exactly if its low is at most v and its high above v
pub growth_step : (l h v : ℕ) → l ≤ h → clamp l h (suc v) ≡ clamp l h v + growth l h v
growth_step l h v p =
    elim (dec_le l v) [
      | yes a ↦ elim (dec_lt v h) [
        | yes b ↦ rw (le-leb l v a, lt-ltb v h b) (omega arith)
        | no b ↦ rw (le-leb l v a, le-ltb v h (omega arith)) (omega arith)
      ]
      | no a ↦ rw (lt-leb l v (omega arith)) (omega arith)
    ]

-- T(v) is the first member's part and T(v) of the others
pub total_at_cons : (l h : ℕ) (ls hs : List ℕ) (v : ℕ) → total_at (l ∷ ls) (h ∷ hs) v ≡ clamp l h v + total_at ls hs v
unfolding total_at clamped sum
total_at_cons l h ls hs v = refl

-- T(v) never falls as v rises
pub total_at_mono : (lows highs : List ℕ) (v w : ℕ) → v ≤ w → total_at lows highs v ≤ total_at lows highs w
total_at_mono [] highs v w p = unfold total_at clamped in omega arith
total_at_mono (l ∷ ls) [] v w p = unfold total_at clamped in omega arith
total_at_mono (l ∷ ls) (h ∷ hs) v w p =
    rw (total_at_cons l h ls hs v, total_at_cons l h ls hs w)
    (omega (arith, clamp_mono l h v w p, total_at_mono ls hs v w p))

-- T(0) is the sum of the lows
pub total_at_least : {lows highs : List ℕ} → Ranges lows highs → total_at lows highs 0 ≡ sum lows
unfolding total_at clamped sum
total_at_least Ranges.none = refl
total_at_least (Ranges.also p q r) = omega (arith, total_at_least r)

-- T(1,000,000) is the sum of the highs
pub total_at_greatest : {lows highs : List ℕ} → Ranges lows highs → total_at lows highs greatest_share ≡ sum highs
unfolding total_at clamped sum
total_at_greatest Ranges.none = refl
total_at_greatest (Ranges.also p q r) = omega (arith, total_at_greatest r)

-- what each halving keeps
module _ (lows highs : List ℕ) (total : ℕ) (P : ℕ → ℕ → ℕ → Type 0)
    (up : (steps v top : ℕ) → total_at lows highs ((v + top) / 2) ≤ total → P (suc steps) v top → P steps ((v + top) / 2) top)
    (down : (steps v top : ℕ) → total < total_at lows highs ((v + top) / 2) → P (suc steps) v top → P steps v ((v + top) / 2))
  where
    -- the search has at its end
    halving : (steps v top : ℕ) → P steps v top → (end : ℕ) × P 0 (level_below steps lows highs total v top) end
    unfolding level_below
    halving zero v top p = (top, p)
    halving (suc steps) v top p =
        elim (dec_le (total_at lows highs ((v + top) / 2)) total) [
          | yes a ↦ rw (le-leb _ _ a, level_below) (halving steps ((v + top) / 2) top (up steps v top a p))
          | no a ↦
              let b : total < total_at lows highs ((v + top) / 2) = omega arith in
              rw (lt-leb _ _ b, level_below) (halving steps v ((v + top) / 2) (down steps v top b p))
        ]

    -- and so has the level
    at_level : P 20 0 (suc greatest_share) → (end : ℕ) × P 0 (level lows highs total) end
    unfolding level
    at_level = halving 20 0 (suc greatest_share)

-- the level is a share
pub level_share : (lows highs : List ℕ) (total : ℕ) → level lows highs total ≤ greatest_share
level_share lows highs total =
    let shares : ℕ → ℕ → ℕ → Type 0 = λ steps v top. (v ≤ greatest_share) × (top ≤ suc greatest_share) in
    (at_level lows highs total shares (λ s v top a p. omega arith) (λ s v top a p. omega arith) (omega arith)).1.0

-- T at the level is at most the total, where T(0) is
pub level_holds : (lows highs : List ℕ) (total : ℕ) → total_at lows highs 0 ≤ total
    → total_at lows highs (level lows highs total) ≤ total
level_holds lows highs total h =
    let holds : ℕ → ℕ → ℕ → Type 0 = λ steps v top. total_at lows highs v ≤ total in
    (at_level lows highs total holds (λ s v top a p. a) (λ s v top a p. p) h).1

-- a share with T at most the total is at most the level
pub level_greatest : (lows highs : List ℕ) (total v : ℕ) → v ≤ greatest_share → total_at lows highs v ≤ total
    → v ≤ level lows highs total
level_greatest lows highs total w q h =
    let below : ℕ → ℕ → ℕ → Type 0 = λ steps v top. (w < top) × (top ≤ v + 2 ^ steps) in
    let down : (s v top : ℕ) → total < total_at lows highs ((v + top) / 2) → below (suc s) v top → below s v ((v + top) / 2) =
    λ s v top a p. (by_contra _ _ (λ c. omega (arith, total_at_mono lows highs ((v + top) / 2) w (omega arith))), omega arith) in
    omega (arith, (at_level lows highs total below (λ s v top a p. omega arith) down (omega arith)).1)

-- one above the level, T is above the total
pub level_next : (lows highs : List ℕ) (total : ℕ) → level lows highs total < greatest_share
    → total < total_at lows highs (suc (level lows highs total))
level_next lows highs total p =
    by_contra _ _ (λ c. omega (arith, level_greatest lows highs total (suc (level lows highs total)) p (omega arith)))

-- the level is the one share with T at most the total and above it at the next
pub level_unique : (lows highs : List ℕ) (total v : ℕ) → v ≤ greatest_share → total_at lows highs v ≤ total
    → (v < greatest_share → total < total_at lows highs (suc v)) → v ≡ level lows highs total
level_unique lows highs total v q h next =
    elim (dec_lt v (level lows highs total)) [
      | yes a ↦
          absurd
          (omega (
            arith,
            level_share lows highs total,
            level_holds lows highs total (omega (arith, total_at_mono lows highs 0 v (omega arith))),
            total_at_mono lows highs (suc v) (level lows highs total) a,
            next (omega (arith, level_share lows highs total)),
          ))
      | no a ↦ omega (arith, level_greatest lows highs total v q h)
    ]
