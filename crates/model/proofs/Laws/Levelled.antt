-- Shares near a level are even; the levelled shares are near theirs, in the ranges, and add up to the total. Assumes nothing.
use Rattle.std.specs.Prelude.{ℕ, zero, suc, ◌+◌, ◌-◌, ◌≤◌, ◌<◌, min, Bool, true, false, List, [], ◌∷◌, ◌↔◌, ◌≡◌, refl, ltb, length, get_or}
use Rattle.std.proofs.Common.{◌∙◌, le_of_suc-le-suc, not-suc-le-zero, ltb-true, ltb-false}
use Rattle.std.proofs.Math.Decide.{dec_lt}
use native.Mathlib.Omega.{arith}
use Rattle.model.specs.Shares.{pick, greatest_share, Ranges, Within, sum}
use Rattle.model.specs.Levels.{clamp, clamped, total_at, level, growth, remainder, roomier, by_headroom, levelled}
use Rattle.model.specs.Even.{Even}
use Rattle.model.specs.Ways.{HandsOut, topped, evened}
use Rattle.model.proofs.Laws.Headroom.{growth_most, roomier_most}
use Rattle.model.proofs.Laws.Level.{growth_step, total_at_cons, total_at_mono, total_at_least, total_at_greatest, level_holds, level_next}

-- shares in their ranges add up to at least the lows
pub within_sum_low : {lows highs xs : List ℕ} → Within lows highs xs → sum lows ≤ sum xs
unfolding sum
within_sum_low Within.none = omega arith
within_sum_low (Within.also p q r) = omega (arith, within_sum_low r)

-- shares in their ranges add up to at most the highs
pub within_sum_high : {lows highs xs : List ℕ} → Within lows highs xs → sum xs ≤ sum highs
unfolding sum
within_sum_high Within.none = omega arith
within_sum_high (Within.also p q r) = omega (arith, within_sum_high r)

-- each share is at least v or at its high, and at most v + 1 or at its low
pub data Near (v : ℕ) : List ℕ → List ℕ → List ℕ → Type 0 where
  none : Near v [] [] []
  also : {l h x : ℕ} {ls hs xs : List ℕ} → (x < h → v ≤ x) → (l < x → x ≤ suc v) → Near v ls hs xs
      → Near v (l ∷ ls) (h ∷ hs) (x ∷ xs)

-- what nearness says of the member at an index
pub near_at : {v : ℕ} {lows highs xs : List ℕ} → Near v lows highs xs → (i : ℕ) → i < length xs
    → (get_or xs i 0 < get_or highs i 0 → v ≤ get_or xs i 0) × (get_or lows i 0 < get_or xs i 0 → get_or xs i 0 ≤ suc v)
near_at Near.none i h = absurd (not-suc-le-zero h)
near_at (Near.also p q r) zero h = (p, q)
near_at (Near.also p q r) (suc i) h = near_at r i (le_of_suc-le-suc h)

-- shares near one level are even
pub near_even : {v : ℕ} {lows highs xs : List ℕ} → Near v lows highs xs → Even lows highs xs
near_even r = record { near = λ i j hi hj p q. omega (arith, (near_at r i hi).0 p, (near_at r j hj).1 q) }

-- shares from those clamped at v to those clamped at v + 1: whichever growing members take the copies left over
abbrev pub LevelOrNext : ℕ → List ℕ → List ℕ → List ℕ → Type 0
LevelOrNext v lows highs xs = Within (clamped lows highs v) (clamped lows highs (suc v)) xs

-- such shares are near v
pub between_near : {lows highs xs : List ℕ} → Ranges lows highs → (v : ℕ) → LevelOrNext v lows highs xs → Near v lows highs xs
unfolding clamped
between_near Ranges.none v Within.none = Near.none
between_near (Ranges.also {l = l} {h = h} p q r) v (Within.also {x = x} a b w) =
    Near.also {l = l} {h = h} {x = x} (omega arith) (omega arith) (between_near r v w)

-- such shares are in the ranges
pub between_within : {lows highs xs : List ℕ} → Ranges lows highs → (v : ℕ) → LevelOrNext v lows highs xs → Within lows highs xs
unfolding clamped
between_within Ranges.none v Within.none = Within.none
between_within (Ranges.also {l = l} {h = h} p q r) v (Within.also {x = x} a b w) =
    Within.also {l = l} {h = h} {x = x} (omega arith) (omega arith) (between_within r v w)

-- handing copies to the first growing members gives such shares
pub topped_between : {lows highs : List ℕ} → Ranges lows highs → (v left : ℕ) → LevelOrNext v lows highs (topped lows highs v left)
unfolding clamped topped
topped_between Ranges.none v left = Within.none
topped_between (Ranges.also {l = l} {h = h} p q r) v left =
    let more : ℕ = min left (growth l h v) in
    Within.also {l = clamp l h v} {h = clamp l h (suc v)} {x = clamp l h v + more}
    (omega arith) (omega (arith, growth_step l h v p)) (topped_between r v (left - more))

-- handing copies out at v gives shares near v
pub topped_near : {lows highs : List ℕ} → Ranges lows highs → (v left : ℕ) → Near v lows highs (topped lows highs v left)
topped_near r v left = between_near r v (topped_between r v left)

-- handing copies out at v gives shares in the ranges
pub topped_within : {lows highs : List ℕ} → Ranges lows highs → (v left : ℕ) → Within lows highs (topped lows highs v left)
topped_within r v left = between_within r v (topped_between r v left)

-- what the first member leaves, the others can take
others_fit : (c g a b left : ℕ) → left ≤ (c + g + b) - (c + a) → left - min left g ≤ b - a
others_fit c g a b left fits = omega arith

-- as many copies as members grow at v are all taken
pub topped_adds : {lows highs : List ℕ} → Ranges lows highs → (v left : ℕ)
    → left ≤ total_at lows highs (suc v) - total_at lows highs v
    → sum (topped lows highs v left) ≡ total_at lows highs v + left
unfolding topped sum
topped_adds Ranges.none v left fits = unfold total_at clamped in omega arith
topped_adds (Ranges.also {l = l} {h = h} {ls = ls} {hs = hs} p q r) v left fits =
    let all = rw (total_at_cons l h ls hs v, total_at_cons l h ls hs (suc v), growth_step l h v p) at fits in
    rw (total_at_cons, topped_adds r v (left - min left (growth l h v)) (others_fit _ _ _ _ left all)) (omega arith)

-- of a number or none, at most the number
picked_most : (b : Bool) (g : ℕ) → pick b g 0 ≤ g
picked_most true g = omega arith
picked_most false g = omega arith

-- handing copies out by headroom gives such shares
pub headroom_between : {lows highs : List ℕ} → Ranges lows highs → (v left : ℕ) → LevelOrNext v lows highs (by_headroom lows highs v left)
unfolding clamped by_headroom
headroom_between Ranges.none v left = Within.none
headroom_between (Ranges.also {l = l} {h = h} {ls = ls} {hs = hs} p q r) v left =
    let more : ℕ = pick (ltb (roomier ls hs v h) left) (growth l h v) 0 in
    Within.also {l = clamp l h v} {h = clamp l h (suc v)} {x = clamp l h v + more}
    (omega arith) (omega (arith, growth_step l h v p, picked_most (ltb (roomier ls hs v h) left) (growth l h v))) (headroom_between r v (left - more))

-- the first member takes a copy that is there, and what it leaves the others can take: it takes none only where as many have more headroom
headroom_fits : (b : Bool) (ahead left g c a d : ℕ) → ltb ahead left ≡ b → g ≤ 1 → ahead + a ≤ d → left ≤ (c + g + d) - (c + a)
    → (pick b g 0 ≤ left) × (left - pick b g 0 ≤ d - a)
headroom_fits true ahead left g c a d is one most fits = omega (arith, ltb-true ahead left is)
headroom_fits false ahead left g c a d is one most fits = omega (arith, ltb-false ahead left is)

-- as many copies as members grow at v are all taken
pub headroom_adds : {lows highs : List ℕ} → Ranges lows highs → (v left : ℕ)
    → left ≤ total_at lows highs (suc v) - total_at lows highs v
    → sum (by_headroom lows highs v left) ≡ total_at lows highs v + left
unfolding by_headroom sum
headroom_adds Ranges.none v left fits = unfold total_at clamped in omega arith
headroom_adds (Ranges.also {l = l} {h = h} {ls = ls} {hs = hs} p q r) v left fits =
    let all = rw (total_at_cons l h ls hs v, total_at_cons l h ls hs (suc v), growth_step l h v p) at fits in
    let test : Bool = ltb (roomier ls hs v h) left in
    let most = headroom_fits test (roomier ls hs v h) left (growth l h v) (clamp l h v) (total_at ls hs v) (total_at ls hs (suc v))
    refl (growth_most l h v) (roomier_most r v h) all in
    rw (total_at_cons, headroom_adds r v (left - pick test (growth l h v) 0) most.1) (omega (arith, most.0))

-- one above the level, T is at least a total that the highs reach
next_reaches : {lows highs : List ℕ} → Ranges lows highs → (total : ℕ) → total ≤ sum highs
    → total ≤ total_at lows highs (suc (level lows highs total))
next_reaches {lows} {highs} r total b =
    let v : ℕ = level lows highs total in
    elim (dec_lt v greatest_share) [
      | yes p ↦ omega (arith, level_next lows highs total p)
      | no p ↦ omega (arith, total_at_greatest r, total_at_mono lows highs greatest_share (suc v) (omega arith))
    ]

module _ {lows highs : List ℕ} (r : Ranges lows highs) (total : ℕ) (low : sum lows ≤ total) (high : total ≤ sum highs) where
  -- the copies left over make up the total, and members can take them
  pub remainder_adds : total_at lows highs (level lows highs total) + remainder lows highs total ≡ total
  unfolding remainder
  remainder_adds = omega (arith, level_holds lows highs total (rw (total_at_least r) low))

  pub remainder_fits : remainder lows highs total ≤ total_at lows highs (suc (level lows highs total)) - total_at lows highs (level lows highs total)
  remainder_fits = omega (arith, remainder_adds, next_reaches r total high)

  -- the even shares and the levelled ones are two ways to hand them out
  pub evened_way : HandsOut lows highs (level lows highs total) (remainder lows highs total) (evened lows highs total)
  unfolding evened
  evened_way = record { between = topped_between r _ _; adds = topped_adds r _ _ remainder_fits }

  pub levelled_way : HandsOut lows highs (level lows highs total) (remainder lows highs total) (levelled lows highs total)
  unfolding levelled
  levelled_way = record { between = headroom_between r _ _; adds = headroom_adds r _ _ remainder_fits }

  -- so both add up to the total
  pub evened_adds : sum (evened lows highs total) ≡ total
  evened_adds = evened_way.adds ∙ remainder_adds

  pub levelled_adds : sum (levelled lows highs total) ≡ total
  levelled_adds = levelled_way.adds ∙ remainder_adds

module _ {lows highs : List ℕ} (r : Ranges lows highs) (total : ℕ) where
  -- both are near the level
  evened_near : Near (level lows highs total) lows highs (evened lows highs total)
  unfolding evened
  evened_near = topped_near r _ _

  pub levelled_near : Near (level lows highs total) lows highs (levelled lows highs total)
  unfolding levelled
  levelled_near = between_near r _ (headroom_between r _ _)

  -- in the ranges
  pub evened_within : Within lows highs (evened lows highs total)
  unfolding evened
  evened_within = topped_within r _ _

  pub levelled_within : Within lows highs (levelled lows highs total)
  unfolding levelled
  levelled_within = between_within r _ (headroom_between r _ _)

  -- and even
  pub evened_even : Even lows highs (evened lows highs total)
  evened_even = near_even evened_near

  pub levelled_even : Even lows highs (levelled lows highs total)
  levelled_even = near_even levelled_near

-- 01: shares with a total exist exactly if the lows add up to at most it and the highs to at least it
pub shares_exist : {lows highs : List ℕ} → Ranges lows highs → (total : ℕ)
    → ((xs : List ℕ) × Within lows highs xs × (sum xs ≡ total)) ↔ ((sum lows ≤ total) × (total ≤ sum highs))
shares_exist {lows} {highs} r total = (
  λ s. (omega (arith, within_sum_low s.1), omega (arith, within_sum_high s.1)),
  λ s. (levelled lows highs total, levelled_within r total, levelled_adds r total s.0 s.1),
)
