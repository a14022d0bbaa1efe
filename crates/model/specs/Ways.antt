-- The ways to hand out the copies left over at a level: all have the same figures. Assumes nothing.
use Rattle.std.specs.Prelude.{ℕ, suc, ◌+◌, ◌-◌, ◌≤◌, ◌<◌, min, List, [], ◌∷◌, ◌⊎◌, ◌≡◌, length, get_or}
use Rattle.model.specs.Shares.{Within, sum}
use Rattle.model.specs.Levels.{clamp, clamped, total_at, level, growth, remainder, headroom}

-- so many copies are handed out at v, one each to members that can take one more: each share is the one at v, or the one at v + 1
pub record HandsOut (lows highs : List ℕ) (v left : ℕ) (xs : List ℕ) : Type 0 where
  pub between : Within (clamped lows highs v) (clamped lows highs (suc v)) xs
  pub adds : sum xs ≡ total_at lows highs v + left

-- 01: member i has "low at most v and high above v"
abbrev pub CanTake : List ℕ → List ℕ → ℕ → ℕ → Type 0
CanTake lows highs v i = (get_or lows i 0 ≤ v) × (v < get_or highs i 0)

-- 02: the copies go "to members with the most high − v first, and among equals to the earlier"
pub record HeadroomFirst (lows highs : List ℕ) (v : ℕ) (xs : List ℕ) : Type 0 where
  pub first : (i j : ℕ) → i < length xs → j < length xs → CanTake lows highs v i → CanTake lows highs v j
      → get_or xs i 0 ≤ v → v < get_or xs j 0
      → (headroom (get_or highs i 0) v < headroom (get_or highs j 0) v) ⊎ ((headroom (get_or highs i 0) v ≡ headroom (get_or highs j 0) v) × (j < i))

-- 01 before item 6 of 02: the copies left over "go one each to the first members", in order, that can take one more
unfoldable pub topped : List ℕ → List ℕ → ℕ → ℕ → List ℕ
topped [] highs v left = []
topped (l ∷ lows) [] v left = []
topped (l ∷ lows) (h ∷ highs) v left =
    let more : ℕ = min left (growth l h v) in
    (clamp l h v + more) ∷ topped lows highs v (left - more)

-- even shares with the total, in the way of before: a group's limits are asked of these, since every way answers alike
unfoldable pub evened : List ℕ → List ℕ → ℕ → List ℕ
evened lows highs total = topped lows highs (level lows highs total) (remainder lows highs total)
