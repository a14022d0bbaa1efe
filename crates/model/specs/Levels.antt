-- Levelling a group: the level, the remainder and the levelled shares. Assumes nothing.
use Rattle.std.specs.Prelude.{ℕ, zero, suc, ◌+◌, ◌-◌, ◌/◌, min, max, true, false, ◌&&◌, List, [], ◌∷◌, leb, ltb}
use Rattle.model.specs.Shares.{pick, greatest_share, sum}

-- 01: v moved into the range: "its high if v is above that, its low if v is below"
abbrev pub clamp : ℕ → ℕ → ℕ → ℕ
clamp low high v = max low (min v high)

unfoldable pub clamped : List ℕ → List ℕ → ℕ → List ℕ
clamped [] highs v = []
clamped (l ∷ lows) [] v = []
clamped (l ∷ lows) (h ∷ highs) v = clamp l h v ∷ clamped lows highs v

-- 01: T(v)
unfoldable pub total_at : List ℕ → List ℕ → ℕ → ℕ
total_at lows highs v = sum (clamped lows highs v)

-- the greatest v below top with T(v) at most the total, from one at which it is, by halving
unfoldable pub level_below : ℕ → List ℕ → List ℕ → ℕ → ℕ → ℕ → ℕ
level_below zero lows highs total v top = v
level_below (suc steps) lows highs total v top =
    let middle : ℕ = (v + top) / 2 in
    elim (leb (total_at lows highs middle) total)
    [ true ↦ level_below steps lows highs total middle top | false ↦ level_below steps lows highs total v middle ]

-- 01: the level, "the greatest v from 0 to 1,000,000 with T(v) at most S"
unfoldable pub level : List ℕ → List ℕ → ℕ → ℕ
level lows highs total = level_below 20 lows highs total 0 (suc greatest_share)

-- 01: a member "with low at most v and high above v" can take one copy more
abbrev pub growth : ℕ → ℕ → ℕ → ℕ
growth low high v = pick (leb low v && ltb v high) 1 0

-- 01: the copies left over, S − T(v) at the level v
unfoldable pub remainder : List ℕ → List ℕ → ℕ → ℕ
remainder lows highs total = total - total_at lows highs (level lows highs total)

-- 02: a member's headroom at v, "high − v"
abbrev pub headroom : ℕ → ℕ → ℕ
headroom high v = high - v

-- how many members that can take one copy more have more headroom than one with this high
unfoldable pub roomier : List ℕ → List ℕ → ℕ → ℕ → ℕ
roomier [] highs v high = 0
roomier (l ∷ lows) [] v high = 0
roomier (l ∷ lows) (h ∷ highs) v high =
    pick (ltb (headroom high v) (headroom h v)) (growth l h v) 0 + roomier lows highs v high

-- 02: the copies left over "go to members with the most high − v first, and among equals to the earlier", one each: a member that can
-- take one gets it where copies are left for more members than those after it that have more headroom
unfoldable pub by_headroom : List ℕ → List ℕ → ℕ → ℕ → List ℕ
by_headroom [] highs v left = []
by_headroom (l ∷ lows) [] v left = []
by_headroom (l ∷ lows) (h ∷ highs) v left =
    let more : ℕ = pick (ltb (roomier lows highs v h) left) (growth l h v) 0 in
    (clamp l h v + more) ∷ by_headroom lows highs v (left - more)

-- 01: the levelled shares
unfoldable pub levelled : List ℕ → List ℕ → ℕ → List ℕ
levelled lows highs total = by_headroom lows highs (level lows highs total) (remainder lows highs total)
