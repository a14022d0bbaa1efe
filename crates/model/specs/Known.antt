-- The known shares of 01 for one group, and their pair differences: one list of cases, and the check that computes over it. Assumes nothing.
use Rattle.std.specs.Prelude.{ℕ, Bool, true, false, ◌&&◌, List, [], ◌∷◌, eqb, length, replicate}
use Rattle.model.specs.Figures.{deviation, spread, pairs}
use Rattle.model.specs.Levels.{level, levelled}
use Rattle.model.specs.Plans.{turn_of, narrowed_lows, narrowed_highs}
use Rattle.model.specs.declared.Limit.{Limit}
use Rattle.model.specs.declared.Limit.TheVariants.{Any, AtMost}
use Rattle.model.specs.declared.Limits.{Limits}
use Rattle.model.specs.declared.Turn.{Turn}
use Rattle.model.specs.declared.Turn.TheVariants.{Narrowed, NoPlan}

-- the ranges and the total of a known group
pub record Shared : Type 0 where
  pub lows : List ℕ
  pub highs : List ℕ
  pub total : ℕ

-- what 01 says of it
pub data Known : Type 0 where
  shares : Shared → List ℕ → ℕ → ℕ → ℕ → Known
  levels : Shared → ℕ → Known
  ranges : Shared → Limit → Limit → Limit → List ℕ → List ℕ → Known
  refuses : Shared → Limit → Limit → Limit → ℕ → Known

unfoldable pub same_list : List ℕ → List ℕ → Bool
same_list [] [] = true
same_list [] (y ∷ ys) = false
same_list (x ∷ xs) [] = false
same_list (x ∷ xs) (y ∷ ys) = eqb x y && same_list xs ys

-- the number that a turn refuses with, 0 where it narrows
abbrev pub refused_by : Turn → ℕ
refused_by Narrowed = 0
refused_by (NoPlan number) = number

abbrev pub limits_of : Limit → Limit → Limit → Limits
limits_of d s p = record { deviation = d; spread = s; pairs = p }

unfoldable pub is_known : Known → Bool
is_known (shares g xs d s p) =
    let found : List ℕ = levelled g.lows g.highs g.total in
    let n : ℕ = length g.lows in
    same_list found xs && (eqb (deviation n g.total found) d && (eqb (spread n g.total found) s && eqb (pairs found) p))
is_known (levels g v) = eqb (level g.lows g.highs g.total) v
is_known (ranges g d s p lows highs) =
    same_list (narrowed_lows g.lows g.highs g.total (limits_of d s p)) lows
    && same_list (narrowed_highs g.lows g.highs g.total (limits_of d s p)) highs
is_known (refuses g d s p number) = eqb (refused_by (turn_of g.lows g.highs g.total (limits_of d s p))) number

unfoldable pub all : List Known → Bool
all [] = true
all (k ∷ ks) = is_known k && all ks

-- 001, example 1
unfoldable pub four : Shared
four = record { lows = 8 ∷ 4 ∷ 1 ∷ 3 ∷ []; highs = 10 ∷ 7 ∷ 5 ∷ 4 ∷ []; total = 20 }

-- 001, example 5
unfoldable pub ten : Shared
ten = record { lows = replicate 10 0; highs = replicate 10 1; total = 5 }

-- 002's example
unfoldable pub three : ℕ → Shared
three total = record { lows = 1 ∷ 2 ∷ 3 ∷ []; highs = 3 ∷ 6 ∷ 9 ∷ []; total = total }

unfoldable pub known : List Known
known =
    shares four (8 ∷ 4 ∷ 4 ∷ 4 ∷ []) 24 48 12
    ∷ ranges four (AtMost 28) Any Any (8 ∷ 4 ∷ 3 ∷ 3 ∷ []) (8 ∷ 5 ∷ 5 ∷ 4 ∷ [])
    ∷ ranges four Any (AtMost 56) Any (8 ∷ 4 ∷ 3 ∷ 3 ∷ []) (8 ∷ 5 ∷ 5 ∷ 4 ∷ [])
    ∷ ranges four Any (AtMost 55) Any (8 ∷ 4 ∷ 4 ∷ 4 ∷ []) (8 ∷ 4 ∷ 4 ∷ 4 ∷ [])
    ∷ ranges four Any Any (AtMost 16) (8 ∷ 4 ∷ 3 ∷ 3 ∷ []) (8 ∷ 5 ∷ 5 ∷ 4 ∷ [])
    ∷ ranges four Any Any (AtMost 15) (8 ∷ 4 ∷ 4 ∷ 4 ∷ []) (8 ∷ 4 ∷ 4 ∷ 4 ∷ [])
    ∷ refuses four Any (AtMost 47) Any 12
    ∷ refuses four Any Any (AtMost 11) 12
    ∷ shares ten (1 ∷ 1 ∷ 1 ∷ 1 ∷ 1 ∷ 0 ∷ 0 ∷ 0 ∷ 0 ∷ 0 ∷ []) 50 25 25
    ∷ refuses ten (AtMost 30) Any Any 12
    ∷ refuses ten (AtMost 50) Any Any 0
    ∷ shares (three 10) (3 ∷ 3 ∷ 4 ∷ []) 4 2 2
    ∷ shares (three 9) (3 ∷ 3 ∷ 3 ∷ []) 0 0 0
    ∷ shares (three 6) (1 ∷ 2 ∷ 3 ∷ []) 6 6 4
    ∷ shares (three 18) (3 ∷ 6 ∷ 9 ∷ []) 18 54 12
    ∷ levels (three 18) 1_000_000
    ∷ refuses (three 5) Any Any Any 11
    ∷ refuses (three 19) Any Any Any 11
    ∷ []
