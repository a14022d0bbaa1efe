-- Plans of a group, and its narrowing. Assumes nothing.
use Rattle.std.specs.Prelude.{ℕ, zero, suc, ◌-◌, Bool, true, false, ◌&&◌, List, [], ◌∷◌, ◌≡◌, leb, length, get_or, set}
use Rattle.model.specs.Shares.{pick, sum, Within}
use Rattle.model.specs.Figures.{meets}
use Rattle.model.specs.Ways.{evened}
use Rattle.model.specs.declared.Limits.{Limits}
use Rattle.model.specs.declared.Turn.{Turn}
use Rattle.model.specs.declared.Turn.TheVariants.{Narrowed, NoPlan}

-- 01: a plan gives "each member a share in its range, adding up to S, with both figures within the limits"; 02: "three limits"
pub record Plan (lows highs : List ℕ) (total : ℕ) (limits : Limits) (xs : List ℕ) : Type 0 where
  pub within : Within lows highs xs
  pub adds : sum xs ≡ total
  pub meets : meets limits (length lows) total xs ≡ true

-- 01: shares with total S exist "exactly if the lows add up to at most S and the highs to at least S"
abbrev pub has_shares : List ℕ → List ℕ → ℕ → Bool
has_shares lows highs total = leb (sum lows) total && leb total (sum highs)

-- a plan is found exactly where the even shares are one, whoever has the copies left over
unfoldable pub has_plan : List ℕ → List ℕ → ℕ → Limits → Bool
has_plan lows highs total limits =
    has_shares lows highs total && meets limits (length lows) total (evened lows highs total)

-- 01: 11 where no shares have the total, 12 where some have and none is within the limits
unfoldable pub turn_of : List ℕ → List ℕ → ℕ → Limits → Turn
turn_of lows highs total limits =
    pick (has_shares lows highs total) (pick (has_plan lows highs total limits) Narrowed (NoPlan 12)) (NoPlan 11)

-- a value of member i is taken by some plan: the group with i's range pinned to the value has a plan
abbrev pub taken : List ℕ → List ℕ → ℕ → Limits → ℕ → ℕ → Bool
taken lows highs total limits i v = has_plan (set lows i v) (set highs i v) total limits

-- the first of v, v + 1, .. that passes the test, after at most the given number of steps
unfoldable pub first_up : (ℕ → Bool) → ℕ → ℕ → ℕ
first_up test zero v = v
first_up test (suc steps) v = elim (test v) [ true ↦ v | false ↦ first_up test steps (suc v) ]

-- the first of v, v − 1, .. that passes the test, after at most the given number of steps
unfoldable pub first_down : (ℕ → Bool) → ℕ → ℕ → ℕ
first_down test zero v = v
first_down test (suc steps) v = elim (test v) [ true ↦ v | false ↦ first_down test steps (v - 1) ]

-- 01: narrowing keeps "for each member exactly the values taken by some plan": the least and the greatest of member i
unfoldable pub narrowed_low : List ℕ → List ℕ → ℕ → Limits → ℕ → ℕ
narrowed_low lows highs total limits i =
    first_up (taken lows highs total limits i) (get_or highs i 0 - get_or lows i 0) (get_or lows i 0)

unfoldable pub narrowed_high : List ℕ → List ℕ → ℕ → Limits → ℕ → ℕ
narrowed_high lows highs total limits i =
    first_down (taken lows highs total limits i) (get_or highs i 0 - get_or lows i 0) (get_or highs i 0)

-- f 0, f 1, .. f (n − 1)
unfoldable pub tabulate : ℕ → (ℕ → ℕ) → List ℕ
tabulate zero f = []
tabulate (suc n) f = f 0 ∷ tabulate n (λ i. f (suc i))

-- the narrowed ranges of all members, from the ranges at the start of the turn
unfoldable pub narrowed_lows : List ℕ → List ℕ → ℕ → Limits → List ℕ
narrowed_lows lows highs total limits = tabulate (length lows) (narrowed_low lows highs total limits)

unfoldable pub narrowed_highs : List ℕ → List ℕ → ℕ → Limits → List ℕ
narrowed_highs lows highs total limits = tabulate (length lows) (narrowed_high lows highs total limits)
