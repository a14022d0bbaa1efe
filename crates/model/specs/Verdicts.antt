-- What a turn's answer means: the shares and the plans there are. Assumes nothing.
use Rattle.std.specs.Prelude.{ℕ, List, ◌≡◌}
use Rattle.model.specs.Shares.{Within, sum}
use Rattle.model.specs.Plans.{Plan}
use Rattle.model.specs.declared.Limits.{Limits}
use Rattle.model.specs.declared.Turn.{Turn}
use Rattle.model.specs.declared.Turn.TheVariants.{Narrowed, NoPlan}

-- some shares in the ranges have the total
abbrev pub Shares : List ℕ → List ℕ → ℕ → Type 0
Shares lows highs total = (xs : List ℕ) × Within lows highs xs × (sum xs ≡ total)

-- some plan is there
abbrev pub Plans : List ℕ → List ℕ → ℕ → Limits → Type 0
Plans lows highs total limits = (xs : List ℕ) × Plan lows highs total limits xs

-- 01: 11 "lows add up to more than S or highs to less", so no shares; 12 "shares exist, none within the limits"
pub data Verdict (lows highs : List ℕ) (total : ℕ) (limits : Limits) : Turn → Type 0 where
  narrowed : Plans lows highs total limits → Verdict lows highs total limits Narrowed
  no_shares : (Shares lows highs total → ⊥) → Verdict lows highs total limits (NoPlan 11)
  no_plan : Shares lows highs total → (Plans lows highs total limits → ⊥) → Verdict lows highs total limits (NoPlan 12)
