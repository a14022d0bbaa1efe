-- Rules of who gets the copies left over, and plans asked of their shares. Assumes nothing.
use Rattle.std.specs.Prelude.{ℕ, ◌≤◌, Bool, ◌&&◌, List, length}
use Rattle.model.specs.Shares.{Ranges, sum}
use Rattle.model.specs.Figures.{meets}
use Rattle.model.specs.Levels.{level, remainder}
use Rattle.model.specs.Ways.{HandsOut}
use Rattle.model.specs.Plans.{has_shares}
use Rattle.model.specs.declared.Limits.{Limits}

-- a rule that hands the copies left over out in some way, in every group that has shares
abbrev pub HandingRule : (List ℕ → List ℕ → ℕ → List ℕ) → Type 0
HandingRule rule = (lows highs : List ℕ) → Ranges lows highs → (total : ℕ) → sum lows ≤ total → total ≤ sum highs
    → HandsOut lows highs (level lows highs total) (remainder lows highs total) (rule lows highs total)

-- whether a group has a plan, asked of the shares of a rule
abbrev pub plan_by : (List ℕ → List ℕ → ℕ → List ℕ) → List ℕ → List ℕ → ℕ → Limits → Bool
plan_by rule lows highs total limits = has_shares lows highs total && meets limits (length lows) total (rule lows highs total)
