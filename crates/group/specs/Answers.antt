-- What narrowing one group answers: 01's words for each answer. Assumes nothing.
use Rattle.std.specs.Prelude.{ℕ, List, length, Result, Ok, Err}
use Rattle.model.specs.Running.{MarkedPlans}
use Rattle.model.specs.Verdicts.{Shares}
use Rattle.model.specs.declared.Limits.{Limits}
use Rattle.model.specs.declared.Refusal.{Refusal}
use Rattle.list_checks.specs.Checks.{amounts_within}
use Rattle.list_checks.specs.Findings.{Finding}
use Rattle.model.specs.Refusals.{refusal}

-- what the checks of narrowing find: total and limits are in their ranges
abbrev pub NarrowChecks : List ℕ → List ℕ → List ℕ → ℕ → Limits → Result (Unit {0}) Refusal → Type 0
NarrowChecks lows highs marks total limits check = Finding lows highs marks (length lows) (amounts_within total limits) check

-- 01's words for each answer of narrowing
pub data NarrowFinding (lows highs marks : List ℕ) (total : ℕ) (limits : Limits) : Result (Unit {0}) Refusal → Type 0 where
  -- 1, 4 and 7
  failed : {refused : Refusal} → NarrowChecks lows highs marks total limits (Err refused)
      → NarrowFinding lows highs marks total limits (Err refused)
  -- 11: no shares in the ranges add up to the total
  no_shares : NarrowChecks lows highs marks total limits (Ok tt) → (Shares lows highs total → ⊥)
      → NarrowFinding lows highs marks total limits (Err (refusal 11 0))
  -- 12: such shares exist, and none are a plan
  no_plan : NarrowChecks lows highs marks total limits (Ok tt) → Shares lows highs total → (MarkedPlans marks lows highs total limits → ⊥)
      → NarrowFinding lows highs marks total limits (Err (refusal 12 0))
  -- there is a plan
  answered : NarrowChecks lows highs marks total limits (Ok tt) → MarkedPlans marks lows highs total limits
      → NarrowFinding lows highs marks total limits (Ok tt)
