-- What levelling one group answers: 01's words for each answer. Assumes nothing.
use Rattle.std.specs.Prelude.{ℕ, List, leb, Result, Ok, Err}
use Rattle.model.specs.Shares.{greatest_total}
use Rattle.model.specs.Levels.{level, levelled}
use Rattle.model.specs.Running.{marked_figures}
use Rattle.model.specs.Verdicts.{Shares}
use Rattle.model.specs.declared.Refusal.{Refusal}
use Rattle.levelling.specs.declared.Levelled.{Levelled}
use Rattle.list_checks.specs.Findings.{Finding}
use Rattle.model.specs.Refusals.{refusal}

-- what the checks of levelling find: the total is in its range, and the plan list has room
abbrev pub LevelChecks : List ℕ → List ℕ → List ℕ → ℕ → ℕ → Result (Unit {0}) Refusal → Type 0
LevelChecks lows highs marks total room check = Finding lows highs marks room (leb total greatest_total) check

-- 01's words for each answer of levelling
pub data LevelFinding (lows highs marks : List ℕ) (total room : ℕ) : Result Levelled Refusal → Type 0 where
  -- 1, 4 and 7
  failed : {refused : Refusal} → LevelChecks lows highs marks total room (Err refused)
      → LevelFinding lows highs marks total room (Err refused)
  -- 11: no shares in the ranges add up to the total
  no_shares : LevelChecks lows highs marks total room (Ok tt) → (Shares lows highs total → ⊥)
      → LevelFinding lows highs marks total room (Err (refusal 11 0))
  -- such shares exist: the level, and the figures of the levelled shares
  answered : LevelChecks lows highs marks total room (Ok tt) → Shares lows highs total
      → LevelFinding lows highs marks total room
      (Ok (record { level = record { copies = level lows highs total }; figures = marked_figures marks total (levelled lows highs total) }))
