-- What levelling and narrowing promise C and Rust: demand 2 where the refusal's number is 0, and 01's words for any other. Assumes nothing.
use Rattle.std.specs.Prelude.{ℕ, Result, Err, ◌≤◌, List, ◌≡◌, length}
use Rattle.model.specs.declared.Figures.{Figures}
use Rattle.model.specs.declared.Refusal.{Refusal}
use Rattle.levelling.specs.Answers.{LevelFinding}
use Rattle.group.specs.Answers.{NarrowFinding}
use Rattle.model.specs.Refusals.{refusal}
use Rattle.levelling.specs.Promises.{LevelPromise}
use Rattle.group.specs.Promises.{NarrowPromise}
use Rattle.levelling.specs.declared.Levelled.{Levelled}
use Rattle.planner.specs.Foreign.{foreign_levelled, foreign_narrowed, foreign_limits}
use Rattle.planner.specs.declared.ForeignLevelled.{ForeignLevelled}
use Rattle.planner.specs.declared.ForeignLimits.{ForeignLimits}
use Rattle.planner.specs.declared.ForeignRefusal.{ForeignRefusal}

-- a refusal as it came across
abbrev pub refusal_of : ForeignRefusal → Refusal
refusal_of foreign = refusal foreign.number foreign.place

-- the figures as they came across
abbrev pub figures_in : ForeignLevelled → Figures
figures_in answer = record {
  deviation = record { 0 = answer.deviation.value };
  spread = record { 0 = answer.spread.value };
  pairs = record { 0 = answer.pairs.value };
}

-- what `danivomel_level` promises of its answer and of the plan list
pub record ForeignLevelPromise (lows highs marks : List ℕ) (total : ℕ) (plan : List ℕ) (answer : ForeignLevelled) (after : List ℕ) : Type 0 where
  -- refusal number 0: demand 2, with the level and the figures answered
  pub accepted : answer.refusal.number ≡ 0
      → LevelPromise lows highs marks total answer.level (figures_in answer) plan after
  -- another number: 01's words for it hold, and the plan list is as it was
  pub refused : 1 ≤ answer.refusal.number
      → LevelFinding lows highs marks total (length plan) (Err (refusal_of answer.refusal)) × (after ≡ plan)
  -- it is given wherever they hold
  pub given : {words : Result Levelled Refusal} → LevelFinding lows highs marks total (length plan) words → answer ≡ foreign_levelled words

-- what `danivomel_narrow` promises of its answer and of both lists
pub record ForeignNarrowPromise (lows highs marks : List ℕ) (total : ℕ) (limits : ForeignLimits) (answer : ForeignRefusal)
    (lows_after highs_after : List ℕ) : Type 0 where
  -- number 0: demand 2
  pub accepted : answer.number ≡ 0 → NarrowPromise lows highs marks total (foreign_limits limits) lows_after highs_after
  -- another number: 01's words for it hold, and the lists are as they were
  pub refused : 1 ≤ answer.number
      → NarrowFinding lows highs marks total (foreign_limits limits) (Err (refusal_of answer)) × (lows_after ≡ lows) × (highs_after ≡ highs)
  -- it is given wherever they hold
  pub given : {words : Result (Unit {0}) Refusal} → NarrowFinding lows highs marks total (foreign_limits limits) words → answer ≡ foreign_narrowed words
