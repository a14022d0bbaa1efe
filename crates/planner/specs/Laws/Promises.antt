-- Levelling and narrowing keep what they promise C and Rust. Assumes nothing.
use Rattle.std.specs.Prelude.{ℕ, Result, Ok, Err, List, ◌≡◌, refl, length}
use Rattle.std.proofs.Common.{sym, ap, ◌∙◌, arith}
use Rattle.levelling.specs.Answers.{LevelFinding}
use Rattle.group.specs.Answers.{NarrowFinding}
use Rattle.levelling.specs.Laws.Answers.{level_exactly, level_number, level_between}
use Rattle.group.specs.Laws.Answers.{narrow_exactly, narrow_number, narrow_between}
use Rattle.levelling.specs.Levelling.{levelling}
use Rattle.group.specs.Narrowing.{narrowing}
use Rattle.levelling.specs.Promises.{plan_left}
use Rattle.group.specs.Promises.{lows_left, highs_left}
use Rattle.levelling.specs.Laws.Promises.{level_promised, level_unchanged}
use Rattle.group.specs.Laws.Promises.{narrow_promised, narrow_unchanged}
use Rattle.levelling.specs.declared.Levelled.{Levelled}
use Rattle.model.specs.declared.Refusal.{Refusal}
use Rattle.planner.specs.Foreign.{foreign_levelled, foreign_narrowed, foreign_limits}
use Rattle.planner.specs.declared.ForeignLimits.{ForeignLimits}
use Rattle.planner.specs.Promises.{ForeignLevelPromise, ForeignNarrowPromise}

-- it keeps that promise, for any lists
pub foreign_level_promised : (lows highs marks : List ℕ) (total : ℕ) (plan : List ℕ)
    → ForeignLevelPromise lows highs marks total plan (foreign_levelled (levelling lows highs marks total (length plan))) (plan_left lows highs marks total plan)
foreign_level_promised lows highs marks total plan = by_answer (levelling lows highs marks total (length plan)) refl
  where
    given_by : {answer words : Result Levelled Refusal} → levelling lows highs marks total (length plan) ≡ answer
        → LevelFinding lows highs marks total (length plan) words → foreign_levelled answer ≡ foreign_levelled words
    given_by is finding = ap foreign_levelled (sym is ∙ (level_exactly lows highs marks total (length plan) _).1 finding)

    by_answer : (answer : Result Levelled Refusal) → levelling lows highs marks total (length plan) ≡ answer
        → ForeignLevelPromise lows highs marks total plan (foreign_levelled answer) (plan_left lows highs marks total plan)
    by_answer (Ok found) is = record {
      accepted = λ none. level_promised lows highs marks total plan is;
      refused = λ some. absurd (omega arith);
      given = given_by is;
    }
    by_answer (Err refused) is =
        let finding = (level_exactly lows highs marks total (length plan) _).0 is in
        record {
          accepted = λ none. absurd (omega (arith, level_between (level_number finding)));
          refused = λ some. (finding, level_unchanged lows highs marks total plan is);
          given = given_by is;
        }

-- it keeps that promise, for any lists
pub foreign_narrow_promised : (lows highs marks : List ℕ) (total : ℕ) (limits : ForeignLimits)
    → ForeignNarrowPromise lows highs marks total limits (foreign_narrowed (narrowing lows highs marks total (foreign_limits limits)))
    (lows_left lows highs marks total (foreign_limits limits)) (highs_left lows highs marks total (foreign_limits limits))
foreign_narrow_promised lows highs marks total limits = by_answer (narrowing lows highs marks total (foreign_limits limits)) refl
  where
    given_by : {answer words : Result (Unit {0}) Refusal} → narrowing lows highs marks total (foreign_limits limits) ≡ answer
        → NarrowFinding lows highs marks total (foreign_limits limits) words → foreign_narrowed answer ≡ foreign_narrowed words
    given_by is finding = ap foreign_narrowed (sym is ∙ (narrow_exactly lows highs marks total (foreign_limits limits) _).1 finding)

    by_answer : (answer : Result (Unit {0}) Refusal) → narrowing lows highs marks total (foreign_limits limits) ≡ answer
        → ForeignNarrowPromise lows highs marks total limits (foreign_narrowed answer)
        (lows_left lows highs marks total (foreign_limits limits)) (highs_left lows highs marks total (foreign_limits limits))
    by_answer (Ok tt) is = record {
      accepted = λ none. narrow_promised lows highs marks total (foreign_limits limits) is;
      refused = λ some. absurd (omega arith);
      given = given_by is;
    }
    by_answer (Err refused) is =
        let finding = (narrow_exactly lows highs marks total (foreign_limits limits) _).0 is in
        record {
          accepted = λ none. absurd (omega (arith, narrow_between (narrow_number finding)));
          refused = λ some. (
            finding,
            (narrow_unchanged lows highs marks total (foreign_limits limits) is).0,
            (narrow_unchanged lows highs marks total (foreign_limits limits) is).1,
          );
          given = given_by is;
        }
