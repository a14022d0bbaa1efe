-- Narrowing one group keeps what it promises of the lists after the call. Assumes nothing.
use Rattle.std.specs.Prelude.{ℕ, List, ◌≡◌, refl, Ok, Err}
use Rattle.model.specs.Running.{marked_lows, marked_highs}
use Rattle.model.proofs.Laws.Plans.{plan_found}
use Rattle.model.proofs.Laws.Running.{running_ranges}
use Rattle.model.proofs.Laws.Marked.{marked_plan}
use Rattle.model.proofs.Laws.ShutNarrowing.{marked_ranges, marked_inside, marked_exactly}
use Rattle.model.specs.declared.Limits.{Limits}
use Rattle.model.specs.declared.Refusal.{Refusal}
use Rattle.group.specs.Narrowing.{narrowing}
use Rattle.list_checks.proofs.Laws.Findings.{passed_sound, passed_marked}
use Rattle.group.specs.Answers.{NarrowFinding}
use Rattle.group.specs.Laws.Answers.{narrow_exactly}
use Rattle.group.specs.Promises.{NarrowPromise, lows_left, highs_left}

module _ (lows highs marks : List ℕ) (total : ℕ) (limits : Limits) where
  -- where a plan exists, the narrowed ranges keep what plans take
  narrowed_kept : NarrowFinding lows highs marks total limits (Ok tt)
      → NarrowPromise lows highs marks total limits (marked_lows marks lows highs total limits) (marked_highs marks lows highs total limits)
  narrowed_kept (NarrowFinding.answered clear (shares, plan)) =
      let ranges = (passed_sound clear).0.ranges in
      let marked = passed_marked clear in
      let found = plan_found (running_ranges marks ranges) (marked_plan marked plan) in
      record {
        ranges = marked_ranges marked ranges total limits found;
        inside = marked_inside marked ranges total limits found;
        exactly = marked_exactly marked ranges total limits found;
      }

  -- 01, demand 2, for narrowing
  pub narrow_promised : narrowing lows highs marks total limits ≡ Ok tt
      → NarrowPromise lows highs marks total limits (lows_left lows highs marks total limits) (highs_left lows highs marks total limits)
  narrow_promised is = rw is (narrowed_kept ((narrow_exactly lows highs marks total limits _).0 is))

  -- refused, it leaves the lists as they were
  pub narrow_unchanged : {refused : Refusal} → narrowing lows highs marks total limits ≡ Err refused
      → (lows_left lows highs marks total limits ≡ lows) × (highs_left lows highs marks total limits ≡ highs)
  narrow_unchanged is = rw is (refl, refl)
