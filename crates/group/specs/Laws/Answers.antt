-- Narrowing one group gives an answer exactly if 01's words for it hold. Assumes nothing.
use Rattle.std.specs.Prelude.{ℕ, ◌≤◌, List, ◌↔◌, ◌⊎◌, ◌≡◌, refl, length, Result, Ok, Err}
use Rattle.std.proofs.Common.{inl, inr, arith}
use Rattle.model.specs.Running.{running, MarkedPlans, marked_turn}
use Rattle.model.proofs.Laws.Running.{running_ranges}
use Rattle.model.proofs.Laws.Shut.{marked_shares, marked_plans}
use Rattle.model.specs.Verdicts.{Shares, Plans, Verdict}
use Rattle.model.proofs.Laws.Turns.{verdict, verdict_exactly}
use Rattle.model.specs.declared.Limits.{Limits}
use Rattle.model.specs.declared.Refusal.{Refusal}
use Rattle.model.specs.declared.Turn.{Turn}
use Rattle.list_checks.specs.Checks.{amounts_within, check_lists}
use Rattle.group.specs.Narrowing.{narrowing}
use Rattle.list_checks.proofs.Laws.Findings.{check_exactly, passed_sound, passed_marked, check_number, check_between}
use Rattle.list_checks.specs.Findings.{CheckNumber}
use Rattle.group.specs.Answers.{NarrowChecks, NarrowFinding}

module _ (lows highs marks : List ℕ) (total : ℕ) (limits : Limits) where
  -- the checks say what their words say
  narrow_check : {check : Result (Unit {0}) Refusal} → NarrowChecks lows highs marks total limits check
      → check_lists lows highs marks (length lows) (amounts_within total limits) ≡ check
  narrow_check = (check_exactly lows highs marks (length lows) (amounts_within total limits) _).1

  -- once the lists pass, shares and plans are those of the running members
  shares : NarrowChecks lows highs marks total limits (Ok tt) → Shares (running marks lows) (running marks highs) total ↔ Shares lows highs total
  shares clear = marked_shares (passed_marked clear) total

  as_plans : NarrowChecks lows highs marks total limits (Ok tt)
      → Plans (running marks lows) (running marks highs) total limits ↔ MarkedPlans marks lows highs total limits
  as_plans clear = marked_plans (passed_marked clear) total limits

  -- the turn's answer is the one that its verdict has the words for
  narrow_turn : {turn : Turn} → NarrowChecks lows highs marks total limits (Ok tt) → Verdict (running marks lows) (running marks highs) total limits turn
      → marked_turn marks lows highs total limits ≡ turn
  narrow_turn clear = (verdict_exactly (running_ranges marks (passed_sound clear).0.ranges) total limits _).1

  -- where the words for an answer hold, narrowing gives it
  narrow_given : {answer : Result (Unit {0}) Refusal} → NarrowFinding lows highs marks total limits answer → narrowing lows highs marks total limits ≡ answer
  unfolding narrowing
  narrow_given (NarrowFinding.failed finding) = rw (narrow_check finding)
  narrow_given (NarrowFinding.no_shares clear none) = rw (narrow_check clear, narrow_turn clear (Verdict.no_shares (λ some. none ((shares clear).0 some))))
  narrow_given (NarrowFinding.no_plan clear some none) = rw (narrow_check clear, narrow_turn clear (Verdict.no_plan ((shares clear).1 some) (λ plans. none ((as_plans clear).0 plans))))
  narrow_given (NarrowFinding.answered clear some) = rw (narrow_check clear, narrow_turn clear (Verdict.narrowed ((as_plans clear).1 some)))

  -- so the words that hold are those of the answer
  narrow_held : {answer : Result (Unit {0}) Refusal} → NarrowFinding lows highs marks total limits answer
      → NarrowFinding lows highs marks total limits (narrowing lows highs marks total limits)
  narrow_held finding = rw (narrow_given finding) finding

  -- past the checks, by the turn
  by_verdict : {turn : Turn} → NarrowChecks lows highs marks total limits (Ok tt) → Verdict (running marks lows) (running marks highs) total limits turn
      → NarrowFinding lows highs marks total limits (narrowing lows highs marks total limits)
  by_verdict clear (Verdict.narrowed some) = narrow_held (NarrowFinding.answered clear ((as_plans clear).0 some))
  by_verdict clear (Verdict.no_shares none) = narrow_held (NarrowFinding.no_shares clear (λ some. none ((shares clear).1 some)))
  by_verdict clear (Verdict.no_plan some none) = narrow_held (NarrowFinding.no_plan clear ((shares clear).0 some) (λ plans. none ((as_plans clear).1 plans)))

  by_narrow_check : (check : Result (Unit {0}) Refusal) → NarrowChecks lows highs marks total limits check
      → NarrowFinding lows highs marks total limits (narrowing lows highs marks total limits)
  by_narrow_check (Err refused) finding = narrow_held (NarrowFinding.failed finding)
  by_narrow_check (Ok tt) clear = by_verdict clear (verdict (running_ranges marks (passed_sound clear).0.ranges) total limits)

  -- narrowing gives an answer exactly if 01's words for it hold
  pub narrow_exactly : (answer : Result (Unit {0}) Refusal) → (narrowing lows highs marks total limits ≡ answer) ↔ NarrowFinding lows highs marks total limits answer
  narrow_exactly answer =
      (λ is. rw is at (by_narrow_check _ ((check_exactly lows highs marks (length lows) (amounts_within total limits) _).0 refl)), narrow_given)

-- narrowing refuses with 1, 4, 7, 11 or 12
pub narrow_number : {lows highs marks : List ℕ} {total : ℕ} {limits : Limits} {refused : Refusal}
    → NarrowFinding lows highs marks total limits (Err refused) → CheckNumber refused.number ⊎ (refused.number ≡ 11) ⊎ (refused.number ≡ 12)
narrow_number (NarrowFinding.failed finding) = inl (check_number finding)
narrow_number (NarrowFinding.no_shares clear none) = inr (inl refl)
narrow_number (NarrowFinding.no_plan clear some none) = inr (inr refl)

-- narrowing never gives 0
pub narrow_between : {number : ℕ} → CheckNumber number ⊎ (number ≡ 11) ⊎ (number ≡ 12) → (1 ≤ number) × (number ≤ 12)
narrow_between (inl checked) = omega (arith, check_between checked)
narrow_between (inr (inl is)) = omega arith
narrow_between (inr (inr is)) = omega arith
