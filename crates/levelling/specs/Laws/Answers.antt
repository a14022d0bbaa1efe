-- Levelling one group gives an answer exactly if 01's words for it hold. Assumes nothing.
use Rattle.std.specs.Prelude.{ℕ, ◌≤◌, Bool, true, false, List, ◌↔◌, ◌⊎◌, ◌≡◌, refl, leb, Result, Ok, Err}
use Rattle.std.proofs.Common.{inl, inr, arith}
use Rattle.model.specs.Shares.{greatest_total}
use Rattle.model.specs.Plans.{has_shares}
use Rattle.model.proofs.Laws.Tests.{clash}
use Rattle.model.proofs.Laws.Turns.{shares_found, found_shares, no_shares_lem}
use Rattle.model.specs.declared.Refusal.{Refusal}
use Rattle.list_checks.specs.Checks.{check_lists}
use Rattle.levelling.specs.Levelling.{levelled_to, levelling}
use Rattle.levelling.specs.declared.Levelled.{Levelled}
use Rattle.list_checks.proofs.Laws.Findings.{check_exactly, passed_sound, check_number, check_between}
use Rattle.list_checks.specs.Findings.{CheckNumber}
use Rattle.levelling.specs.Answers.{LevelChecks, LevelFinding}

module _ (lows highs marks : List ℕ) (total room : ℕ) where
  -- the checks say what their words say
  level_check : {check : Result (Unit {0}) Refusal} → LevelChecks lows highs marks total room check → check_lists lows highs marks room (leb total greatest_total) ≡ check
  level_check = (check_exactly lows highs marks room (leb total greatest_total) _).1

  -- where the words for an answer hold, levelling gives it
  level_given : {answer : Result Levelled Refusal} → LevelFinding lows highs marks total room answer → levelling lows highs marks total room ≡ answer
  unfolding levelling levelled_to
  level_given (LevelFinding.failed finding) = rw (level_check finding)
  level_given (LevelFinding.no_shares clear none) = rw (level_check clear, no_shares_lem (passed_sound clear).0.ranges total none)
  level_given (LevelFinding.answered clear some) = rw (level_check clear, shares_found (passed_sound clear).0.ranges total some)

  -- so the words that hold are those of the answer
  level_held : {answer : Result Levelled Refusal} → LevelFinding lows highs marks total room answer → LevelFinding lows highs marks total room (levelling lows highs marks total room)
  level_held finding = rw (level_given finding) finding

  -- past the checks, by the test for shares
  by_shares : (b : Bool) → has_shares lows highs total ≡ b → LevelChecks lows highs marks total room (Ok tt)
      → LevelFinding lows highs marks total room (levelling lows highs marks total room)
  by_shares true found clear = level_held (LevelFinding.answered clear (found_shares (passed_sound clear).0.ranges total found))
  by_shares false fails clear =
      level_held (LevelFinding.no_shares clear (λ some. clash (shares_found (passed_sound clear).0.ranges total some) fails))

  by_level_check : (check : Result (Unit {0}) Refusal) → LevelChecks lows highs marks total room check → LevelFinding lows highs marks total room (levelling lows highs marks total room)
  by_level_check (Err refused) finding = level_held (LevelFinding.failed finding)
  by_level_check (Ok tt) clear = by_shares (has_shares lows highs total) refl clear

  -- levelling gives an answer exactly if 01's words for it hold
  pub level_exactly : (answer : Result Levelled Refusal) → (levelling lows highs marks total room ≡ answer) ↔ LevelFinding lows highs marks total room answer
  level_exactly answer =
      (λ is. rw is at (by_level_check _ ((check_exactly lows highs marks room (leb total greatest_total) _).0 refl)), level_given)

-- levelling refuses with 1, 4, 7 or 11
pub level_number : {lows highs marks : List ℕ} {total room : ℕ} {refused : Refusal} → LevelFinding lows highs marks total room (Err refused)
    → CheckNumber refused.number ⊎ (refused.number ≡ 11)
level_number (LevelFinding.failed finding) = inl (check_number finding)
level_number (LevelFinding.no_shares clear none) = inr refl

-- levelling never gives 12, nor 0, which says that there is no refusal
pub level_between : {number : ℕ} → CheckNumber number ⊎ (number ≡ 11) → (1 ≤ number) × (number ≤ 11)
level_between (inl checked) = omega (arith, check_between checked)
level_between (inr is) = omega arith
