-- What a turn's answer means: narrowed, 11 and 12 are told apart by the shares and plans there are. Assumes nothing.
use Rattle.std.specs.Prelude.{ℕ, Bool, List, ◌↔◌, leb}
use Rattle.std.proofs.Math.Bool.{true, false}
use Rattle.std.proofs.Math.Path.{◌≡◌, refl}
use Rattle.std.proofs.Common.{arith, le-leb, leb-true}
use Rattle.model.specs.Shares.{pick, Ranges, sum}
use Rattle.model.specs.Ways.{evened}
use Rattle.model.specs.Plans.{has_shares, has_plan, turn_of}
use Rattle.model.proofs.Laws.Levelled.{shares_exist}
use Rattle.model.proofs.Laws.Plans.{found_plan, plan_found}
use Rattle.model.proofs.Laws.Tests.{both, both_left, both_right, clash, refuted}
use Rattle.model.specs.declared.Limits.{Limits}
use Rattle.model.specs.declared.Turn.{Turn}
use Rattle.model.specs.declared.Turn.TheVariants.{Narrowed, NoPlan}
use Rattle.model.specs.Verdicts.{Shares, Verdict}

module _ {lows highs : List ℕ} (ranges : Ranges lows highs) (total : ℕ) where
  -- shares exist exactly where the test finds them
  pub shares_found : Shares lows highs total → has_shares lows highs total ≡ true
  shares_found shares =
      both (le-leb _ _ ((shares_exist ranges total).0 shares).0) (le-leb _ _ ((shares_exist ranges total).0 shares).1)

  pub found_shares : has_shares lows highs total ≡ true → Shares lows highs total
  found_shares found =
      (shares_exist ranges total).1
      (leb-true _ _ (both_left _ _ found), leb-true _ _ (both_right (leb (sum lows) total) _ found))

  -- without shares the test fails
  pub no_shares_lem : (Shares lows highs total → ⊥) → has_shares lows highs total ≡ false
  no_shares_lem none = refuted (has_shares lows highs total) (λ found. none (found_shares found))

-- a turn narrows exactly where its group has a plan
module _ (lows highs : List ℕ) (total : ℕ) (limits : Limits) where
  has_shares_lem : has_plan lows highs total limits ≡ true → has_shares lows highs total ≡ true
  unfolding has_plan
  has_shares_lem found = both_left _ _ found

  pub found_turn : has_plan lows highs total limits ≡ true → turn_of lows highs total limits ≡ Narrowed
  unfolding turn_of
  found_turn found = rw (has_shares_lem found, found)

  pub turn_found : turn_of lows highs total limits ≡ Narrowed → has_plan lows highs total limits ≡ true
  unfolding turn_of
  turn_found turn = chosen (has_shares lows highs total) (has_plan lows highs total limits) turn
    where
      chosen : (shares plan : Bool) → pick shares (pick plan Narrowed (NoPlan 12)) (NoPlan 11) ≡ Narrowed → plan ≡ true
      chosen true true e = refl
      chosen true false e = absurd (let z : ◌≡◌ {A = ℕ} 0 1 = cc in omega arith)
      chosen false plan e = absurd (let z : ◌≡◌ {A = ℕ} 0 1 = cc in omega arith)

module _ {lows highs : List ℕ} (ranges : Ranges lows highs) (total : ℕ) (limits : Limits) where
  -- where the words for an answer hold, the turn gives it
  given : {turn : Turn} → Verdict lows highs total limits turn → turn_of lows highs total limits ≡ turn
  unfolding turn_of
  given (Verdict.narrowed (xs, plan)) = found_turn lows highs total limits (plan_found ranges plan)
  given (Verdict.no_shares none) = rw (no_shares_lem ranges total none)
  given (Verdict.no_plan some none) =
      let fails : has_plan lows highs total limits ≡ false =
      refuted (has_plan lows highs total limits) (λ found. none (evened lows highs total, found_plan ranges total limits found)) in
      rw (shares_found ranges total some, fails)

  held : {turn : Turn} → Verdict lows highs total limits turn → Verdict lows highs total limits (turn_of lows highs total limits)
  held verdict = rw (given verdict) verdict

  by_tests : (s p : Bool) → has_shares lows highs total ≡ s → has_plan lows highs total limits ≡ p
      → Verdict lows highs total limits (turn_of lows highs total limits)
  by_tests false p shares plan = held (Verdict.no_shares (λ some. clash (shares_found ranges total some) shares))
  by_tests true false shares plan =
      held (Verdict.no_plan (found_shares ranges total shares) (λ some. clash (plan_found ranges some.1) plan))
  by_tests true true shares plan = held (Verdict.narrowed (evened lows highs total, found_plan ranges total limits plan))

  -- a turn has the words for its answer
  pub verdict : Verdict lows highs total limits (turn_of lows highs total limits)
  verdict = by_tests (has_shares lows highs total) (has_plan lows highs total limits) refl refl

  -- a turn is refused 11 exactly where no shares have the total, and 12 exactly where some have and none is a plan
  pub verdict_exactly : (turn : Turn) → (turn_of lows highs total limits ≡ turn) ↔ Verdict lows highs total limits turn
  verdict_exactly turn = (λ is. rw is at verdict, given)
