-- Laws of units that the checks find nothing wrong with. Assumes nothing.
use Rattle.std.specs.Prelude.{ℕ, zero, suc, true, false, List, ◌≡◌, refl, leb, ltb, length, get_or, Some, None}
use Rattle.std.proofs.Common.{sym, arith, leb-true, le-leb, eqb-true, ne_eqb}
use Rattle.std.proofs.Math.Decide.{dec_le}
use Rattle.std.proofs.lemmas.Bool.{lt-leb, lt-ltb}
use Rattle.model.specs.Shares.{greatest_share}
use Rattle.model.proofs.Laws.Tests.{both_left, both_right, right_fails}
use Rattle.list_checks.specs.Checks.{are_shares, unit_within, unit_ordered, first_beyond, first_crossed}
use Rattle.list_checks.specs.Inner.Units.{unit_sound, all_sound, place_found}
use Rattle.list_checks.proofs.Laws.First.{none_failing}

-- a running unit whose high is a share is sound where its low is at most its high
pub run_sound : (low high : ℕ) → leb high greatest_share ≡ true → leb low high ≡ unit_sound low high 0
run_sound low high share =
    elim (dec_le low high) [
      | yes p ↦ rw (le-leb low high p, le-leb low greatest_share (omega (arith, leb-true high greatest_share share)), share)
      | no p ↦ rw (lt-leb low high (omega arith)) (sym (right_fails (unit_within low high 0) refl))
    ]

-- and not where its high is none
pub run_unsound : (low high : ℕ) → leb high greatest_share ≡ false → false ≡ unit_sound low high 0
run_unsound low high beyond = rw (beyond, right_fails (leb low greatest_share) refl)

-- a shut unit is sound where its range is 0 to 0
pub shut_sound : (low high : ℕ) → unit_ordered low high 1 ≡ unit_sound low high 1
shut_sound zero zero = refl
shut_sound zero (suc high) = rw (ne_eqb (suc high) 0 (omega arith)) (sym (right_fails (unit_within 0 (suc high) 1) refl))
shut_sound (suc low) high = rw (ne_eqb (suc low) 0 (omega arith)) (sym (right_fails (unit_within (suc low) high 1) refl))

-- a unit with another mark is not
pub mark_unsound : (low high mark : ℕ) → leb mark 1 ≡ false → false ≡ unit_sound low high mark
mark_unsound low high mark beyond = rw (beyond, right_fails (are_shares low high) refl)

-- a place found is one above 0
pub place_some : (place found : ℕ) → Some found ≡ place_found place → (ltb 0 place ≡ true) × (place ≡ found)
place_some zero found e = cc
place_some (suc i) found e = (lt-ltb 0 (suc i) (omega arith), cc)

-- and none is 0
pub place_none : (place : ℕ) → None ≡ place_found place → place ≡ 0
place_none zero e = refl
place_none (suc i) e = cc

-- where all units are sound, none is beyond its range and none crossed
pub sound_units : (lows highs marks : List ℕ) → length lows ≡ length highs → length lows ≡ length marks → all_sound lows highs marks ≡ true
    → (first_beyond lows highs marks ≡ 0) × (first_crossed lows highs marks ≡ 0)
sound_units lows highs marks paired many all =
    let each = (none_failing unit_sound lows highs marks paired many).0 (eqb-true _ 0 all) in (
      (none_failing unit_within lows highs marks paired many).1 (λ i below. both_left _ _ (each i below)),
      (none_failing unit_ordered lows highs marks paired many).1 (λ i below. both_right (unit_within (get_or lows i 0) (get_or highs i 0) (get_or marks i 0)) _ (each i below)),
    )
