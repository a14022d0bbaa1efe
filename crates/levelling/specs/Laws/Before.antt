-- Item 6 of 02 moved no refusal, no level and no figure of levelling. Assumes nothing.
use Rattle.std.specs.Prelude.{ℕ, Bool, true, false, List, ◌≡◌, refl, leb, Result, Ok, Err}
use Rattle.std.proofs.Common.{ap, leb-true}
use Rattle.model.specs.Shares.{pick, greatest_total, sum}
use Rattle.model.specs.Levels.{level, levelled}
use Rattle.model.specs.Ways.{evened}
use Rattle.model.specs.Plans.{has_shares}
use Rattle.model.specs.Running.{marked_figures}
use Rattle.model.proofs.Laws.Shut.{marked_figures_before}
use Rattle.model.proofs.Laws.Tests.{both_left, both_right}
use Rattle.model.specs.declared.Figures.{Figures}
use Rattle.list_checks.specs.Checks.{check_lists}
use Rattle.levelling.specs.Levelling.{levelling, levelled_to, levelled_after}
use Rattle.levelling.specs.Before.{levelling_before}
use Rattle.list_checks.proofs.Laws.Findings.{check_exactly, passed_sound, passed_marked}
use Rattle.model.specs.declared.Refusal.{Refusal}
use Rattle.levelling.specs.declared.Levelled.{Levelled}

-- levelling answers what it answered before
pub level_before : (lows highs marks : List ℕ) (total room : ℕ) → levelling lows highs marks total room ≡ levelling_before lows highs marks total room
unfolding levelling levelled_to levelling_before
level_before lows highs marks total room = by (check_lists lows highs marks room (leb total greatest_total)) refl
  where
    answer : List ℕ → Result Levelled Refusal
    answer shares =
        pick (has_shares lows highs total)
        (Ok (record { level = record { copies = level lows highs total }; figures = marked_figures marks total shares }))
        (Err (record { number = 11; place = 0 }))

    same : (b : Bool) → has_shares lows highs total ≡ b → check_lists lows highs marks room (leb total greatest_total) ≡ Ok tt
        → ◌≡◌ {A = Result Levelled Refusal}
        (pick b (Ok (record { level = record { copies = level lows highs total }; figures = marked_figures marks total (levelled lows highs total) })) (Err (record { number = 11; place = 0 })))
        (pick b (Ok (record { level = record { copies = level lows highs total }; figures = marked_figures marks total (evened lows highs total) })) (Err (record { number = 11; place = 0 })))
    same false exist is = refl
    same true exist is =
        let clear = (check_exactly lows highs marks room (leb total greatest_total) (Ok tt)).0 is in
        ap (λ (figures : Figures). Ok (record { level = record { copies = level lows highs total }; figures = figures }))
        (marked_figures_before (passed_marked clear) (passed_sound clear).0.ranges total
        (leb-true (sum lows) total (both_left _ _ exist))
        (leb-true total (sum highs) (both_right (leb (sum lows) total) _ exist)))

    by : (check : Result (Unit {0}) Refusal) → check_lists lows highs marks room (leb total greatest_total) ≡ check
        → levelled_after check (answer (levelled lows highs total)) ≡ levelled_after check (answer (evened lows highs total))
    by (Err refusal) is = refl
    by (Ok tt) is = same (has_shares lows highs total) refl is
