-- Levelling as it was before item 6 of 02. Assumes nothing.
use Rattle.std.specs.Prelude.{ℕ, List, leb, Result, Ok, Err}
use Rattle.model.specs.Shares.{pick, greatest_total}
use Rattle.model.specs.Levels.{level}
use Rattle.model.specs.Ways.{evened}
use Rattle.model.specs.Plans.{has_shares}
use Rattle.model.specs.Running.{marked_figures}
use Rattle.list_checks.specs.Checks.{check_lists}
use Rattle.levelling.specs.Levelling.{levelled_after}
use Rattle.model.specs.declared.Refusal.{Refusal}
use Rattle.levelling.specs.declared.Levelled.{Levelled}

-- its answer, with the copies left over for the first members
unfoldable pub levelling_before : List ℕ → List ℕ → List ℕ → ℕ → ℕ → Result Levelled Refusal
levelling_before lows highs marks total room =
    levelled_after (check_lists lows highs marks room (leb total greatest_total))
    (pick (has_shares lows highs total)
    (Ok (record { level = record { copies = level lows highs total }; figures = marked_figures marks total (evened lows highs total) }))
    (Err (record { number = 11; place = 0 })))
