-- What levelling one group on lists answers, and the plan list after it. Assumes nothing.
use Rattle.std.specs.Prelude.{ℕ, List, ◌++◌, leb, length, drop, Result, Ok, Err}
use Rattle.model.specs.Shares.{pick, greatest_total}
use Rattle.model.specs.Levels.{level, levelled}
use Rattle.model.specs.Plans.{has_shares}
use Rattle.model.specs.Running.{marked_figures}
use Rattle.list_checks.specs.Checks.{check_lists}
use Rattle.model.specs.declared.Refusal.{Refusal}
use Rattle.levelling.specs.declared.Levelled.{Levelled}

-- the level and the figures of the levelled shares; 11 where no shares have the total
unfoldable pub levelled_to : List ℕ → List ℕ → List ℕ → ℕ → Result Levelled Refusal
levelled_to lows highs marks total =
    pick (has_shares lows highs total)
    (Ok (record { level = record { copies = level lows highs total }; figures = marked_figures marks total (levelled lows highs total) }))
    (Err (record { number = 11; place = 0 }))

abbrev pub levelled_after : Result (Unit {0}) Refusal → Result Levelled Refusal → Result Levelled Refusal
levelled_after (Err refusal) next = Err refusal
levelled_after (Ok _) next = next

-- 01: levelling one group from lists, with room for so many shares
unfoldable pub levelling : List ℕ → List ℕ → List ℕ → ℕ → ℕ → Result Levelled Refusal
levelling lows highs marks total room =
    levelled_after (check_lists lows highs marks room (leb total greatest_total)) (levelled_to lows highs marks total)

-- 01: the shares are written to the plan list; numbers past the members, and on a refusal all of them, keep their values
abbrev pub plan_after : Result Levelled Refusal → List ℕ → List ℕ → List ℕ
plan_after (Ok answer) shares plan = shares ++ drop (length shares) plan
plan_after (Err refusal) shares plan = plan
