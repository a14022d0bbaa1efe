-- What narrowing one group on lists answers, and the lists after it. Assumes nothing.
use Rattle.std.specs.Prelude.{ℕ, List, length, Result, Ok, Err}
use Rattle.model.specs.Running.{marked_turn}
use Rattle.model.specs.declared.Limits.{Limits}
use Rattle.model.specs.declared.Turn.{Turn}
use Rattle.model.specs.declared.Turn.TheVariants.{NoPlan}
use Rattle.list_checks.specs.Checks.{amounts_within, check_lists}
use Rattle.model.specs.declared.Refusal.{Refusal}

-- a turn's answer as that of a call on lists: a refusal has place 0
abbrev pub narrowed_after : Result (Unit {0}) Refusal → Turn → Result (Unit {0}) Refusal
narrowed_after (Err refusal) turn = Err refusal
narrowed_after (Ok _) Turn.Narrowed = Ok tt
narrowed_after (Ok _) (NoPlan number) = Err (record { number = number; place = 0 })

-- 01: narrowing one group from lists
unfoldable pub narrowing : List ℕ → List ℕ → List ℕ → ℕ → Limits → Result (Unit {0}) Refusal
narrowing lows highs marks total limits =
    narrowed_after (check_lists lows highs marks (length lows) (amounts_within total limits)) (marked_turn marks lows highs total limits)

-- 01: on success the lists hold the narrowed ranges, on a refusal they are as they were
abbrev pub list_after : Result (Unit {0}) Refusal → List ℕ → List ℕ → List ℕ
list_after (Ok _) narrowed was = narrowed
list_after (Err refusal) narrowed was = was
