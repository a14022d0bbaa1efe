-- Laws of what narrowing one group answers. Assumes nothing.
use Rattle.std.specs.Prelude.{ℕ, List, ◌≡◌, length, Ok, Err}
use Rattle.model.specs.Running.{marked_turn}
use Rattle.model.specs.declared.Limits.{Limits}
use Rattle.model.specs.declared.Turn.{Turn}
use Rattle.model.specs.declared.Turn.TheVariants.{NoPlan}
use Rattle.list_checks.specs.Checks.{amounts_within, check_lists}
use Rattle.group.specs.Narrowing.{narrowing}

-- where the lists pass the checks, the answer is the turn's
module _ (lows highs marks : List ℕ) (total : ℕ) (limits : Limits)
    (passed : check_lists lows highs marks (length lows) (amounts_within total limits) ≡ Ok tt) where
  pub answer_narrowed : {turn : Turn} → turn ≡ marked_turn marks lows highs total limits → turn ≡ Turn.Narrowed
      → Ok tt ≡ narrowing lows highs marks total limits
  unfolding narrowing
  answer_narrowed held is_turn = rw (passed, ← held, is_turn)

  pub answer_refused : {turn : Turn} {number : ℕ} → turn ≡ marked_turn marks lows highs total limits → turn ≡ NoPlan number
      → Err (record { number = number; place = 0 }) ≡ narrowing lows highs marks total limits
  unfolding narrowing
  answer_refused held is_turn = rw (passed, ← held, is_turn)
