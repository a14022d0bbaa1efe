-- A number is read where the word ended. Assumes nothing.
use Rattle.text.specs.Parsed.{and_then, mapped}
use Rattle.text.specs.Numbers.{number_after}
use Rattle.text.proofs.Spot.number_after.Goals as goal

pub returns-in_err-word : goal.returns-in_err-word
unfolding number_after and_then mapped
returns-in_err-word c = rw (c.from_residual.ensures, ← c.in_err-word.ensures)

pub returns : goal.returns
unfolding number_after and_then
returns c = rw (← c.in_ok-word.ensures) c.number.ensures
