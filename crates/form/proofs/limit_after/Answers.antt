-- After the word comes any, or else a number. Assumes nothing.
use Rattle.text.specs.Parsed.{and_then, mapped, or_else, word}
use Rattle.text.specs.Numbers.{number_after}
use Rattle.form.specs.Form.{number_as, limit_as}
use Rattle.form.proofs.limit_after.Goals as goal

pub returns-in_err-spot : goal.returns-in_err-spot
unfolding limit_as number_as number_after and_then mapped or_else word
returns-in_err-spot c = rw (c.from_residual.ensures, ← c.in_err-spot.ensures)

pub returns-in-Some : goal.returns-in-Some
unfolding limit_as number_as number_after and_then mapped or_else word
returns-in-Some c = rw (← c.in_ok-spot.ensures, ← c.in-Some.ensures)

pub returns-in_err-most : goal.returns-in_err-most
unfolding limit_as number_as number_after and_then mapped or_else word
returns-in_err-most c =
    rw (c.from_residual-in_err-most.ensures, ← c.in_ok-spot.ensures, ← c.in_default.ensures, ← c.in_err-most.ensures)

pub returns : goal.returns
unfolding limit_as number_as number_after and_then mapped or_else word
returns c = rw (← c.in_ok-spot.ensures, ← c.in_default.ensures, ← c.in_ok-most.ensures)
