-- Item by item, each read where the one before ended. Assumes nothing.
use Rattle.text.specs.Parsed.{and_then, mapped}
use Rattle.form.specs.Form.{number_as, range_as}
use Rattle.form.proofs.range_line.Goals as goal

pub returns-in_err-low : goal.returns-in_err-low
unfolding range_as number_as and_then mapped
returns-in_err-low c = rw (c.from_residual.ensures, ← c.in_err-low.ensures)

pub returns-in_err-high : goal.returns-in_err-high
unfolding range_as number_as and_then mapped
returns-in_err-high c = rw (c.from_residual-in_err-high.ensures, ← c.in_ok-low.ensures, ← c.in_err-high.ensures)

pub returns-in_err-spot : goal.returns-in_err-spot
unfolding range_as number_as and_then mapped
returns-in_err-spot c =
    rw (c.from_residual-in_err-spot.ensures, ← c.in_ok-low.ensures, ← c.in_ok-high.ensures, ← c.in_err-spot.ensures)

pub returns : goal.returns
unfolding range_as number_as and_then mapped
returns c = rw (← c.in_ok-low.ensures, ← c.in_ok-high.ensures, ← c.in_ok-spot.ensures)
