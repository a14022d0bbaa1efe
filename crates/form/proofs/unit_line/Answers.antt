-- The word is tried first, then the form with low and high. Assumes nothing.
use Rattle.text.specs.Parsed.{mapped, or_else}
use Rattle.form.specs.Form.{unit_as}
use Rattle.form.proofs.unit_line.Goals as goal

pub returns-in_default : goal.returns-in_default
unfolding unit_as mapped or_else
returns-in_default c = rw (← c.in_default.ensures) c.range_line.ensures

pub returns : goal.returns
unfolding unit_as mapped or_else
returns c = rw (← c.in-Some.ensures)
