-- A pairs limit, or else nothing, and the spot stays. Assumes nothing.
use Rattle.text.specs.Parsed.{mapped, or_else}
use Rattle.form.specs.Form.{pairs_as}
use Rattle.form.proofs.pairs_after.Goals as goal

pub returns-in_default : goal.returns-in_default
unfolding pairs_as mapped or_else
returns-in_default c = rw (← c.in_default.ensures)

pub returns : goal.returns
unfolding pairs_as mapped or_else
returns c = rw (← c.in-Some.ensures)
