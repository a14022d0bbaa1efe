-- One case for a member at the bar, one for any other. Assumes nothing.
use native.Mathlib.Omega.{arith}
use mathlib.Core.Path.{sym, ◌∙◌}
use Rattle.model.proofs.Laws.Bars.{at_here, at_away}
use Rattle.headroom.proofs.one_at.Goals as goal

pub returns-then-high-bar : goal.returns-then-high-bar
returns-then-high-bar c =
    let a = c.args in
    c.extra.ensures ∙ sym (at_here a.low a.high a.v a.bar a.rest (omega arith))

pub returns : goal.returns
returns c =
    let a = c.args in
    sym (at_away a.low a.high a.v a.bar a.rest (λ same. omega arith))
