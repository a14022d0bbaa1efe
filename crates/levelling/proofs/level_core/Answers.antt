-- Where shares exist the answer is what sharing the total out gives; without them nothing is written. Assumes nothing.
use Rattle.std.proofs.Common.{sym, ◌∙◌}
use Rattle.levelling.specs.Levelling.{levelled_to}
use Rattle.levelling.specs.Laws.Levelling.{levelled_ok}
use Rattle.levelling.proofs.level_core.Goals as goal

pub returns-then-not-has_shares-clause-value : goal.returns-then-not-has_shares-clause-value
unfolding levelled_to
returns-then-not-has_shares-clause-value c = rw (← c.has_shares.ensures, c.if-not-has_shares.true)

pub returns-clause-value : goal.returns-clause-value
returns-clause-value c =
    let is = c.share_out.ensures in
    levelled_ok _ _ _ _ _ (sym c.has_shares.ensures ∙ c.if-not-has_shares.false) is.level_value is.figures_value
