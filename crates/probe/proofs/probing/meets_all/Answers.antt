-- The group has a plan where the figures that are limited are within the terms. Assumes nothing.
use Rattle.std.proofs.Common.{sym, ◌∙◌}
use Rattle.model.proofs.Laws.Tests.{and_true}
use Rattle.probe.specs.Laws.Verdicts.{decides, pairs_unasked}
use Rattle.probe.proofs.probing.meets_all.Goals as goal

pub returns-then-terms-ge-MOST_PAIRS : goal.returns-then-terms-ge-MOST_PAIRS
returns-then-terms-ge-MOST_PAIRS c = record {
  for = λ allowed. record {
    is = λ pin.
        let figured = c.requires.pinned_figures.is pin in
        let unasked = pairs_unasked c.requires.lookable allowed pin figured.reached c.if-terms-ge-MOST_PAIRS.true in
        c.within.ensures ∙ sym (and_true _) ∙ decides c.requires.lookable allowed pin figured unasked;
  };
}
