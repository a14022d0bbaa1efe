-- What is found is within the terms, pairs last, exactly where the group with a member pinned to the value has a plan. Assumes nothing.
use Rattle.std.proofs.Common.{◌≡◌, ℕ, refl, sym, ap, ◌∙◌, leb}
use Rattle.probe.specs.Inner.Verdicts.{DecidesFor}
use Rattle.probe.specs.Laws.Terms.{row_findable}
use Rattle.probe.specs.Laws.Verdicts.{decides, pairs_asked, refused_so, met_so}
use Rattle.probe.proofs.probing.try_paired.Goals as goal
use Rattle.probe.proofs.probing.try_paired.Goals.{After-pinned_pairs-pairs}

pub last_within-row-requires-clause-probeable : goal.last_within-row-requires-clause-probeable
last_within-row-requires-clause-probeable c = (row_findable c.requires.lookable).0

pub returns-then-not-within-clause-decides_for : goal.returns-then-not-within-clause-decides_for
returns-then-not-within-clause-decides_for c = record {
  for = λ allowed. record {
    is = λ pin. refused_so _ c.within.ensures c.if-not-within.true (decides c.requires.lookable allowed pin (c.look-found.ensures.pinned_figures.is pin) refl);
  };
}

-- the other limits allow the value, and pairs tell the rest
by_pairs : (c : After-pinned_pairs-pairs) {taken : _} → leb c.pinned_pairs-pairs.result c.args.terms.pairs ≡ taken
    → DecidesFor c.args.lows.now c.args.highs.now c.args.terms c.args.trial.low c.args.trial.high c.args.trial.value taken
by_pairs c told = record {
  for = λ allowed. record {
    is = λ pin.
        let figured = c.look-found.ensures.pinned_figures.is pin in
        let differ = sym told ∙ ap (λ (t : ℕ). leb t c.args.terms.pairs) (c.pinned_pairs-pairs.ensures.is pin) in
        met_so _ c.within.ensures c.if-not-within.false
        (decides c.requires.lookable allowed pin figured (pairs_asked c.requires.lookable allowed pin figured.reached differ));
  };
}

pub returns-then-taken-clause-decides_for : goal.returns-then-taken-clause-decides_for
returns-then-taken-clause-decides_for c = by_pairs (goal.at.returns-then-taken-clause-decides_for c).After-pinned_pairs-pairs refl

pub returns-else-taken-clause-decides_for : goal.returns-else-taken-clause-decides_for
returns-else-taken-clause-decides_for c = by_pairs (goal.at.returns-else-taken-clause-decides_for c).After-pinned_pairs-pairs refl
