-- What is found is within the terms of deviation and spread where the group with a member pinned to the value has a plan, but for pairs. Assumes nothing.
use Rattle.std.proofs.Common.{refl}
use Rattle.probe.specs.Inner.Verdicts.{Judged}
use Rattle.probe.specs.Laws.Terms.{lookable, row_findable}
use Rattle.probe.specs.Laws.Verdicts.{decides, pairs_unasked, refused_so, met_so, decided_as}
use Rattle.probe.proofs.probing.try_value.Goals as goal
use Rattle.probe.proofs.probing.try_value.Goals.{After-within-taken}

pub last_within-row-requires-clause-probeable : goal.last_within-row-requires-clause-probeable
last_within-row-requires-clause-probeable c = (row_findable (lookable c.requires)).0

judged : (c : After-within-taken) → Judged c.args.lows.now c.args.highs.now c.args.question.total c.args.question.limits c.args.terms c.args.trial.low c.args.trial.high c.args.trial.value c.within-taken.result
judged c =
    let allowed = c.requires.termed.allowed in
    let asked = lookable c.requires in
    record {
      refused = λ no. record {
        is = λ {lows'} {highs'} pin.
            decided_as lows' highs' c.args.question.limits c.requires.termed.totals
            (refused_so _ c.within-taken.ensures no (decides asked allowed pin (c.look-pinned.ensures.pinned_figures.is pin) refl));
      };
      allowed = λ yes past. record {
        is = λ {lows'} {highs'} pin.
            let figured = c.look-pinned.ensures.pinned_figures.is pin in
            decided_as lows' highs' c.args.question.limits c.requires.termed.totals
            (met_so _ c.within-taken.ensures yes (decides asked allowed pin figured (pairs_unasked asked allowed pin figured.reached past)));
      };
    }

pub returns-then-taken-clause-judged : goal.returns-then-taken-clause-judged
returns-then-taken-clause-judged c = judged (goal.at.returns-then-taken-clause-judged c).After-within-taken

pub returns-else-taken-clause-judged : goal.returns-else-taken-clause-judged
returns-else-taken-clause-judged c = judged (goal.at.returns-else-taken-clause-judged c).After-within-taken
