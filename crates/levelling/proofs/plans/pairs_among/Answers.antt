-- Sorting rearranges the shares, and no rearrangement changes their pair differences. Assumes nothing.
use native.Mathlib.Omega.{arith}
use mathlib.Core.Path.{sym, ◌∙◌}
use Rattle.model.proofs.Laws.Lists.{sum_sum_of}
use Rattle.model.proofs.Laws.Pairs.{pairs_same}
use Rattle.levelling.proofs.plans.pairs_among.Goals as goal

pub sorted_pairs-requires-clause-xs_bound : goal.sorted_pairs-requires-clause-xs_bound
sorted_pairs-requires-clause-xs_bound c =
    let adds = sum_sum_of c.sort.new.xs ∙ c.sort.ensures.rearranged.sums (λ x. x) ∙ sym (sum_sum_of c.args.shares.now) in
    omega (arith, adds, c.requires.shares_bound)

pub returns : goal.returns
returns c = c.sorted_pairs.ensures ∙ pairs_same _ _ c.sort.ensures.rearranged.sums
