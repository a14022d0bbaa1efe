-- The sum is the library's. Assumes nothing.
use Rattle.std.proofs.Common.{rules, ◌≤◌}
use Rattle.std.specs.List.{sum_by}
use Rattle.model.specs.Shares.{greatest_total}
use Rattle.model.proofs.Laws.Lists.{sum_is}
use Rattle.model.proofs.shares.sum_of.Goals as goal

pub sum-requires-clause-fits : goal.sum-requires-clause-fits
sum-requires-clause-fits c =
    let small : sum_by (λ x. x) c.args.xs.now ≤ greatest_total = rw sum_is at c.requires in search (rules, small)

pub returns : goal.returns
returns c = rw (sum_is c.args.xs.now) (search rules)
