-- The word, then the numbers. Assumes nothing.
use Rattle.print.specs.Items.{items, form}
use Rattle.print.specs.Laws.Written.{first_fits, second_fits, both_written}
use Rattle.print.proofs.Page.form.Goals as goal

pub word-requires : goal.word-requires
unfolding form
word-requires c = first_fits c.args.word.now (items c.args.vs.now) c.requires

pub items-requires : goal.items-requires
unfolding form
items-requires c = second_fits c.args.word.now (items c.args.vs.now) c.requires c.word.ensures.wrote

pub returns-clause-wrote : goal.returns-clause-wrote
unfolding form
returns-clause-wrote c = both_written c.args.word.now (items c.args.vs.now) c.requires c.word.ensures.wrote c.items.ensures.wrote
