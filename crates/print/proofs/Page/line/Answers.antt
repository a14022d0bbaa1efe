-- The form, then its closing bracket and byte 10. Assumes nothing.
use Rattle.text.specs.Words.{bytes}
use Rattle.print.specs.Items.{form, printed_line}
use Rattle.print.specs.Laws.Written.{first_fits, second_fits, both_written}
use Rattle.print.proofs.Page.line.Goals as goal

pub form-requires : goal.form-requires
unfolding printed_line
form-requires c = first_fits (form c.args.word.now c.args.vs.now) (bytes ")\n") c.requires

pub word-requires : goal.word-requires
unfolding printed_line
word-requires c = second_fits (form c.args.word.now c.args.vs.now) (bytes ")\n") c.requires c.form.ensures.wrote

pub returns-clause-wrote : goal.returns-clause-wrote
unfolding printed_line
returns-clause-wrote c = both_written (form c.args.word.now c.args.vs.now) (bytes ")\n") c.requires c.form.ensures.wrote c.word.ensures.wrote
