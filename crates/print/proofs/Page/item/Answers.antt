-- A space, then the number. Assumes nothing.
use Rattle.text.specs.Numbers.{print_number}
use Rattle.text.specs.Words.{bytes}
use Rattle.print.specs.Items.{item}
use Rattle.print.specs.Laws.Written.{first_fits, second_fits, both_written}
use Rattle.print.proofs.Page.item.Goals as goal

pub byte-requires : goal.byte-requires
unfolding item
byte-requires c = first_fits (bytes " ") (print_number c.args.v) c.requires

pub number-requires : goal.number-requires
unfolding item
number-requires c = second_fits (bytes " ") (print_number c.args.v) c.requires c.byte.ensures.wrote

pub returns-clause-wrote : goal.returns-clause-wrote
unfolding item
returns-clause-wrote c = both_written (bytes " ") (print_number c.args.v) c.requires c.byte.ensures.wrote c.number.ensures.wrote
