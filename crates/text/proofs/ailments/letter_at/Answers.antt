-- Past the end there is none; before it the kind decides. Assumes nothing.
use Rattle.std.proofs.Common.{◌∙◌}
use Rattle.text.specs.Ailments.{letter_next}
use Rattle.text.specs.Laws.Kinds.{same_letter}
use Rattle.text.specs.Laws.Spots.{next_byte, no_byte}
use Rattle.text.proofs.ailments.letter_at.Goals as goal

pub returns-in_default : goal.returns-in_default
unfolding letter_next
returns-in_default c = rw (no_byte c.args.text.now c.args.at c.in_default.ensures.lookup)

pub returns : goal.returns
unfolding letter_next
returns c =
    rw (next_byte c.args.text.now c.args.at c.in-Some.byte c.in-Some.ensures.lookup, ← c.kind_of.ensures) (c.eq.ensures ∙ same_letter _)
