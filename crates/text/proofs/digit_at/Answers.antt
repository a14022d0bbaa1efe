-- A byte past the end is none; one that is there is a digit exactly by its kind. Assumes nothing.
use Rattle.std.proofs.Common.{true, false, ◌≡◌, sym, ◌∙◌}
use Rattle.std.proofs.lemmas.Bool.{not-true, not-false}
use Rattle.text.specs.Numbers.{is_digit}
use Rattle.text.specs.Inner.Spots.{first_digit}
use Rattle.text.specs.Laws.Kinds.{same_digit}
use Rattle.text.specs.Laws.Spots.{next_byte, no_byte}
use Rattle.text.proofs.digit_at.Goals as goal

pub returns-in_err-byte : goal.returns-in_err-byte
unfolding first_digit
returns-in_err-byte c = rw (no_byte c.args.text.now c.args.at c.in_err-byte.ensures.lookup, c.from_residual.ensures)

pub returns-then-ne : goal.returns-then-ne
unfolding first_digit
returns-then-ne c =
    let other : is_digit c.kind_of.result ≡ false = sym (same_digit _) ∙ not-true _ (sym c.ne.ensures ∙ c.if-ne.true) in
    rw (next_byte c.args.text.now c.args.at c.in_ok-byte.field-0 c.in_ok-byte.ensures.lookup, ← c.kind_of.ensures, other)

pub returns : goal.returns
unfolding first_digit
returns c =
    let digit : is_digit c.kind_of.result ≡ true = sym (same_digit _) ∙ not-false _ (sym c.ne.ensures ∙ c.if-ne.false) in
    rw (next_byte c.args.text.now c.args.at c.in_ok-byte.field-0 c.in_ok-byte.ensures.lookup, ← c.kind_of.ensures, digit)
