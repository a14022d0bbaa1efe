-- The first byte by its kind, then the name. Assumes nothing.
use Rattle.std.proofs.Common.{true, false, ◌≡◌, sym, ◌∙◌}
use Rattle.text.specs.Kinds.{is_opening}
use Rattle.text.specs.Ailments.{is_named}
use Rattle.text.specs.Laws.Kinds.{same_opening}
use Rattle.text.specs.Laws.Spots.{next_byte, no_byte}
use Rattle.text.proofs.ailments.is_named.Goals as goal

pub returns-in_default : goal.returns-in_default
unfolding is_named
returns-in_default c = rw (no_byte c.args.text.now c.args.at c.in_default.ensures.lookup)

pub returns-then-eq : goal.returns-then-eq
unfolding is_named
returns-then-eq c =
    let opening : is_opening c.kind_of.result ≡ true = sym (same_opening _) ∙ sym c.eq.ensures ∙ c.if-eq.true in
    rw (next_byte c.args.text.now c.args.at c.in-Some.byte c.in-Some.ensures.lookup, ← c.kind_of.ensures, opening) c.is_name.ensures

pub returns-else-eq : goal.returns-else-eq
unfolding is_named
returns-else-eq c =
    let other : is_opening c.kind_of.result ≡ false = sym (same_opening _) ∙ sym c.eq.ensures ∙ c.if-eq.false in
    rw (next_byte c.args.text.now c.args.at c.in-Some.byte c.in-Some.ensures.lookup, ← c.kind_of.ensures, other) c.if-eq.false
