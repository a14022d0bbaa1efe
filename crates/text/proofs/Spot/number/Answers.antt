-- The first digit decides: none, a 0 with no digit after it, or one that others follow. Assumes nothing.
use Rattle.std.proofs.Common.{sym, arith, eq-eqb, ne_eqb}
use Rattle.std.proofs.Math.Seq.{drop-drop}
use Rattle.text.specs.Parsed.{mapped}
use Rattle.text.specs.Laws.Spots.{digit_less, digit_inside, number_first, number_none}
use Rattle.text.proofs.Spot.number.Goals as goal

pub returns-in_err-first : goal.returns-in_err-first
unfolding mapped
returns-in_err-first c = rw (c.from_residual.ensures, number_none _ (sym c.in_err-first.ensures))

pub overflow_add-next : goal.overflow_add-next
overflow_add-next c = omega (arith, digit_inside c.args.text.now c.args.self.at _ (sym c.in_ok-first.ensures))

pub returns-then-first-eq0 : goal.returns-then-first-eq0
returns-then-first-eq0 c =
    rw (number_first _ _ (sym c.in_ok-first.ensures), eq-eqb c.in_ok-first.first 0 c.if-first-eq0.true, drop-drop 1 c.args.self.at c.args.text.now)

pub digits_from-requires : goal.digits_from-requires
digits_from-requires c = omega (arith, digit_less _ _ (sym c.in_ok-first.ensures))

pub returns : goal.returns
returns c =
    rw (number_first _ _ (sym c.in_ok-first.ensures), ne_eqb c.in_ok-first.first 0 c.if-first-eq0.false, drop-drop 1 c.args.self.at c.args.text.now)
    c.digits_from.ensures
