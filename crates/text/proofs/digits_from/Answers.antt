-- The digits passed are held in the value. Assumes nothing.
use Rattle.std.proofs.Common.{sym, ◌∙◌, arith}
use Rattle.std.proofs.Math.Seq.{drop-drop}
use Rattle.text.specs.Laws.Spots.{digit_less, digit_inside, digit_on, digit_none}
use Rattle.text.proofs.digits_from.Goals as goal

pub grown-value-requires : goal.grown-value-requires
grown-value-requires c = (c.loop-digit.invariant.low, digit_less _ _ (sym c.in-Some.ensures))

pub overflow_add-at : goal.overflow_add-at
overflow_add-at c = omega (arith, digit_inside c.args.text.now c.loop-digit.at _ (sym c.in-Some.ensures))

pub loop-digit-smaller : goal.loop-digit-smaller
loop-digit-smaller c = omega (arith, digit_inside c.args.text.now c.loop-digit.at _ (sym c.in-Some.ensures))

pub loop-digit-preserved : goal.loop-digit-preserved
loop-digit-preserved c = record {
  told =
      rw (c.grown-value.ensures, ← drop-drop 1 c.loop-digit.at c.args.text.now)
      (sym (digit_on _ _ _ (sym c.in-Some.ensures)) ∙ c.loop-digit.invariant.told);
  low = omega (arith, c.grown-value.ensures);
}

pub returns : goal.returns
returns c = sym (digit_none _ _ (sym c.in_default.ensures)) ∙ c.loop-digit.invariant.told
