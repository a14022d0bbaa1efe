-- The members passed are in the tally; what is left is collected on. A turn spends bytes of the text. Assumes nothing.
use Rattle.std.proofs.Common.{ℕ, Bool, List, drop, ◌≡◌, sym, ◌∙◌, arith}
use Rattle.text.specs.Parsed.{failed}
use Rattle.text.specs.Inner.Numbers.{held}
use Rattle.form.specs.Form.{space, number_as}
use Rattle.form.specs.Inner.Tally.{Tally}
use Rattle.form.specs.Laws.Tally.{collect_tallied, collect_none, collect_next}
use Rattle.form.proofs.read_members.Goals as goal

abbrev tally : ℕ → Bool → List ℕ → Tally
tally count within flat = record { count = count; within = within; flat = flat }

pub returns : goal.returns
unfolding number_as
returns c =
    let none : number_as held space (drop c.loop-number.next.at c.args.text.now) ≡ failed = sym c.in_default.ensures in
    let v = c.loop-number.invariant in
    sym (collect_none c.args.units c.args.from v.turns _ _ none) ∙ v.told ∙ collect_tallied c.args.units c.args.from _ c.args.flat.now _

pub loop-number-smaller : goal.loop-number-smaller
unfolding number_as
loop-number-smaller c =
    let l = c.loop-number in
    (collect_next c.args.units c.args.from l.invariant.turns (tally l.count l.within l.flat) (drop l.next.at c.args.text.now) _ _ l.invariant.enough (sym c.in-Some.ensures)).2

pub loop-number-preserved : goal.loop-number-preserved
unfolding number_as
loop-number-preserved c =
    let l = c.loop-number in
    let v = l.invariant in
    let n = collect_next c.args.units c.args.from v.turns (tally l.count l.within l.flat) (drop l.next.at c.args.text.now) _ _ v.enough (sym c.in-Some.ensures) in
    record {
      turns = n.0;
      enough = n.1;
      counted = omega (arith, n.2, v.counted);
      kept = c.put_member.auto.flat ∙ v.kept;
      told = rw (c.put_member.ensures, c.still_within-within.ensures) (sym n.3 ∙ v.told);
    }
