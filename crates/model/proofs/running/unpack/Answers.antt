-- The members from i on have their numbers back. Assumes nothing.
use Rattle.std.proofs.Common.{ℕ, suc, refl, List, [], ◌∷◌, ◌++◌, ◌≡◌, ◌+◌, ◌-◌, ◌≤◌, ◌<◌, length, get_or, set, take, sym, ◌∙◌, add-one, arith}
use Rattle.std.proofs.Math.Seq.{take-length}
use Rattle.model.specs.Shares.{pick}
use Rattle.model.specs.Running.{runs}
use Rattle.model.proofs.Laws.Lists.{from_end}
use Rattle.model.proofs.Laws.Packing.{Unpacked, unpacked_none, still, unpacked_step, unpacked_all}
use Rattle.model.proofs.running.unpack.Goals as goal

-- the member before those that are back
module _ (marks rest less : List ℕ) (mark : ℕ) {numbers ys : List ℕ} {left base i more : ℕ}
    (held : Unpacked marks numbers ys left (length rest) × (base ≡ 0) × (rest ≡ take (length rest) marks))
    (is : rest ≡ less ++ (mark ∷ [])) (place : i ≡ base + length less) (is_more : more ≡ pick (runs mark) 1 0) where
  at_end : (length rest ≡ suc (length less)) × (mark ≡ get_or marks (length less) 0) × (less ≡ take (length less) marks)
  at_end = from_end marks rest less mark held.2 is

  at_place : i ≡ length less
  at_place = omega (arith, place, held.1)

  here : Unpacked marks numbers ys left (length less + 1)
  here = rw add-one (rw at_end.0 at held.0)

  same : more ≡ pick (runs (get_or marks (length less) 0)) 1 0
  same = rw at_end.1 at is_more

  coming : (more ≤ left) × (left - more < length numbers)
  coming = omega (arith, still (omega (arith, here.inside)) here more same, here.inside, here.size)

  step : (value : ℕ) → value ≡ pick (runs mark) (get_or numbers (left - more) 0) 0
      → Unpacked marks (set numbers i value) ys (left - more) (length less) × (base ≡ 0) × (less ≡ take (length less) marks)
  step value is_value =
      rw at_place (unpacked_step (omega (arith, here.inside)) here more value same (rw at_end.1 at is_value), held.1, at_end.2)

pub loop-i-init : goal.loop-i-init
loop-i-init c =
    rw (c.into_iter-i-iterator.ensures.into_iter_gives, c.rev-i-items.ensures.source, c.enumerate.ensures.source, c.enumerate.ensures.count, c.iter.ensures.rest)
    (unpacked_none c.requires.numbers_len c.requires.count_value, refl, sym (take-length c.args.marks.now))

pub overflow_sub-left : goal.overflow_sub-left
overflow_sub-left c =
    (coming _ _ _ _ c.loop-i.invariant c.in-Some.ensures.steps.1.0 c.in-Some.ensures.steps.1.1 c.count_of-left.ensures).0

pub bounds-numbers-left : goal.bounds-numbers-left
bounds-numbers-left c =
    (coming _ _ _ _ c.loop-i.invariant c.in-Some.ensures.steps.1.0 c.in-Some.ensures.steps.1.1 c.count_of-left.ensures).1

pub loop-i-preserved : goal.loop-i-preserved
loop-i-preserved c =
    let kept = step _ _ _ _ c.loop-i.invariant c.in-Some.ensures.steps.1.0 c.in-Some.ensures.steps.1.1 c.count_of-left.ensures _ c.if_running.ensures in
    (kept.0, c.in-Some.ensures.steps.0 ∙ kept.1, kept.2)

pub returns : goal.returns
returns c = unpacked_all (rw c.in-None.ensures.steps.1.0 at c.loop-i.invariant.0)
