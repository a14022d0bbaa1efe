-- From the last number on, each is taken from all later ones. Assumes nothing.
use Rattle.std.proofs.Common.{ℕ, List, [], ◌∷◌, ◌++◌, suc, ◌≡◌, ◌+◌, ◌-◌, ◌*◌, ◌≤◌, length, take, sym, arith}
use Rattle.std.proofs.Math.Nat.{mul-le-mul}
use Rattle.std.proofs.Math.Seq.{take-length}
use Rattle.model.specs.Shares.{sum, greatest_total, most_units}
use Rattle.model.specs.Inner.Orders.{Rising}
use Rattle.model.proofs.Laws.Lists.{from_end}
use Rattle.model.proofs.Laws.Pairs.{PairsFrom, pairs_none, pairs_step, from_here, told_small}
use Rattle.model.proofs.differences.sorted_pairs.Goals as goal
use Rattle.model.proofs.differences.sorted_pairs.Goals.{In-Some}

-- the number that is passed
module _ (xs rest less : List ℕ) (x : ℕ) {later total told : ℕ} (risen : Rising (length xs) xs)
    (held : PairsFrom xs (length rest) later total told × (rest ≡ take (length rest) xs)) (is : rest ≡ less ++ (x ∷ [])) where
  here : PairsFrom xs (suc (length less)) later total told
  here = rw (from_end xs rest less x held.1 is).0 at held.0

  fits : later * x ≤ total
  fits = rw (from_end xs rest less x held.1 is).1 (omega (arith, from_here risen here))

  step : PairsFrom xs (length less) (later + 1) (total + x) (told + (total - later * x)) × (less ≡ take (length less) xs)
  step =
      let passed = from_end xs rest less x held.1 is in
      (rw passed.1 (pairs_step risen here _ (rw (← passed.1) (omega (arith, fits)))), passed.2)

  -- what is told is small
  small : length xs ≤ most_units → sum xs ≤ greatest_total
      → (total + x ≤ greatest_total) × (later + 1 ≤ most_units) × (told + (total - later * x) ≤ most_units * greatest_total)
  small short bound =
      let next = told_small step.0 in
      let few : later + 1 ≤ most_units = omega (arith, step.0.place) in
      let most : total + x ≤ greatest_total = omega (arith, next.0) in
      (most, few, omega (arith, next.1, mul-le-mul few most))

pub loop-x-init : goal.loop-x-init
loop-x-init c =
    rw (c.into_iter-x-iterator.ensures.into_iter_gives, c.rev-x-items.ensures.source, c.iter.ensures.rest)
    (pairs_none c.args.xs.now, sym (take-length c.args.xs.now))

pub loop-x-preserved : goal.loop-x-preserved
loop-x-preserved c = step _ _ _ _ c.requires.rising c.loop-x.invariant c.in-Some.ensures.steps

pub overflow_sub-pairs : goal.overflow_sub-pairs
overflow_sub-pairs c = fits _ _ _ _ c.requires.rising c.loop-x.invariant c.in-Some.ensures.steps

-- what is told at the number that is passed
told : (c : In-Some)
    → (c.loop-x.sum + c.in-Some.x.now ≤ greatest_total) × (c.loop-x.later + 1 ≤ most_units)
    × (c.loop-x.pairs + (c.loop-x.sum - c.loop-x.later * c.in-Some.x.now) ≤ most_units * greatest_total)
told c = small _ _ _ _ c.requires.rising c.loop-x.invariant c.in-Some.ensures.steps c.requires.xs_len_bound c.requires.xs_bound

pub overflow_mul-pairs : goal.overflow_mul-pairs
overflow_mul-pairs c =
    omega (arith, fits _ _ _ _ c.requires.rising c.loop-x.invariant c.in-Some.ensures.steps, told (goal.at.overflow_mul-pairs c).In-Some)

pub overflow_add-pairs : goal.overflow_add-pairs
overflow_add-pairs c = omega (arith, told (goal.at.overflow_add-pairs c).In-Some)

pub overflow_add-sum : goal.overflow_add-sum
overflow_add-sum c = omega (arith, told (goal.at.overflow_add-sum c).In-Some)

pub overflow_add-later : goal.overflow_add-later
overflow_add-later c = omega (arith, told (goal.at.overflow_add-later c).In-Some)

pub returns : goal.returns
returns c = rw c.in-None.ensures.steps.0 at c.loop-x.invariant.0.differ
