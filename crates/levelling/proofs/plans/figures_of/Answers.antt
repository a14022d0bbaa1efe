-- The figures of the members passed and of those left add up to the figures; neither wraps. Assumes nothing.
use native.Mathlib.Omega.{arith}
use native.Mathlib.Nat.{mul-le-mul}
use mathlib.Core.List.{List}
use mathlib.Core.Path.{◌≡◌, refl, sym, ◌∙◌}
use Prim.Native.Nat.{ℕ, ◌-◌, ◌*◌, ◌≤◌, ◌<◌}
use lib.ListN.{length, get_or}
use Rattle.model.proofs.Laws.Spread.{cauchy_schwarz}
use Rattle.model.specs.Shares.{pick, sum, Within, greatest_share, sum_of, greatest_total, most_units}
use Rattle.model.specs.Running.{runs, running}
use Rattle.model.proofs.Laws.Running.{marked_length, running_length, running_within, running_sum_of, running_sum}
use Rattle.model.specs.Figures.{apart, deviation, spread}
use Rattle.model.specs.Sound.{SoundRanges}
use Rattle.model.proofs.Laws.Sound.{running_sound}
use Rattle.levelling.specs.Inner.Shared.{SoundShares}
use Rattle.levelling.specs.Laws.Shared.{own_within}
use Rattle.levelling.specs.Laws.Summing.{summed_step, running_step, summed_all, summed_running}
use Rattle.model.proofs.Laws.Bounds.{share_small, sum_small, squares_small, deviation_small}
use Rattle.levelling.proofs.plans.figures_of.Goals as goal

-- the shares and their total
module _ (marks shares : List ℕ) (total : ℕ) (pre : SoundShares marks shares total) where
  within : Within shares shares shares
  within = own_within pre.sound.ranges

  total-bound : total ≤ greatest_total
  total-bound = rw (← pre.adds) (sum_small pre.sound within)

  -- a member's share is at most the greatest, and it has a mark
  share-bound : (i : ℕ) → i < length shares → get_or shares i 0 ≤ greatest_share
  share-bound i here = share_small pre.sound within i here

  marked : (i : ℕ) → i < length shares → i < length marks
  marked i here = omega (arith, (marked_length pre.marked).0)

  squares-bound : sum_of (λ x. x * x) shares ≤ most_units * (greatest_share * greatest_share)
  squares-bound = squares_small pre.sound within

  -- the running members' shares, which are sound too, and how many they are
  abbrev ran : List ℕ
  ran = running marks shares

  ran-sound : SoundRanges ran ran
  ran-sound = running_sound marks pre.sound

  ran-within : Within ran ran ran
  ran-within = running_within marks within

  -- the squares of all shares are those of the running members'
  ran-squares : sum_of (λ x. x * x) shares ≡ sum_of (λ x. x * x) ran
  ran-squares = sym (running_sum_of (λ x. x * x) refl pre.marked within)

  -- their deviation from the total, and their squares, with n their number
  module _ (n : ℕ) (is : n ≡ length (running marks marks)) where
    is-many : n ≡ length ran
    is-many = is ∙ sym (running_length _ shares marks (marked_length pre.marked).0)

    few-many : n ≤ most_units
    few-many = omega (arith, is-many, ran-sound.few)

    deviation-bound : sum_of (λ x. apart (n * x) total) ran ≤ most_units * greatest_total
    unfolding deviation
    deviation-bound = rw is-many (deviation_small ran-sound ran-within total total-bound)

    enough : (squares : ℕ) → squares ≡ sum_of (λ x. x * x) shares
        → (total * total ≤ n * squares) × (n * squares ≤ 18_446_744_073_709_551_615)
    enough squares are =
        let adds : sum ran ≡ total = running_sum pre.marked within ∙ pre.adds in
        let least : total * total ≤ length ran * sum_of (λ x. x * x) ran = rw adds at (cauchy_schwarz ran) in
        (rw (is-many, are, ran-squares) least, rw (are, ran-squares) (omega (arith, mul-le-mul few-many (squares_small ran-sound ran-within))))

    deviation-is : (found : ℕ) → found ≡ sum_of (λ x. apart (n * x) total) ran → found ≡ deviation (length ran) total ran
    unfolding deviation
    deviation-is found is_found = is_found ∙ rw is-many

    spread-is : (squares found : ℕ) → squares ≡ sum_of (λ x. x * x) shares → found ≡ n * squares - total * total
        → found ≡ spread (length ran) total ran
    unfolding spread
    spread-is squares found are is_found = is_found ∙ rw (is-many, are, ran-squares)

pub bounds-marks-i : goal.bounds-marks-i
bounds-marks-i c = marked _ _ _ c.requires c.loop-i.i (omega arith)

pub overflow_mul-count : goal.overflow_mul-count
overflow_mul-count c =
    omega (arith, mul-le-mul (few-many _ _ _ c.requires _ c.running_count-count.ensures) (share-bound _ _ _ c.requires c.loop-i.i (omega arith)))

pub loop-i-preserved : goal.loop-i-preserved
loop-i-preserved c =
    let i = c.loop-i.i in
    let shares = c.args.shares.now in
    let marks = c.args.marks.now in
    let inv = c.loop-i.invariant in
    let here : i < length shares = omega arith in
    let mark : i < length marks = marked _ _ _ c.requires i here in
    let part : c.if_running-deviation.result ≡ pick (runs (get_or marks i 0)) (apart (c.running_count-count.result * get_or shares i 0) c.args.total) 0 =
    rw (← c.abs_diff.ensures) c.if_running-deviation.ensures in
    (running_step _ marks shares i mark here _ _ part inv.0, summed_step _ marks shares i mark here _ inv.1)

pub overflow_add-deviation : goal.overflow_add-deviation
overflow_add-deviation c =
    omega (arith, (loop-i-preserved c).0, deviation-bound _ _ _ c.requires _ c.running_count-count.ensures)

pub overflow_mul-squares : goal.overflow_mul-squares
overflow_mul-squares c =
    let bound = share-bound _ _ _ c.requires c.loop-i.i (omega arith) in
    omega (arith, mul-le-mul bound bound)

pub overflow_add-squares : goal.overflow_add-squares
overflow_add-squares c = omega (arith, (loop-i-preserved c).1, squares-bound _ _ _ c.requires)

pub from_squares-requires : goal.from_squares-requires
from_squares-requires c =
    let held = enough _ _ _ c.requires _ c.running_count-count.ensures _ (summed_all _ c.args.shares.now _ _ (omega arith) c.loop-i.invariant.1) in
    record { total_bound = held.0; squares_bound = held.1 }

pub returns : goal.returns
returns c =
    let shares = c.args.shares.now in
    let deviated = summed_running _ c.args.marks.now shares _ _ (omega arith) c.loop-i.invariant.0 in
    let squared = summed_all _ shares _ _ (omega arith) c.loop-i.invariant.1 in
    rw (
      ← deviation-is _ _ _ c.requires _ c.running_count-count.ensures _ deviated,
      ← spread-is _ _ _ c.requires _ c.running_count-count.ensures _ _ squared c.from_squares.ensures,
      ← c.pairs_of.ensures,
    )
