-- The level that the copies left over at the row reach gives the figures of the pinned group's levelled shares. Assumes nothing.
use Rattle.std.proofs.Common.{ℕ, ◌-◌, ◌≤◌, List, arith}
use Rattle.model.specs.Shares.{most_units}
use Rattle.breakpoints.specs.Inner.Rows.{row_at, last_row}
use Rattle.breakpoints.specs.Inner.Tables.{Sums}
use Rattle.probe.specs.declared.pinned.Reach.{Reach}
use Rattle.probe.specs.declared.terms.Terms.{Terms}
use Rattle.probe.specs.Inner.Pinned.{Pin, Reached}
use Rattle.probe.specs.Inner.Probes.{pinned_total, LastWithin, Divided}
use Rattle.probe.specs.Inner.Verdicts.{Lookable}
use Rattle.probe.specs.Laws.Figures.{summable, moved_squares}
use Rattle.probe.specs.Laws.Probes.{pinnable, growing, reached, divided_few, reached_below}
use Rattle.probe.specs.Laws.Sides.{halving, halved}
use Rattle.probe.specs.Laws.Terms.{reach_last, found_last, spot_told}
use Rattle.probe.proofs.probing.look.Goals as goal

-- what the function is asked, and the row found
module _ {lows highs table : List ℕ} {terms : Terms} {low high v k : ℕ} (asked : Lookable lows highs table terms low high v)
    (last : LastWithin table terms.last low high v terms.total k) where
  found : LastWithin table (last_row table) low high v terms.total k
  found = found_last asked last

  sums : Sums lows highs (row_at table k)
  sums = asked.held.sums _ found.up_to

  few_lows : (row_at table k).lows ≤ most_units
  few_lows = omega (arith, sums.few_lows, asked.sound.few)

  -- the level reached, for whatever ranges have the value
  module _ {reach : Reach} (divided : Divided (row_at table k) low high (terms.total - pinned_total (row_at table k) low high v) reach) where
    few : reach.over ≤ most_units
    few = divided_few divided few_lows

    there : {lows' highs' : List ℕ} → Pin lows highs low high v lows' highs'
        → Reached lows' highs' terms.total (row_at table k).mark reach.growing reach.level reach.over
    there pin = reached asked.sound asked.held pin found (reach_last asked).greatest reach divided

pub pinned_total-requires : goal.pinned_total-requires
pinned_total-requires c =
    let asked = c.requires.lookable in
    rw c.read_row-row.ensures (pinnable asked.sound asked.held asked.asked.pin _ (found asked c.requires.last_within).up_to)

pub reach_from-reach-requires-clause-mark_bound : goal.reach_from-reach-requires-clause-mark_bound
reach_from-reach-requires-clause-mark_bound c =
    let asked = c.requires.lookable in
    rw (c.pinned_total.ensures, c.read_row-row.ensures)
    (growing asked.sound asked.held asked.asked.pin (found asked c.requires.last_within) (reach_last asked).greatest)

pub pinned_squares-squares-requires : goal.pinned_squares-squares-requires
pinned_squares-squares-requires c =
    let asked = c.requires.lookable in
    let last = c.requires.last_within in
    let divided = rw (c.pinned_total.ensures, c.read_row-row.ensures) at c.reach_from-reach.ensures in
    let pin = asked.asked.pin in
    rw (c.clamp-own.ensures, c.read_row-row.ensures)
    (summable pin (sums asked last).squares divided (there asked last divided pin) asked.sound (sums asked last).share (omega (arith, asked.sound.small))
    (few asked last divided))

pub pinned_half-half-requires-clause-halving : goal.pinned_half-half-requires-clause-halving
pinned_half-half-requires-clause-halving c =
    let asked = c.requires.lookable in
    let last = c.requires.last_within in
    let divided = rw (c.pinned_total.ensures, c.read_row-row.ensures) at c.reach_from-reach.ensures in
    let pin = asked.asked.pin in
    halving asked.sound asked.summed c.args.trial pin c.reach_from-reach.result (there asked last divided pin) (few asked last divided)

pub returns-clause-pinned_figures : goal.returns-clause-pinned_figures
returns-clause-pinned_figures c =
    let asked = c.requires.lookable in
    let last = c.requires.last_within in
    let divided = rw (c.pinned_total.ensures, c.read_row-row.ensures) at c.reach_from-reach.ensures in
    record {
      is = λ pin. record {
        mark = _;
        moving = _;
        reached = there asked last divided pin;
        halves = halved asked.sound asked.summed c.args.trial pin c.reach_from-reach.result (there asked last divided pin) c.pinned_half-half.ensures;
        small = c.pinned_half-half.ensures.small;
        squares = moved_squares pin (sums asked last).squares divided (there asked last divided pin)
            (rw (c.clamp-own.ensures, c.read_row-row.ensures) at c.pinned_squares-squares.ensures);
      };
    }

pub returns-clause-spot_below : goal.returns-clause-spot_below
returns-clause-spot_below c =
    let asked = c.requires.lookable in
    let last = c.requires.last_within in
    let divided = rw (c.pinned_total.ensures, c.read_row-row.ensures) at c.reach_from-reach.ensures in
    spot_told asked
    (reached_below asked.sound asked.held asked.asked.pin (found asked last) (reach_last asked).greatest c.reach_from-reach.result divided (few_lows asked last))
