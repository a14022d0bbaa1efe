-- One row more has its numbers in each turn. Assumes nothing.
use Rattle.std.proofs.Common.{◌≡◌, ◌<◌, suc, refl, ap, ◌∙◌, arith, add-one}
use Rattle.breakpoints.specs.Inner.Rows.{row_at, last_row}
use Rattle.breakpoints.specs.Laws.PairFills.{starts_sorted, pairs_first, next_movable, pairs_next, pairs_all}
use Rattle.breakpoints.proofs.build.fill_pairs.Goals as goal
use Rattle.breakpoints.proofs.build.fill_pairs.Goals.{After-read_row-next}

pub first_pair_row-here-requires-clause-starts_bound : goal.first_pair_row-here-requires-clause-starts_bound
first_pair_row-here-requires-clause-starts_bound c = (starts_sorted c.requires.sound_ranges c.requires.ordered).2

pub loop-k-init : goal.loop-k-init
loop-k-init c =
    pairs_first c.requires.sound_ranges c.requires.ordered c.requires.breakpoints c.requires.passed c.read_row-row.ensures
    c.first_pair_row-here.ensures.0 c.first_pair_row-here.ensures.1 c.write_pair_row.ensures

-- a row follows, and is the one that was
module _ (c : After-read_row-next) where
  more : c.loop-k.k < last_row c.args.table.now
  more = omega arith

  next-is : c.read_row-next.result ≡ row_at c.args.table.now (suc c.loop-k.k)
  next-is = c.read_row-next.ensures ∙ c.loop-k.invariant.rows _ ∙ ap (row_at c.args.table.now) (add-one _)

pub distances_at-there-requires : goal.distances_at-there-requires
distances_at-there-requires c =
    next_movable c.requires.sound_ranges c.requires.ordered c.requires.breakpoints c.requires.passed c.loop-k.invariant (more c) (next-is c)

pub loop-k-preserved : goal.loop-k-preserved
loop-k-preserved c =
    let at = (goal.at.loop-k-preserved c).After-read_row-next in
    rw add-one (pairs_next c.requires.sound_ranges c.requires.ordered c.requires.breakpoints c.requires.passed c.loop-k.invariant (more at) (next-is at) c.distances_at-there.ensures refl refl (rw add-one at c.write_pair_row-in-loop-k.ensures))

pub returns : goal.returns
returns c =
    let (breakpoints, paired) = pairs_all c.requires.sound_ranges c.requires.ordered c.requires.breakpoints c.requires.passed c.loop-k.invariant (omega arith) in
    record { breakpoints_2 = breakpoints; paired = paired }
