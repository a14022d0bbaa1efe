-- Whichever bound comes first, none lies before it, and one more is passed. Assumes nothing.
use Rattle.std.proofs.Common.{arith}
use Rattle.breakpoints.specs.Laws.Steps.{bounds_few, low_next, low_stepped, high_next, high_stepped}
use Rattle.breakpoints.proofs.table.next_row.Goals as goal

pub low_first-requires-clause-b_in_bounds_2 : goal.low_first-requires-clause-b_in_bounds_2
low_first-requires-clause-b_in_bounds_2 c = omega (arith, c.requires.highs_bound, (bounds_few c.requires.sound_ranges c.requires.risen).1)

pub row_at-low-requires : goal.row_at-low-requires
row_at-low-requires c = let (span, share) = low_next c.requires.sound_ranges c.requires.risen c.requires.row_reached (c.low_first.ensures.is_low c.if-low_first.true) in
    record { sound_ranges = c.requires.sound_ranges; sums = c.requires.row_reached.sums; span_to = span; mark_le_greatest_share = share }

pub returns-then-low_first : goal.returns-then-low_first
returns-then-low_first c =
    low_stepped c.requires.sound_ranges c.requires.risen c.requires.row_reached (c.low_first.ensures.is_low c.if-low_first.true) c.row_at-low.ensures

pub row_at-high-requires : goal.row_at-high-requires
row_at-high-requires c = let (span, share) = high_next c.requires.sound_ranges c.requires.risen c.requires.row_reached (c.low_first.ensures.is_high c.if-low_first.false) in
    record { sound_ranges = c.requires.sound_ranges; sums = c.requires.row_reached.sums; span_to = span; mark_le_greatest_share = share }

pub returns : goal.returns
returns c =
    high_stepped c.requires.sound_ranges c.requires.risen c.requires.row_reached (c.low_first.ensures.is_high c.if-low_first.false) c.row_at-high.ensures
