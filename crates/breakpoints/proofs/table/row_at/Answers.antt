-- The sums at the mark are those at the row and what they rise by, and no sum over shares is great. Assumes nothing.
use Rattle.std.proofs.Common.{◌+◌, ◌*◌, ◌≤◌, refl, arith}
use Rattle.model.specs.Shares.{most_units}
use Rattle.breakpoints.specs.Inner.Tables.{SpanTo, greatest_part}
use Rattle.breakpoints.specs.Laws.Tables.{clamped_small, small_itself, small_square, rise, rises_more, total_risen, squares_risen}
use Rattle.breakpoints.proofs.table.row_at.Goals as goal
use Rattle.breakpoints.proofs.table.row_at.Goals.{Start}

module _ (s : Start) where
  abbrev span : SpanTo s.args.lows.now s.args.highs.now s.args.row s.args.mark
  span = s.requires.span_to

  total_small : s.args.row.total + rise span ≤ most_units * greatest_part
  total_small = omega (arith, s.requires.sums.totals, total_risen span, clamped_small s.requires.sound_ranges.ranges small_itself s.args.mark, s.requires.sound_ranges.few)

  squares_small : s.args.row.squares + rise span * (s.args.row.mark + s.args.mark) ≤ most_units * greatest_part
  squares_small = omega (arith, s.requires.sums.squares, squares_risen span, clamped_small s.requires.sound_ranges.ranges small_square s.args.mark, s.requires.sound_ranges.few)

pub overflow_sub-more : goal.overflow_sub-more
overflow_sub-more c = rises_more c.requires.span_to

pub overflow_add-total : goal.overflow_add-total
overflow_add-total c = omega (arith, total_small (goal.at.overflow_add-total c).Start)

pub overflow_add-squares-2 : goal.overflow_add-squares-2
overflow_add-squares-2 c = omega (arith, squares_small (goal.at.overflow_add-squares-2 c).Start)

pub returns : goal.returns
returns c = record {
  sums = record {
    share = c.requires.mark_le_greatest_share;
    totals = rw c.requires.sums.totals (total_risen c.requires.span_to);
    squares = rw c.requires.sums.squares (squares_risen c.requires.span_to);
    few_lows = c.requires.sums.few_lows;
    few_highs = c.requires.sums.few_highs;
  };
  at = refl;
  same_lows = refl;
  same_highs = refl;
}
