-- Arrays with room for every group have room for this one. Assumes nothing.
use Rattle.std.proofs.Common.{sym, ◌≤◌, length, length-take-le}
use Rattle.narrow.proofs.ranges.narrow_within.Goals as goal
use Rattle.narrow.proofs.ranges.narrow_within.Goals.{Start}

-- the first numbers are there
module _ (c : Start) where
  for-starts : length c.args.lows.now ≤ length c.args.starts.now
  for-starts = c.requires.table_room.size_starts c.requires.has_shares.sound.few

  for-stops : length c.args.lows.now ≤ length c.args.stops.now
  for-stops = c.requires.table_room.size_stops c.requires.has_shares.sound.few

pub slice_bounds-narrow_with-end : goal.slice_bounds-narrow_with-end
slice_bounds-narrow_with-end c = for-starts (goal.at.slice_bounds-narrow_with-end c).Start

pub slice_bounds-narrow_with-end-2 : goal.slice_bounds-narrow_with-end-2
slice_bounds-narrow_with-end-2 c = sym (length-take-le _ _ (for-starts (goal.at.slice_bounds-narrow_with-end-2 c).Start))

pub slice_bounds-narrow_with-end-3 : goal.slice_bounds-narrow_with-end-3
slice_bounds-narrow_with-end-3 c = for-stops (goal.at.slice_bounds-narrow_with-end-3 c).Start

pub slice_bounds-narrow_with-end-4 : goal.slice_bounds-narrow_with-end-4
slice_bounds-narrow_with-end-4 c = sym (length-take-le _ _ (for-stops (goal.at.slice_bounds-narrow_with-end-4 c).Start))

pub narrow_with-requires : goal.narrow_with-requires
narrow_with-requires c =
    let m = (goal.at.narrow_with-requires c).Start in
    record {
      has_shares = c.requires.has_shares;
      table_lists = record {
        size_starts = length-take-le _ _ (for-starts m);
        size_stops = length-take-le _ _ (for-stops m);
        size_table = c.requires.table_room.size_table c.requires.has_shares.sound.few;
      };
    }
