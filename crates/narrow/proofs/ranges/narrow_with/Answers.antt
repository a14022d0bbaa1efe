-- The table is built, and the ranges narrowed over it are copied back. Assumes nothing.
use Rattle.std.proofs.Common.{arith, true, ◌≡◌, refl, sym, ap, ◌∙◌, length, length-take-le}
use Rattle.model.specs.Plans.{narrowed_lows, narrowed_highs}
use Rattle.model.proofs.Laws.Narrowing.{narrowed_lows_length, narrowed_highs_length}
use Rattle.narrow.specs.Laws.Tabled.{probe_sound, asked_for}
use Rattle.narrow.specs.Laws.Turns.{if_planned}
use Rattle.narrow.proofs.ranges.narrow_with.Goals as goal
use Rattle.narrow.proofs.ranges.narrow_with.Goals.{Else-not-planned}

pub build-size-requires : goal.build-size-requires
build-size-requires c = let room = c.requires.table_lists in
    record { sound_ranges = c.requires.has_shares.sound; starts_len = room.size_starts; stops_len = room.size_stops; lows_in_bounds = room.size_table }

pub slice_bounds-narrow_on-end : goal.slice_bounds-narrow_on-end
slice_bounds-narrow_on-end c = c.build-size.ensures.upper_bound

pub slice_bounds-narrow_on-end-2 : goal.slice_bounds-narrow_on-end-2
slice_bounds-narrow_on-end-2 c = sym (length-take-le _ _ c.build-size.ensures.upper_bound)

pub narrow_on-planned-requires : goal.narrow_on-planned-requires
narrow_on-planned-requires c = let room = c.requires.table_lists in record {
  has_shares = c.requires.has_shares;
  tabled = record {
    sound = probe_sound c.requires.has_shares;
    held = c.build-size.ensures.breakpoints;
    paired = λ limited. c.build-size.ensures.paired (asked_for _ _ c.limits_pairs-paired.ensures limited);
  };
  starts_len = omega (arith, room.size_starts);
  stops_len = omega (arith, room.size_stops);
}

pub returns-then-not-planned : goal.returns-then-not-planned
returns-then-not-planned c =
    record { answer = sym c.if-not-planned.true ∙ c.narrow_on-planned.ensures.value; lows_are = refl; highs_are = refl }

-- the group has a plan, and is narrowed in starts and stops
module _ (c : Else-not-planned) where
  found : c.narrow_on-planned.result ≡ true
  found = c.if-not-planned.false

  in-starts : c.narrow_on-planned.new.starts ≡ narrowed_lows c.args.lows.now c.args.highs.now c.args.question.total c.args.question.limits
  in-starts = if_planned _ _ _ found c.narrow_on-planned.ensures.starts_after

  in-stops : c.narrow_on-planned.new.stops ≡ narrowed_highs c.args.lows.now c.args.highs.now c.args.question.total c.args.question.limits
  in-stops = if_planned _ _ _ found c.narrow_on-planned.ensures.stops_after

pub copy-requires : goal.copy-requires
copy-requires c =
    sym (ap length (in-starts (goal.at.copy-requires c).Else-not-planned) ∙ narrowed_lows_length _ _ _ _)

pub copy-requires-2 : goal.copy-requires-2
copy-requires-2 c =
    c.requires.has_shares.sound.paired ∙ sym (ap length (in-stops (goal.at.copy-requires-2 c).Else-not-planned) ∙ narrowed_highs_length _ _ _ _)

pub returns : goal.returns
returns c =
    let m = (goal.at.returns c).Else-not-planned in
    record {
      answer = sym (found m) ∙ c.narrow_on-planned.ensures.value;
      lows_are = c.copy.ensures ∙ in-starts m;
      highs_are = c.copy-2.ensures ∙ in-stops m;
    }
