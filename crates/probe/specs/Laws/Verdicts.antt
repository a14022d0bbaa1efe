-- What a probe answers is whether the pinned group has a plan. Assumes nothing.
use Rattle.std.specs.Prelude.{ℕ, ◌-◌, ◌*◌, ◌≤◌, ◌<◌, Bool, true, false, ◌&&◌, List, ◌≡◌, refl, leb, length}
use Rattle.std.proofs.Common.{sym, ap, ◌∙◌, mul-le-mul}
use Rattle.std.proofs.Math.Decide.{dec_le}
use native.Mathlib.Omega.{arith, by_contra}
use borrow.Author.Tests.{le-leb, lt-leb, le-ltb}
use Rattle.model.specs.Shares.{Ranges, Within, greatest_share, greatest_total, sum, sum_of, most_units}
use Rattle.model.specs.Figures.{met, allows, figures_of, deviation, spread, pairs}
use Rattle.model.specs.Levels.{total_at, growth}
use Rattle.model.specs.Ways.{topped, evened}
use Rattle.model.specs.Plans.{has_plan}
use Rattle.model.specs.declared.Figures.{Figures}
use Rattle.model.specs.declared.Limits.{Limits}
use Rattle.model.proofs.Laws.Level.{total_at_least, total_at_greatest}
use Rattle.model.proofs.Laws.Levelled.{topped_within}
use Rattle.model.proofs.Laws.Lists.{within_at, within_length, ranges_at}
use Rattle.model.proofs.Laws.Pairs.{pairs_small}
use Rattle.model.proofs.Laws.Spread.{cauchy_schwarz, sum_of_bound}
use Rattle.model.proofs.Laws.Tests.{right_fails}
use Rattle.probe.specs.declared.pairs.LevelSpot.{LevelSpot}
use Rattle.probe.specs.declared.probing.Pinned.{Pinned}
use Rattle.breakpoints.specs.declared.rows.Row.{Row}
use Rattle.probe.specs.declared.terms.Terms.{Terms}
use Rattle.breakpoints.specs.Inner.Distances.{most_pairs}
use Rattle.probe.specs.Inner.Lookups.{PairLookable}
use Rattle.probe.specs.Inner.Pairs.{SpotBelow, Spotted}
use Rattle.breakpoints.specs.Inner.Rows.{row_at, last_row}
use Rattle.breakpoints.specs.Inner.Tables.{SoundWithTotal, Breakpoints, greatest_part, itself, square}
use Rattle.breakpoints.specs.Laws.Tables.{Small, small_square, total_itself}
use Rattle.probe.specs.Inner.Pinned.{Pin, Reached}
use Rattle.probe.specs.Laws.Pinned.{pinned_span, reached_adds, reached_figures}
use Rattle.probe.specs.Inner.Probes.{pinned_total, LastWithin}
use Rattle.probe.specs.Laws.Probes.{pinned_total_lem}
use Rattle.probe.specs.Inner.Terms.{LimitTerms, Termed}
use Rattle.probe.specs.Inner.Verdicts.{Lookable, Figured, PinnedFigures, within_terms, Decides, DecidesFor, Judged}
use Rattle.probe.specs.Laws.Terms.{reach_last}

-- three tests in turn
and_assoc : (a b c : Bool) → (a && b) && c ≡ a && (b && c)
and_assoc true b c = refl
and_assoc false b c = refl

-- a sum of parts over shares in the ranges is at most n times the greatest
topped_small : {lows highs : List ℕ} → Ranges lows highs → {f : ℕ → ℕ} → Small f → (w r : ℕ)
    → sum_of f (topped lows highs w r) ≤ length lows * greatest_part
topped_small {lows} {highs} ranges {f} small w r =
    let inside : Within lows highs (topped lows highs w r) = topped_within ranges w r in
    let many = within_length inside in
    rw many.0 (sum_of_bound f greatest_part (topped lows highs w r) (λ i h.
    small _ (omega (arith, within_at inside i h, ranges_at ranges i (omega arith)))))

-- a member does not grow at its high or above, nor one with a single value at any level
grown : {low high m : ℕ} → low ≤ high → (low < high → high ≤ m) → growth low high m ≡ 0
grown {low} {high} {m} ordered past =
    elim (dec_le low m) [
      | yes from ↦
          let ends : high ≤ m = elim (dec_le high low) [ yes single ↦ omega arith | no wide ↦ past (omega arith) ] in
          rw (le-leb low m from, le-ltb m high ends)
      | no before ↦ rw (lt-leb low m (omega arith))
    ]

module _ {lows highs lows' highs' : List ℕ} {total low high v : ℕ} (sound : SoundWithTotal lows highs total) (pin : Pin lows highs low high v lows' highs') where
  module _ {m c w r : ℕ} (reached : Reached lows' highs' total m c w r) where
    -- the pair differences there are small
    pub reached_pairs_small : pairs (topped lows' highs' w r) ≤ most_pairs
    reached_pairs_small =
        let many : length (topped lows' highs' w r) ≤ most_units = omega (arith, within_length (topped_within pin.ranges w r), pin.count, sound.few) in
        let adds : sum (topped lows' highs' w r) ≤ greatest_total = omega (arith, reached_adds pin.ranges reached, sound.small) in
        omega (arith, pairs_small (topped lows' highs' w r), mul-le-mul many adds)

  module _ {m c w r : ℕ} (reached : Reached lows' highs' total m c w r) {d q : ℕ}
      (is_deviation : d ≡ deviation (length lows) total (topped lows' highs' w r))
      (is_squares : q ≡ sum_of square (topped lows' highs' w r)) where
    -- the figures at the level reached are those of the pinned group's levelled shares
    pub pinned_figures : record {
      deviation = record { 0 = d };
      spread = record { 0 = length lows * q - total * total };
      pairs = record { 0 = pairs (topped lows' highs' w r) };
    } ≡ figures_of (length lows') total (evened lows' highs' total)
    unfolding spread
    pinned_figures = rw (reached_figures pin.ranges reached (length lows'), pin.count, is_deviation, is_squares)

    -- the spread does not go below zero, and the sum of squares is small
    pub squares_enough : total * total ≤ length lows * q
    squares_enough =
        rw (is_squares, ← pin.count, (within_length (topped_within pin.ranges w r)).0, ← reached_adds pin.ranges reached)
        (cauchy_schwarz (topped lows' highs' w r))

    pub squares_small : q ≤ most_units * greatest_part
    squares_small = omega (arith, topped_small pin.ranges small_square w r, pin.count, sound.few)

  module _ {table : List ℕ} (held : Breakpoints lows highs table) where
    -- the pinned lows and highs add up to T at the first and at the last row
    pub least_total : sum lows' ≡ pinned_total (row_at table 0) low high v
    least_total =
        sym (pinned_total_lem sound held pin 0 (omega arith) ∙ ap (total_at lows' highs') held.first ∙ total_at_least pin.ranges)

    pub greatest_total_lem : sum highs' ≡ pinned_total (row_at table (last_row table)) low high v
    greatest_total_lem =
        let end : Row = row_at table (last_row table) in
        let share : end.mark ≤ greatest_share = (held.sums (last_row table) (omega arith)).share in
        let none : growth low high end.mark ≡ 0 =
        grown pin.ordered (λ wide. by_contra _ _ (λ past. omega (arith, (pin.clear held.last wide).1 past, pin.highest))) in
        let same = rw (held.all, none) at (pinned_span pin held.last itself greatest_share share (omega arith)) in
        omega (
          arith,
          pinned_total_lem sound held pin (last_row table) (omega arith),
          total_at_greatest pin.ranges,
          total_itself lows' highs' greatest_share,
          total_itself lows' highs' end.mark,
        )

    -- where they do not allow the total, there is no plan
    pub too_much : (limits : Limits) → total < pinned_total (row_at table 0) low high v → has_plan lows' highs' total limits ≡ false
    unfolding has_plan
    too_much limits more = rw (lt-leb (sum lows') total (rw least_total more))

    pub too_little : (limits : Limits) → pinned_total (row_at table (last_row table)) low high v < total → has_plan lows' highs' total limits ≡ false
    unfolding has_plan
    too_little limits less = rw (right_fails (leb (sum lows') total) (lt-leb total (sum highs') (rw greatest_total_lem less)))

    -- where they do, the figures of the levelled shares decide
    pub decided : (limits : Limits) → pinned_total (row_at table 0) low high v ≤ total
        → total ≤ pinned_total (row_at table (last_row table)) low high v
        → {figures : Figures} → figures ≡ figures_of (length lows') total (evened lows' highs' total)
        → met limits figures ≡ has_plan lows' highs' total limits
    unfolding has_plan
    decided limits least greatest are =
        rw (are, le-leb (sum lows') total (rw least_total least), le-leb total (sum highs') (rw greatest_total_lem greatest))

-- so a look and the pair differences there decide: what is within the terms of limits is within the limits
pub decides : {lows highs table lows' highs' : List ℕ} {terms : Terms} {low high v : ℕ} {pinned : Pinned} {limits : Limits} {met : Bool}
    → Lookable lows highs table terms low high v → LimitTerms limits terms → Pin lows highs low high v lows' highs' → Figured lows' highs' terms pinned
    → met ≡ allows limits.pairs (pairs (topped lows' highs' pinned.level pinned.over))
    → within_terms terms pinned && met ≡ has_plan lows' highs' terms.total limits
decides {lows} {terms = terms} {pinned = pinned} {limits = limits} asked allowed pin figured is_met =
    let counted = asked.summed.counted in
    let twice = rw counted at figured.halves in
    let enough = squares_enough asked.sound pin figured.reached twice figured.squares in
    let small = squares_small asked.sound pin figured.reached twice figured.squares in
    let squares_within = rw counted at (allowed.squares.is pinned.squares small (rw counted enough)) in
    let reach = reach_last asked in
    rw (and_assoc, allowed.halves.is pinned.half figured.small, squares_within, is_met)
    (decided asked.sound pin asked.held limits reach.least reach.greatest
    (pinned_figures asked.sound pin figured.reached twice figured.squares))

-- pair differences that are not asked for are within every limit, and those asked for are where they are within the terms
module _ {lows highs table lows' highs' : List ℕ} {terms : Terms} {low high v m c w r : ℕ} {limits : Limits} (asked : Lookable lows highs table terms low high v)
    (allowed : LimitTerms limits terms) (pin : Pin lows highs low high v lows' highs') (reached : Reached lows' highs' terms.total m c w r) where
  pub pairs_unasked : most_pairs ≤ terms.pairs → true ≡ allows limits.pairs (pairs (topped lows' highs' w r))
  pairs_unasked past =
      let small = reached_pairs_small asked.sound pin reached in
      sym (le-leb (pairs (topped lows' highs' w r)) terms.pairs (omega arith)) ∙ allowed.pairs.is _ small

  pub pairs_asked : {met : Bool} → met ≡ leb (pairs (topped lows' highs' w r)) terms.pairs → met ≡ allows limits.pairs (pairs (topped lows' highs' w r))
  pairs_asked is_met = is_met ∙ allowed.pairs.is _ (reached_pairs_small asked.sound pin reached)

-- where pairs are asked for, they can be looked up
pub pair_lookable : {lows highs table : List ℕ} {terms : Terms} {low high v : ℕ} → Lookable lows highs table terms low high v → terms.pairs < most_pairs
    → PairLookable lows highs table terms
pair_lookable asked limited = record {
  sound = asked.sound;
  held = asked.held;
  paired = asked.paired limited;
  counted = asked.summed.counted;
  ended = asked.summed.ended;
}

-- at the level that a look finds
pub spotted : {lows highs table : List ℕ} {terms : Terms} {low high v : ℕ} {pinned : Pinned} {spot : LevelSpot} → Lookable lows highs table terms low high v
    → PinnedFigures lows highs terms low high v pinned → SpotBelow table terms.last spot.row spot.level spot.over → spot.level ≡ pinned.level → spot.over ≡ pinned.over
    → Spotted lows highs table terms low high v spot
spotted asked figures under same_level same_over = record {
  asked = asked.asked;
  under = under;
  reached = λ pin. let figured = figures.is pin in record { mark = figured.mark; moving = figured.moving; reached = rw (same_level, same_over) figured.reached };
}

-- what the tests of the two figures and of pairs say of a plan
pub refused_so : {answer within plan : Bool} (third : Bool) → answer ≡ within → answer ≡ false → within && third ≡ plan → false ≡ plan
refused_so third same fails told = ap (λ (b : Bool). b && third) (sym fails ∙ same) ∙ told

pub met_so : {answer within plan : Bool} (third : Bool) → answer ≡ within → answer ≡ true → within && third ≡ plan → third ≡ plan
met_so third same holds told = ap (λ (b : Bool). b && third) (sym holds ∙ same) ∙ told

-- the same of the total by another name
pub decided_as : (lows highs : List ℕ) {total total' : ℕ} (limits : Limits) {taken : Bool} → total ≡ total' → taken ≡ has_plan lows highs total limits → taken ≡ has_plan lows highs total' limits
decided_as lows highs limits same told = rw same at told

-- where pairs are not limited, what the other limits say decides
pub judged_so : {lows highs : List ℕ} {total : ℕ} {limits : Limits} {terms : Terms} {low high v : ℕ} (taken : Bool) → Judged lows highs total limits terms low high v taken
    → most_pairs ≤ terms.pairs → Decides lows highs total limits low high v taken
judged_so true judged past = judged.allowed refl past
judged_so false judged past = judged.refused refl

-- where they are, what all limits say
pub paired_so : {lows highs table : List ℕ} {total : ℕ} {limits : Limits} {terms : Terms} {low high v : ℕ} {taken : Bool} → Termed lows highs table total limits terms
    → DecidesFor lows highs terms low high v taken → Decides lows highs total limits low high v taken
paired_so {limits = limits} termed decided_for =
    record { is = λ {lows'} {highs'} pin. decided_as lows' highs' limits termed.totals ((decided_for.for termed.allowed).is pin) }

pub found_so : {lows highs table : List ℕ} {total : ℕ} {limits : Limits} {terms : Terms} {low high v k : ℕ} → Termed lows highs table total limits terms
    → LastWithin table terms.last low high v terms.total k → LastWithin table terms.last low high v total k
found_so termed found = rw termed.totals at found
