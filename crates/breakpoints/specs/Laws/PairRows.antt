-- The rows of a table where pairs are limited: the distances at any level come of the row below it. Assumes nothing.
use Rattle.std.specs.Prelude.{ℕ, suc, ◌+◌, ◌-◌, ◌*◌, ◌≤◌, ◌<◌, max, List, [], ◌∷◌, ◌≡◌, length}
use Rattle.std.proofs.Common.{sym, ap, ◌∙◌, mul-le-mul, arith}
use Rattle.std.proofs.Math.Decide.{ℕ_discrete}
use Rattle.model.specs.Inner.Orders.{Rearranged}
use Rattle.model.specs.Shares.{Ranges, greatest_share, greatest_total, most_units, sum, sum_of}
use Rattle.model.specs.Figures.{apart, pairs}
use Rattle.model.specs.Levels.{clamp, clamped}
use Rattle.model.proofs.Laws.Lists.{sum_sum_of}
use Rattle.model.proofs.Laws.Pairs.{pairs_small}
use Rattle.breakpoints.specs.declared.distances.Distances.{Distances}
use Rattle.breakpoints.specs.declared.rows.PairRow.{PairRow}
use Rattle.breakpoints.specs.declared.rows.Row.{Row}
use Rattle.breakpoints.specs.Inner.Distances.{most_pairs, PairSums, LowsPassed, Paired, DistancesAt, DistancesMoved, DistancesMovable, MarkedBelow}
use Rattle.breakpoints.specs.Inner.Rows.{row_at, last_row}
use Rattle.breakpoints.specs.Inner.Spans.{Parted}
use Rattle.breakpoints.specs.Inner.Tables.{Sums, SpanTo, Breakpoints, itself}
use Rattle.breakpoints.specs.Laws.Distances.{far_from, span_within, passed_within, far_risen, pairs_risen}
use Rattle.breakpoints.specs.Laws.Spans.{rearranged_sum}
use Rattle.breakpoints.specs.Laws.Tables.{rise, rises_more, total_risen}

-- what lies past x, from what is moved up to x
past_sum : (x : ℕ) (ls : List ℕ) → sum_of (λ l. max l x) ls ≡ sum_of (λ l. l - x) ls + length ls * x
unfolding sum_of
past_sum x [] = omega arith
past_sum x (l ∷ ls) = omega (arith, past_sum x ls)

-- lows of which a are passed, and no further one before w
pub lows_passed : {starts lows : List ℕ} {m w a : ℕ} → Rearranged starts lows → length starts ≡ length lows → m ≤ w → Parted m w a starts → LowsPassed lows m w a
lows_passed {lows = lows} {m = m} {a = a} same sizes rises parted = record {
  few = omega (arith, parted.few);
  sums = λ x from up_to.
      let at : x ≡ m + (x - m) = omega arith in
      omega (
        arith,
        rearranged_sum same parted rises itself x from up_to,
        past_sum x lows,
        past_sum m lows,
        ap (λ (t : ℕ). a * t) at,
        ap (λ (t : ℕ). length lows * t) at,
      );
}

-- no share is far from any other
share_near : (l h m x : ℕ) → l ≤ h → h ≤ greatest_share → x ≤ greatest_share → (apart x (clamp l h m) ≤ greatest_share) × (clamp l h m ≤ greatest_share)
share_near l h m x p q share = (omega arith, omega arith)

pub far_small : {lows highs : List ℕ} → Ranges lows highs → (m x : ℕ) → x ≤ greatest_share
    → (sum_of (apart x) (clamped lows highs m) ≤ length lows * greatest_share) × (sum_of itself (clamped lows highs m) ≤ length lows * greatest_share)
unfolding sum_of clamped
far_small Ranges.none m x share = (omega arith, omega arith)
far_small (Ranges.also {l} {h} p q r) m x share =
    let near = share_near l h m x p q share in
    let rest = far_small r m x share in
    (omega (arith, near.0, rest.0), omega (arith, near.1, rest.1))

pub clamped_many : {lows highs : List ℕ} → Ranges lows highs → (m : ℕ) → length (clamped lows highs m) ≡ length lows
unfolding clamped
clamped_many Ranges.none m = omega arith
clamped_many (Ranges.also p q r) m = ap suc (clamped_many r m)

-- nor are the pair differences great
pub differences_small : {lows highs : List ℕ} → Ranges lows highs → (m : ℕ) → m ≤ greatest_share → length lows ≤ most_units
    → pairs (clamped lows highs m) ≤ most_pairs
differences_small {lows} {highs} ranges m share few =
    let all : sum (clamped lows highs m) ≤ greatest_total = omega (arith, sum_sum_of (clamped lows highs m), (far_small ranges m m share).1) in
    let many : length (clamped lows highs m) ≤ most_units = omega (arith, clamped_many ranges m) in
    omega (arith, pairs_small (clamped lows highs m), mul-le-mul many all)

module _ {lows highs : List ℕ} {row : Row} {here : PairRow} {level : ℕ} (ranges : Ranges lows highs) (sums : Sums lows highs row)
    (held : PairSums lows highs row.mark here) (span : SpanTo lows highs row level) (passed : LowsPassed lows row.mark level row.lows) where
  -- the distances moved to a further level are those there
  pub distances_moved : {at : Distances} → DistancesMoved (length lows) row here level at → DistancesAt lows highs level at
  distances_moved moved = record {
    is = moved.is;
    totals = moved.totals ∙ ap (λ (t : ℕ). t + rise span) sums.totals ∙ total_risen span;
    fars = omega (arith, moved.fars, held.far, far_risen ranges span passed);
    differ = omega (arith, moved.differ, held.pairs, pairs_risen ranges span passed);
  }

  -- and can be computed
  pub distances_movable : length lows ≤ most_units → level ≤ greatest_share → DistancesMovable (length lows) row here level
  distances_movable few share = record {
    few = few;
    few_lows = sums.few_lows;
    few_highs = sums.few_highs;
    up = span.rises;
    share = share;
    total_small = omega (arith, sums.totals, (far_small ranges row.mark row.mark sums.share).1);
    far_small = omega (arith, held.far, (far_small ranges row.mark row.mark sums.share).0);
    pairs_small = omega (arith, held.pairs, differences_small ranges row.mark sums.share few);
    rises = rises_more span;
    far_fits = omega (arith, held.far, far_risen ranges span passed);
    pairs_fit = omega (arith, held.pairs, pairs_risen ranges span passed);
  }

-- between a row's level and any level up to the next row's
module _ {lows highs table : List ℕ} (held : Breakpoints lows highs table) (paired : Paired lows highs table)
    {x k : ℕ} (share : x ≤ greatest_share) (found : MarkedBelow table (last_row table) x k) where
  pub value_span : SpanTo lows highs (row_at table k) x × LowsPassed lows (row_at table k).mark x (row_at table k).lows
  value_span =
      elim (ℕ_discrete k (last_row table)) [
        | yes e ↦
            let from : (row_at table (last_row table)).mark ≤ x = rw e at found.from in
            rw e (span_within held.last x from (omega arith), passed_within paired.last x from (omega arith))
        | no e ↦
            let follows : k < last_row table = omega (arith, found.up_to) in
            (span_within (held.spans k follows) x found.from (found.next follows), passed_within (paired.passed k follows) x found.from (found.next follows))
      ]

-- distances at a level are small
pub distances_small : {lows highs : List ℕ} {level : ℕ} {at : Distances} → Ranges lows highs → length lows ≤ most_units → level ≤ greatest_share
    → DistancesAt lows highs level at → (at.total ≤ greatest_total) × (at.far ≤ greatest_total) × (at.pairs ≤ most_pairs)
distances_small {level = level} ranges few share at =
    let near = far_small ranges level level share in
    (omega (arith, at.totals, near.1), omega (arith, at.fars, near.0), omega (arith, at.differ, differences_small ranges level share few))

-- the distances from a value to the shares at a level, from those at both levels
pub far_told : {lows highs : List ℕ} {w x : ℕ} {here there : Distances} → Ranges lows highs → DistancesAt lows highs w here → DistancesAt lows highs x there
    → {gap : ℕ} → gap ≡ apart there.total here.total → there.far + gap ≡ sum_of (apart x) (clamped lows highs w)
far_told {w = w} {x = x} ranges here there is =
    rw (is, there.fars, there.totals, here.totals) (sym (far_from ranges w x))
