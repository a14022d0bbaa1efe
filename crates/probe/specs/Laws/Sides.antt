-- On one side of the mean, the shares at a level are bounds: half of the deviation is what the bounds add up to there. Assumes nothing.
use Rattle.std.specs.Prelude.{ℕ, suc, ◌+◌, ◌*◌, ◌≤◌, ◌<◌, List, ◌≡◌, length}
use Rattle.std.proofs.Math.Path.{refl}
use Rattle.std.proofs.Common.{sym, ap, ◌∙◌, mul-le-mul, mul-le-mul_left, arith}
use Rattle.std.proofs.Math.Decide.{dec_le}
use Rattle.model.specs.Shares.{Ranges, greatest_share, sum, sum_of, most_units}
use Rattle.model.specs.Figures.{deviation}
use Rattle.model.specs.Levels.{clamp, clamped}
use Rattle.model.specs.Ways.{topped}
use Rattle.model.proofs.Laws.Deviation.{deviation_twice, deviation_twice_below}
use Rattle.model.proofs.Laws.Levelled.{topped_within}
use Rattle.model.proofs.Laws.Lists.{ranges_at, within_length}
use Rattle.model.proofs.Laws.Spread.{sum_of_bound}
use Rattle.probe.specs.declared.pinned.Reach.{Reach}
use Rattle.probe.specs.declared.pinned.Trial.{Trial}
use Rattle.probe.specs.declared.terms.Terms.{Terms}
use Rattle.breakpoints.specs.Inner.Tables.{SoundWithTotal, greatest_part}
use Rattle.probe.specs.Inner.Pinned.{Pin, Reached}
use Rattle.probe.specs.Inner.Sides.{above_mean, below_mean, Halved, Halving}
use Rattle.probe.specs.Inner.Terms.{GroupTerms}
use Rattle.probe.specs.Laws.Pinned.{reached_sum, reached_adds}

module _ (n total : ℕ) where
  -- a share at a level that is at the mean or above lies as far below the mean as its high
  high_part : (l h w : ℕ) → l ≤ h → total ≤ n * w → below_mean n total (clamp l h w) ≡ below_mean n total h
  high_part l h w p past =
      elim (dec_le h w) [
        | yes a ↦ let e : clamp l h w ≡ h = omega arith in ap (below_mean n total) e
        | no a ↦
            let up : w ≤ clamp l h w = omega arith in
            let higher : w ≤ h = omega arith in
            omega (arith, mul-le-mul_left n up, mul-le-mul_left n higher)
      ]

  pub highs_sum : {lows highs : List ℕ} → Ranges lows highs → (w : ℕ) → total ≤ n * w
      → sum_of (below_mean n total) (clamped lows highs w) ≡ sum_of (below_mean n total) highs
  unfolding sum_of clamped
  highs_sum Ranges.none w past = refl
  highs_sum (Ranges.also {l} {h} p q r) w past = omega (arith, high_part l h w p past, highs_sum r w past)

  -- and at one that is at the mean or below, as far above it as its low
  low_part : (l h w : ℕ) → l ≤ h → n * w ≤ total → above_mean n total (clamp l h w) ≡ above_mean n total l
  low_part l h w p under =
      elim (dec_le w l) [
        | yes a ↦ let e : clamp l h w ≡ l = omega arith in ap (above_mean n total) e
        | no a ↦
            let down : clamp l h w ≤ w = omega arith in
            let lower : l ≤ w = omega arith in
            omega (arith, mul-le-mul_left n down, mul-le-mul_left n lower)
      ]

  pub lows_sum : {lows highs : List ℕ} → Ranges lows highs → (w : ℕ) → n * w ≤ total
      → sum_of (above_mean n total) (clamped lows highs w) ≡ sum_of (above_mean n total) lows
  unfolding sum_of clamped
  lows_sum Ranges.none w under = refl
  lows_sum (Ranges.also {l} {h} p q r) w under = omega (arith, low_part l h w p under, lows_sum r w under)

  -- both parts are small
  pub above_small : n ≤ most_units → (x : ℕ) → x ≤ suc greatest_share → above_mean n total x ≤ greatest_part
  above_small few x share = omega (arith, mul-le-mul few share)

  pub below_small : total ≤ greatest_part → (x : ℕ) → below_mean n total x ≤ greatest_part
  below_small small x = omega arith

  -- and so is what all bounds have on either side
  pub bounds_small : {lows highs : List ℕ} → SoundWithTotal lows highs total → n ≤ most_units
      → (sum_of (above_mean n total) lows ≤ most_units * greatest_part) × (sum_of (below_mean n total) highs ≤ most_units * greatest_part)
  bounds_small {lows} {highs} sound few =
      let above : sum_of (above_mean n total) lows ≤ length lows * greatest_part =
      sum_of_bound _ _ lows (λ i here. above_small few _ (omega (arith, ranges_at sound.ranges i here))) in
      let below : sum_of (below_mean n total) highs ≤ length highs * greatest_part = sum_of_bound _ _ highs (λ i here. below_small (omega (arith, sound.small)) _) in
      (omega (arith, above, sound.few), omega (arith, below, sound.few, sound.paired))

-- what is told of one side, and what the shares add up to there, in plain numbers
half : {r own own' sides sides' : ℕ} (parts value more : ℕ) → r + own ≡ sides + (value + more)
    → parts + own' ≡ sides' + (value + more) → own' ≡ own → sides ≡ sides' → r ≡ parts
half parts value more told adds same held = omega arith

fits : {own own' sides sides' : ℕ} (parts value : ℕ) → parts + own' ≡ sides' + value → own' ≡ own → sides ≡ sides' → own ≤ sides + value
fits parts value adds same held = omega arith

module _ {lows highs table lows' highs' : List ℕ} {mark : ℕ} {terms : Terms} (sound : SoundWithTotal lows highs terms.total) (held : GroupTerms lows highs table terms)
    (trial : Trial) (pin : Pin lows highs trial.low trial.high trial.value lows' highs')
    (reach : Reach) (reached : Reached lows' highs' terms.total mark reach.growing reach.level reach.over) where
  abbrev n : ℕ
  n = terms.count

  abbrev total : ℕ
  total = terms.total

  abbrev w : ℕ
  w = reach.level

  abbrev shares : List ℕ
  shares = topped lows' highs' w reach.over

  -- a sum to which the level adds nothing: the pinned member's part and the copies left over aside, it is that of the group at the level
  at_level : (f : ℕ → ℕ) → f w ≡ 0
      → sum_of f shares + f (clamp trial.low trial.high w) ≡ sum_of f (clamped lows highs w) + (f trial.value + reach.over * f (suc w))
  at_level f none = omega (arith, reached_sum pin.ranges reached f, reached.sums f, pin.sums f w, ap (λ (t : ℕ). reach.over * t) none)

  many : length shares ≡ n
  many = sym (within_length (topped_within pin.ranges w reach.over)).0 ∙ pin.count ∙ sym held.counted

  few : n ≤ most_units
  few = omega (arith, held.counted, sound.few)

  adds : sum shares ≡ total
  adds = reached_adds pin.ranges reached

  twice_below : deviation n total shares ≡ 2 * sum_of (below_mean n total) shares
  twice_below = rw (many, adds) at (deviation_twice_below shares)

  twice_above : deviation n total shares ≡ 2 * sum_of (above_mean n total) shares
  twice_above = rw (many, adds) at (deviation_twice shares)

  -- where the level is at the mean or above, no copy left over lies below the mean
  none_below : total ≤ n * w → (below_mean n total w ≡ 0) × (reach.over * below_mean n total (suc w) ≡ 0)
  none_below past =
      let zero : below_mean n total (suc w) ≡ 0 = omega arith in
      (omega arith, ap (λ (t : ℕ). reach.over * t) zero ∙ omega arith)

  pub halved : {r : ℕ} → Halved terms trial reach r → 2 * r ≡ deviation n total shares
  halved {r} told =
      elim (dec_le total (n * w)) [
        | yes past ↦
            let none = none_below past in
            let half_told : r + below_mean n total trial.high ≡ terms.below + (below_mean n total trial.value + reach.over * below_mean n total (suc w)) =
            told.high past ∙ ap (λ (t : ℕ). terms.below + t) (omega (arith, none.1)) in
            ap (λ (t : ℕ). 2 * t) (half _ _ _ half_told (at_level (below_mean n total) none.0)
            (high_part n total trial.low trial.high w pin.ordered past) (held.highs_below ∙ sym (highs_sum n total sound.ranges w past))) ∙ sym twice_below
        | no under ↦
            let less : n * w < total = omega arith in
            let none : above_mean n total w ≡ 0 = omega arith in
            ap (λ (t : ℕ). 2 * t) (half _ _ _ (told.low less) (at_level (above_mean n total) none)
            (low_part n total trial.low trial.high w pin.ordered (omega arith)) (held.lows_above ∙ sym (lows_sum n total sound.ranges w (omega arith)))) ∙ sym twice_above
      ]

  -- the sums are small, and the member's own part is in them
  pub halving : reach.over ≤ most_units → Halving terms trial reach
  halving few_over = record {
    above_small = omega (arith, held.lows_above, (bounds_small n total sound few).0);
    below_small = omega (arith, held.highs_below, (bounds_small n total sound few).1);
    low_share = omega (arith, pin.ordered, pin.highest);
    high_share = pin.highest;
    value_share = pin.value;
    level_share = reached.share;
    over_few = few_over;
    high_fits = λ past. fits _ _ (pin.sums (below_mean n total) w)
        (high_part n total trial.low trial.high w pin.ordered past) (held.highs_below ∙ sym (highs_sum n total sound.ranges w past));
    low_fits = λ less. fits _ _ (pin.sums (above_mean n total) w)
        (low_part n total trial.low trial.high w pin.ordered (omega arith)) (held.lows_above ∙ sym (lows_sum n total sound.ranges w (omega arith)));
  }
