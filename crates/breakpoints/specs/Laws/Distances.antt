-- The distances of values from the shares at a level, and the pair differences there, from level to level. Assumes nothing.
use Rattle.std.specs.Prelude.{ℕ, ◌+◌, ◌-◌, ◌*◌, ◌≤◌, ◌<◌, List, ◌≡◌, length}
use Rattle.std.proofs.Common.{ap}
use Rattle.std.proofs.Math.Decide.{dec_le, dec_lt}
use Rattle.std.proofs.Math.Nat.{le_of_mul-le-mul_left}
use native.Mathlib.Omega.{arith}
use Rattle.model.specs.Shares.{Ranges, sum_of}
use Rattle.model.specs.Figures.{apart, pairs}
use Rattle.model.specs.Levels.{clamp, clamped}
use Rattle.model.proofs.Laws.Level.{total_at_mono}
use Rattle.breakpoints.specs.Inner.Distances.{LowsPassed}
use Rattle.breakpoints.specs.Inner.Spans.{Span}
use Rattle.breakpoints.specs.Inner.Tables.{itself}
use Rattle.breakpoints.specs.Laws.Moved.{pairs_moved}
use Rattle.breakpoints.specs.Laws.Tables.{rise, rises_more, total_itself}

-- a share at level w, from a value at or above w: what lies past the value are lows
up_part : (l h w x : ℕ) → l ≤ h → w ≤ x → apart x (clamp l h w) + clamp l h w ≡ x + 2 * (l - x)
up_part l h w x p high = omega arith

-- and from one at or below w: what lies before the value are highs
down_part : (l h w x : ℕ) → l ≤ h → x ≤ w → apart x (clamp l h w) + x ≡ clamp l h w + 2 * (x - h)
down_part l h w x p low = omega arith

-- the shares at w, from values at or above w, and from those at or below it
pub far_up : {lows highs : List ℕ} → Ranges lows highs → (w x : ℕ) → w ≤ x
    → sum_of (apart x) (clamped lows highs w) + sum_of itself (clamped lows highs w) ≡ length lows * x + 2 * sum_of (λ l. l - x) lows
unfolding sum_of clamped
far_up Ranges.none w x high = omega arith
far_up (Ranges.also {l} {h} p q r) w x high = omega (arith, up_part l h w x p high, far_up r w x high)

far_down : {lows highs : List ℕ} → Ranges lows highs → (w x : ℕ) → x ≤ w
    → sum_of (apart x) (clamped lows highs w) + length lows * x ≡ sum_of itself (clamped lows highs w) + 2 * sum_of (λ h. x - h) highs
unfolding sum_of clamped
far_down Ranges.none w x low = omega arith
far_down (Ranges.also {l} {h} p q r) w x low = omega (arith, down_part l h w x p low, far_down r w x low)

-- from a value, the shares at w are as far as those at the value's own level, and what T moves from there
pub far_from : {lows highs : List ℕ} → Ranges lows highs → (w x : ℕ)
    → sum_of (apart x) (clamped lows highs w)
    ≡ sum_of (apart x) (clamped lows highs x) + apart (sum_of itself (clamped lows highs x)) (sum_of itself (clamped lows highs w))
far_from {lows} {highs} ranges w x =
    elim (dec_le w x) [
      | yes high ↦ omega (arith, far_up ranges w x high, far_up ranges x x (omega arith), total_at_mono lows highs w x high, total_itself lows highs w, total_itself lows highs x)
      | no low ↦ omega (arith, far_down ranges w x (omega arith), far_down ranges x x (omega arith), total_at_mono lows highs x w (omega arith), total_itself lows highs w, total_itself lows highs x)
    ]

-- the same between nearer marks
pub span_within : {lows highs : List ℕ} {m w a b : ℕ} → Span lows highs m w a b → (x : ℕ) → m ≤ x → x ≤ w → Span lows highs m x a b
span_within span x low high = record {
  rises = low;
  sums = λ f v from up_to. span.sums f v from (omega arith);
  clear = λ i below wide.
      let (before, after) = span.clear i below wide in
      (λ past. omega (arith, before past), λ past. omega (arith, after past));
}

pub passed_within : {lows : List ℕ} {m w a : ℕ} → LowsPassed lows m w a → (x : ℕ) → m ≤ x → x ≤ w → LowsPassed lows m x a
passed_within passed x low high = record { few = passed.few; sums = λ v from up_to. passed.sums v from (omega arith) }

-- moved pair differences in plain numbers
pairs_by_lem : (n a b c d e before after far_mark far_level : ℕ) → c + b ≡ a → e ≡ c * d → after + (c * far_mark + c * (c * d)) ≡ before + c * far_level
    → far_level + n * d ≡ far_mark + 2 * (a * d) → after + e * n ≡ before + e * (a + b)
pairs_by_lem n a b c d e before after far_mark far_level parts rises moved far =
    rw (rises, ← parts) (omega (arith, moved, ap (λ (t : ℕ). c * t) (rw (← parts) at far)))

module _ {lows highs : List ℕ} {m w a b : ℕ} (ranges : Ranges lows highs) (span : Span lows highs m w a b) (passed : LowsPassed lows m w a) where
  abbrev n : ℕ
  n = length lows

  abbrev d : ℕ
  d = w - m

  step : w ≡ m + d
  step = omega (arith, span.rises)

  -- from w the shares at m are further by those passed, and nearer by the others
  far_on : sum_of (apart w) (clamped lows highs m) + n * d ≡ sum_of (apart m) (clamped lows highs m) + 2 * (a * d)
  far_on = omega (
    arith,
    far_up ranges m w span.rises,
    far_up ranges m m (omega arith),
    passed.sums w span.rises (omega arith),
    ap (λ (t : ℕ). n * t) step,
  )

  -- the distances from the level at w, by those at m
  pub far_risen : sum_of (apart w) (clamped lows highs w) + n * d ≡ sum_of (apart m) (clamped lows highs m) + (a + b) * d
  far_risen =
      let here : apart w w ≡ 0 = omega arith in
      let there : apart w m ≡ d = omega (arith, span.rises) in
      omega (arith, far_on, rw (here, there) at (span.sums (apart w) w span.rises (omega arith)))

  -- more move up than down, unless there is no step
  more_up : 0 < d → b ≤ a
  more_up some = le_of_mul-le-mul_left {k = d} (omega (arith, rises_more span)) some

  -- the pair differences at w, by those at m
  pub pairs_risen : pairs (clamped lows highs w) + rise span * n ≡ pairs (clamped lows highs m) + rise span * (a + b)
  pairs_risen =
      elim (dec_lt 0 d) [
        | yes some ↦
            let c : ℕ = a - b in
            let parts : c + b ≡ a = omega (arith, more_up some) in
            let moves : (f : ℕ → ℕ) → sum_of f (clamped lows highs w) + c * f m ≡ sum_of f (clamped lows highs m) + c * f w =
            (λ f. omega (arith, rw (← parts) at (span.sums f w span.rises (omega arith)))) in
            let there : apart m w ≡ d = omega (arith, span.rises) in
            pairs_by_lem n a b c d (rise span) (pairs (clamped lows highs m)) (pairs (clamped lows highs w)) _ _ parts
            (omega (arith, ap (λ (t : ℕ). t * d) parts))
            (rw there at (pairs_moved (clamped lows highs w) (clamped lows highs m) c m w moves)) far_on
        | no none ↦
            let same : w ≡ m = omega (arith, span.rises) in
            let nothing : rise span ≡ 0 = let zero : d ≡ 0 = omega arith in rw zero (omega arith) in
            rw (nothing, same) (omega arith)
      ]
