-- The breakpoint table of a group: what its rows hold, and how one row comes of the row before. Assumes nothing.
use Rattle.std.specs.Prelude.{ℕ, suc, ◌+◌, ◌-◌, ◌*◌, ◌≤◌, List, ◌≡◌, length}
use Rattle.std.proofs.Common.{ap, mul-le-mul, arith}
use Rattle.model.specs.Shares.{Ranges, greatest_share, sum_of}
use Rattle.model.specs.Levels.{clamp, clamped, total_at}
use Rattle.model.proofs.Laws.Level.{clamp_at_most, total_at_mono}
use Rattle.model.proofs.Laws.Lists.{sum_sum_of}
use Rattle.breakpoints.specs.Inner.Spans.{Span}
use Rattle.breakpoints.specs.Inner.Tables.{itself, square, greatest_part}

abbrev pub Small : (ℕ → ℕ) → Type 0
Small f = (x : ℕ) → x ≤ suc greatest_share → f x ≤ greatest_part

pub small_itself : Small itself
small_itself x share = omega arith

pub small_square : Small square
small_square x share = omega (arith, mul-le-mul share share)

-- a sum of parts over shares at a level is at most n times the greatest
pub clamped_small : {lows highs : List ℕ} → Ranges lows highs → {f : ℕ → ℕ} → Small f → (w : ℕ)
    → sum_of f (clamped lows highs w) ≤ length lows * greatest_part
unfolding sum_of clamped
clamped_small Ranges.none small w = omega arith
clamped_small (Ranges.also {l} {h} p q r) small w =
    omega (arith, small (clamp l h w) (omega (arith, clamp_at_most l h w p)), clamped_small r small w)

-- T is the sum of the shares themselves
pub total_itself : (lows highs : List ℕ) (v : ℕ) → total_at lows highs v ≡ sum_of itself (clamped lows highs v)
unfolding total_at
total_itself lows highs v = sum_sum_of (clamped lows highs v)

-- a parts go from m to w, which is d further, and b back: what moves a sum by e moves the sum of squares by e for each of m and w
squares_by : (a b m d e before : ℕ) {w after : ℕ} → w ≡ m + d → e + b * d ≡ a * d
    → after + (a * (m * m) + b * (w * w)) ≡ before + (a * (w * w) + b * (m * m)) → before + e * (m + w) ≡ after
squares_by a b m d e before at rise sums = rw at (omega (arith, rw at at sums, ap (λ t. t * (m + (m + d))) rise))

module _ {lows highs : List ℕ} {m w a b : ℕ} (span : Span lows highs m w a b) where
  -- by how much T rises from m to w
  abbrev pub rise : ℕ
  rise = a * (w - m) - b * (w - m)

  -- T at w, by what the lows passed add and the highs passed take away
  even_total : sum_of itself (clamped lows highs w) + b * (w - m) ≡ sum_of itself (clamped lows highs m) + a * (w - m)
  even_total =
      let at : w ≡ m + (w - m) = omega (arith, span.rises) in
      omega (arith, span.sums itself w span.rises (omega arith), ap (λ t. a * t) at, ap (λ t. b * t) at)

  -- the highs take no more away than the lows add
  pub rises_more : b * (w - m) ≤ a * (w - m)
  rises_more = omega (arith, even_total, total_at_mono lows highs m w span.rises, total_itself lows highs m, total_itself lows highs w)

  -- T and the sum of squares at w, by those at m
  pub total_risen : sum_of itself (clamped lows highs m) + rise ≡ sum_of itself (clamped lows highs w)
  total_risen = omega (arith, even_total, rises_more)

  pub squares_risen : sum_of square (clamped lows highs m) + rise * (m + w) ≡ sum_of square (clamped lows highs w)
  squares_risen =
      squares_by a b m (w - m) rise _ (omega (arith, span.rises)) (omega (arith, rises_more)) (span.sums square w span.rises (omega arith))
