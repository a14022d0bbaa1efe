-- The figures of a group's shares, and its limits. Assumes nothing.
use Rattle.std.specs.Prelude.{ℕ, ◌+◌, ◌-◌, ◌*◌, max, Bool, true, ◌&&◌, List, [], ◌∷◌, leb}
use Rattle.model.specs.Shares.{sum_of}
use Rattle.model.specs.declared.Figures.{Figures}
use Rattle.model.specs.declared.Limit.{Limit}
use Rattle.model.specs.declared.Limit.TheVariants.{Any, AtMost}
use Rattle.model.specs.declared.Limits.{Limits}

-- |a − b|
abbrev pub apart : ℕ → ℕ → ℕ
apart a b = (a - b) + (b - a)

-- 01: deviation = sum of |n × share − S|
unfoldable pub deviation : ℕ → ℕ → List ℕ → ℕ
deviation n total xs = sum_of (λ x. apart (n * x) total) xs

-- 01: spread = n × (sum of squared shares) − S × S
unfoldable pub spread : ℕ → ℕ → List ℕ → ℕ
spread n total xs = n * sum_of (λ x. x * x) xs - total * total

-- 02: "the sum of larger less smaller share over all pairs .. each pair once". Document 003's Gini coefficient is this figure over n × S:
-- with n and S fixed, as they are here, a limit on one is a limit on the other.
unfoldable pub pairs : List ℕ → ℕ
pairs [] = 0
pairs (x ∷ xs) = sum_of (apart x) xs + pairs xs

-- 01: the total above t is the sum of share − t over the members whose share is above t
unfoldable pub above : ℕ → List ℕ → ℕ
above t xs = sum_of (λ x. x - t) xs

-- 01: the figures of n shares with the total
abbrev pub figures_of : ℕ → ℕ → List ℕ → Figures
figures_of n total xs = record {
  deviation = record { 0 = deviation n total xs };
  spread = record { 0 = spread n total xs };
  pairs = record { 0 = pairs xs };
}

-- 01: "any limits nothing"
abbrev pub allows : Limit → ℕ → Bool
allows Any figure = true
allows (AtMost most) figure = leb figure most

-- 01: "the deviation limit 0 to 100,000,000,000, the spread limit 0 to 100,000,000,000,000,000"
abbrev pub greatest_deviation : ℕ
greatest_deviation = 100_000_000_000

abbrev pub greatest_spread : ℕ
greatest_spread = 100_000_000_000_000_000

-- 02: "0 to 100,000,000,000"
abbrev pub greatest_pairs : ℕ
greatest_pairs = 100_000_000_000

-- a limit is any, or a number in its range
abbrev pub limit_within : Limit → ℕ → Bool
limit_within Any greatest = true
limit_within (AtMost most) greatest = leb most greatest

-- each figure is within its limit
abbrev pub met : Limits → Figures → Bool
met limits figures =
    allows limits.deviation figures.deviation.0
    && (allows limits.spread figures.spread.0 && allows limits.pairs figures.pairs.0)

-- 01: the figures within the limits; 02: "A plan must meet three limits"
abbrev pub meets : Limits → ℕ → ℕ → List ℕ → Bool
meets limits n total xs = met limits (figures_of n total xs)

-- 01: "twice the larger of two sums: of S − n × high over members where that is positive, and of n × low − S likewise"
abbrev pub deviation_bound : ℕ → ℕ → List ℕ → List ℕ → ℕ
deviation_bound n total lows highs = 2 * max (sum_of (λ h. total - n * h) highs) (sum_of (λ l. n * l - total) lows)
