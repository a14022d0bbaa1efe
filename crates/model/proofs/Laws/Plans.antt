-- Least figures; a group has a plan exactly where its even shares are one. Assumes nothing.
use Rattle.std.specs.Prelude.{ℕ, ◌+◌, ◌≤◌, true, List, ◌≡◌, refl, leb, length}
use Rattle.std.proofs.Common.{sym, ◌∙◌, arith, le-leb, leb-true}
use Rattle.model.specs.Shares.{Ranges, Within, sum}
use Rattle.model.specs.Figures.{allows, meets, deviation, spread, pairs, above}
use Rattle.model.specs.Levels.{total_at, level, remainder, levelled}
use Rattle.model.specs.Ways.{evened}
use Rattle.model.specs.Plans.{Plan, has_shares, has_plan}
use Rattle.model.proofs.Laws.Tests.{both, both_left, both_right}
use Rattle.model.specs.Transfers.{SchurConvex}
use Rattle.model.proofs.Laws.Transfer.{deviation_schur, spread_schur, above_schur}
use Rattle.model.proofs.Laws.Pairs.{pairs_schur}
use Rattle.model.proofs.Laws.Levelled.{evened_way, evened_within, evened_adds, levelled_way, remainder_adds, within_sum_low, within_sum_high}
use Rattle.model.proofs.Laws.Ways.{way_least}
use Rattle.model.specs.declared.Limit.{Limit}
use Rattle.model.specs.declared.Limit.TheVariants.{Any, AtMost}
use Rattle.model.specs.declared.Limits.{Limits}

-- a limit that allows a figure allows a lesser one
pub allows_less : (limit : Limit) {f g : ℕ} → g ≤ f → allows limit f ≡ true → allows limit g ≡ true
allows_less Any less held = refl
allows_less (AtMost most) {f} {g} less held = le-leb g most (omega (arith, leb-true f most held))

-- shares with no greater figures are within the same limits
pub meets_less : (limits : Limits) (n total : ℕ) (xs ys : List ℕ)
    → ((F : List ℕ → ℕ) → SchurConvex F → F ys ≤ F xs) → meets limits n total xs ≡ true → meets limits n total ys ≡ true
meets_less limits n total xs ys less held =
    let others = both_right (allows limits.deviation (deviation n total xs)) _ held in
    both
    (allows_less limits.deviation (less (deviation n total) (deviation_schur n total)) (both_left _ _ held))
    (both
    (allows_less limits.spread (less (spread n total) (spread_schur n total)) (both_left _ _ others))
    (allows_less limits.pairs (less pairs pairs_schur) (both_right (allows limits.spread (spread n total xs)) _ others)))

-- even shares and the levelled ones, two ways to hand out the copies left over, have the least of every figure that an exchange never raises
module _ {lows highs xs : List ℕ} (ranges : Ranges lows highs) (total : ℕ) (within : Within lows highs xs) (adds : sum xs ≡ total)
    (F : List ℕ → ℕ) (convex : SchurConvex F) where
  low : sum lows ≤ total
  low = omega (arith, within_sum_low within)

  high : total ≤ sum highs
  high = omega (arith, within_sum_high within)

  whole : sum xs ≡ total_at lows highs (level lows highs total) + remainder lows highs total
  whole = adds ∙ sym (remainder_adds ranges total low high)

  pub evened_least : F (evened lows highs total) ≤ F xs
  evened_least = way_least ranges (evened_way ranges total low high) within whole F convex

  pub levelled_least : F (levelled lows highs total) ≤ F xs
  levelled_least = way_least ranges (levelled_way ranges total low high) within whole F convex

-- so the least deviation, the least spread, the least pair differences and the least total above every t
pub least_deviation : {lows highs xs : List ℕ} → Ranges lows highs → (total : ℕ) → Within lows highs xs → sum xs ≡ total
    → (n : ℕ) → deviation n total (levelled lows highs total) ≤ deviation n total xs
least_deviation ranges total within adds n = levelled_least ranges total within adds (deviation n total) (deviation_schur n total)

pub least_spread : {lows highs xs : List ℕ} → Ranges lows highs → (total : ℕ) → Within lows highs xs → sum xs ≡ total
    → (n : ℕ) → spread n total (levelled lows highs total) ≤ spread n total xs
least_spread ranges total within adds n = levelled_least ranges total within adds (spread n total) (spread_schur n total)

pub least_pairs : {lows highs xs : List ℕ} → Ranges lows highs → (total : ℕ) → Within lows highs xs → sum xs ≡ total
    → pairs (levelled lows highs total) ≤ pairs xs
least_pairs ranges total within adds = levelled_least ranges total within adds pairs pairs_schur

pub least_above : {lows highs xs : List ℕ} → Ranges lows highs → (total : ℕ) → Within lows highs xs → sum xs ≡ total
    → (t : ℕ) → above t (levelled lows highs total) ≤ above t xs
least_above ranges total within adds t = levelled_least ranges total within adds (above t) (above_schur t)

-- where a plan is found, the even shares are one
pub found_plan : {lows highs : List ℕ} → Ranges lows highs → (total : ℕ) (limits : Limits)
    → has_plan lows highs total limits ≡ true → Plan lows highs total limits (evened lows highs total)
unfolding has_plan
found_plan {lows} {highs} ranges total limits found =
    let shares : has_shares lows highs total ≡ true = both_left _ _ found in
    record {
      within = evened_within ranges total;
      adds = evened_adds ranges total
          (leb-true (sum lows) total (both_left _ _ shares))
          (leb-true total (sum highs) (both_right (leb (sum lows) total) _ shares));
      meets = both_right (has_shares lows highs total) _ found;
    }

-- where there is a plan, one is found
pub plan_found : {lows highs : List ℕ} → Ranges lows highs → {total : ℕ} {limits : Limits} {xs : List ℕ}
    → Plan lows highs total limits xs → has_plan lows highs total limits ≡ true
unfolding has_plan
plan_found {lows} {highs} ranges {total} {limits} {xs} plan =
    let low : sum lows ≤ total = omega (arith, within_sum_low plan.within, plan.adds) in
    let high : total ≤ sum highs = omega (arith, within_sum_high plan.within, plan.adds) in
    both (both (le-leb (sum lows) total low) (le-leb total (sum highs) high))
    (meets_less limits (length lows) total xs (evened lows highs total)
    (evened_least ranges total plan.within plan.adds) plan.meets)
