-- Narrowing keeps every plan, is monotone, and may be done one member after another in place. Assumes nothing.
use Rattle.std.specs.Prelude.{ℕ, ◌≤◌, ◌<◌, true, List, ◌↔◌, ◌≡◌, length, get_or}
use Rattle.std.proofs.Common.{sym, ◌∙◌, le_refl, arith}
use Rattle.model.specs.Shares.{Ranges}
use Rattle.model.specs.Plans.{Plan, has_plan, narrowed_low, narrowed_high, narrowed_lows, narrowed_highs}
use Rattle.model.proofs.Laws.Lists.{within_length, within_at, within_of, ranges_length, ranges_at, ranges_of}
use Rattle.model.proofs.Laws.Narrowing.{kept_inside, kept_taken, taken_kept, narrowed_lows_length, narrowed_highs_length, narrowed_lows_at, narrowed_highs_at}
use Rattle.model.proofs.Laws.Plans.{found_plan, plan_found}
use Rattle.model.specs.declared.Limits.{Limits}
use Rattle.model.specs.Narrowing.{RangesInside, PartlyNarrowed}

-- a plan within ranges is a plan within wider ones
pub plan_widen : {lows' highs' lows highs xs : List ℕ} {total : ℕ} {limits : Limits}
    → RangesInside lows' highs' lows highs → Plan lows' highs' total limits xs → Plan lows highs total limits xs
plan_widen {lows'} {highs'} {lows} {highs} {xs} inside plan = record {
  within = within_of lows highs xs
      (sym inside.same_lows ∙ (within_length plan.within).0)
      (sym inside.same_highs ∙ (within_length plan.within).1)
      (λ i below.
      omega (
        arith,
        within_at plan.within i below,
        inside.at i (omega (arith, (within_length plan.within).0, inside.same_lows)),
      ));
  adds = plan.adds;
  meets = rw inside.same_lows at plan.meets;
}

-- smaller ranges narrow to smaller ranges
pub narrowing_monotone : {lows' highs' lows highs : List ℕ} → Ranges lows' highs' → Ranges lows highs
    → RangesInside lows' highs' lows highs → (total : ℕ) (limits : Limits) → has_plan lows' highs' total limits ≡ true
    → (i : ℕ) → i < length lows
    → (narrowed_low lows highs total limits i ≤ narrowed_low lows' highs' total limits i)
    × (narrowed_high lows' highs' total limits i ≤ narrowed_high lows highs total limits i)
narrowing_monotone {lows'} {highs'} {lows} {highs} ranges' ranges inside total limits found i below =
    let below' : i < length lows' = omega (arith, inside.same_lows) in
    let ordered : (get_or lows' i 0 ≤ narrowed_low lows' highs' total limits i)
    × (narrowed_low lows' highs' total limits i ≤ narrowed_high lows' highs' total limits i)
    × (narrowed_high lows' highs' total limits i ≤ get_or highs' i 0) = kept_inside ranges' total limits found i below' in
    let (xs, low, first) = kept_taken ranges' total limits found i below' (narrowed_low lows' highs' total limits i) (le_refl _) ordered.1 in
    let (ys, high, last) = kept_taken ranges' total limits found i below' (narrowed_high lows' highs' total limits i) ordered.1 (le_refl _) in (
      omega (arith, taken_kept ranges total limits (plan_widen inside low) i below),
      omega (arith, taken_kept ranges total limits (plan_widen inside high) i below),
    )

module _ {lows highs : List ℕ} (ranges : Ranges lows highs) (total : ℕ) (limits : Limits) where
  -- they have the same plans
  pub between_plan : {lows' highs' xs : List ℕ} → PartlyNarrowed lows highs total limits lows' highs' → Plan lows highs total limits xs
      → Plan lows' highs' total limits xs
  between_plan {lows'} {highs'} {xs} between plan = record {
    within = within_of lows' highs' xs
        (between.inside.same_lows ∙ (within_length plan.within).0)
        (between.inside.same_highs ∙ (within_length plan.within).1)
        (λ i below.
        let under : i < length lows = omega (arith, (within_length plan.within).0) in
        omega (arith, taken_kept ranges total limits plan i under, between.keeps i under));
    adds = plan.adds;
    meets = rw between.inside.same_lows plan.meets;
  }

  module _ (found : has_plan lows highs total limits ≡ true) where
    -- the narrowed ranges are between
    pub narrowed_between : PartlyNarrowed lows highs total limits (narrowed_lows lows highs total limits) (narrowed_highs lows highs total limits)
    narrowed_between = record {
      inside = record {
        same_lows = narrowed_lows_length lows highs total limits;
        same_highs = narrowed_highs_length lows highs total limits ∙ sym (ranges_length ranges);
        at = λ i below.
            let kept : (get_or lows i 0 ≤ narrowed_low lows highs total limits i)
            × (narrowed_low lows highs total limits i ≤ narrowed_high lows highs total limits i)
            × (narrowed_high lows highs total limits i ≤ get_or highs i 0) = kept_inside ranges total limits found i below in
            omega (arith, narrowed_lows_at lows highs total limits i below, narrowed_highs_at lows highs total limits i below);
      };
      keeps = λ i below. omega (arith, narrowed_lows_at lows highs total limits i below, narrowed_highs_at lows highs total limits i below);
    }

    -- narrowing leaves the set of plans as it was
    pub narrowed_plans : (xs : List ℕ) → Plan lows highs total limits xs
        ↔ Plan (narrowed_lows lows highs total limits) (narrowed_highs lows highs total limits) total limits xs
    narrowed_plans xs = (between_plan narrowed_between, plan_widen narrowed_between.inside)

    -- and they are ranges
    pub between_ranges : {lows' highs' : List ℕ} → PartlyNarrowed lows highs total limits lows' highs' → Ranges lows' highs'
    between_ranges {lows'} {highs'} between =
        ranges_of lows' highs' (omega (arith, between.inside.same_lows, between.inside.same_highs, ranges_length ranges)) (λ i below.
        let under : i < length lows = omega (arith, between.inside.same_lows) in
        omega (arith, kept_inside ranges total limits found i under, between.keeps i under, between.inside.at i under, ranges_at ranges i under))

    -- they narrow to the same ranges: members may be narrowed one after another in place
    pub between_narrowed : {lows' highs' : List ℕ} → PartlyNarrowed lows highs total limits lows' highs' → (i : ℕ) → i < length lows
        → (narrowed_low lows' highs' total limits i ≡ narrowed_low lows highs total limits i)
        × (narrowed_high lows' highs' total limits i ≡ narrowed_high lows highs total limits i)
    between_narrowed {lows'} {highs'} between i below =
        let ranges' : Ranges lows' highs' = between_ranges between in
        let below' : i < length lows' = omega (arith, between.inside.same_lows) in
        let found' : has_plan lows' highs' total limits ≡ true =
        plan_found ranges' (between_plan between (found_plan ranges total limits found)) in
        let outer : (narrowed_low lows highs total limits i ≤ narrowed_low lows' highs' total limits i)
        × (narrowed_high lows' highs' total limits i ≤ narrowed_high lows highs total limits i) =
        narrowing_monotone ranges' ranges between.inside total limits found' i below in
        let ordered : (get_or lows i 0 ≤ narrowed_low lows highs total limits i)
        × (narrowed_low lows highs total limits i ≤ narrowed_high lows highs total limits i)
        × (narrowed_high lows highs total limits i ≤ get_or highs i 0) = kept_inside ranges total limits found i below in
        let (xs, low, first) = kept_taken ranges total limits found i below (narrowed_low lows highs total limits i) (le_refl _) ordered.1 in
        let (ys, high, last) = kept_taken ranges total limits found i below (narrowed_high lows highs total limits i) ordered.1 (le_refl _) in (
          omega (arith, taken_kept ranges' total limits (between_plan between low) i below'),
          omega (arith, taken_kept ranges' total limits (between_plan between high) i below'),
        )
