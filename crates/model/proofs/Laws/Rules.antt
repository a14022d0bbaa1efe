-- Every rule that hands the copies left over out finds the same plans and leaves the same ranges. Assumes nothing.
use Rattle.std.specs.Prelude.{ℕ, zero, suc, ◌+◌, ◌-◌, ◌≤◌, ◌<◌, Bool, ◌&&◌, List, ◌≡◌, leb, length, get_or, set}
use Rattle.std.proofs.Math.Bool.{true, false}
use Rattle.std.proofs.Math.Path.{refl, ap}
use Rattle.std.proofs.Common.{sym, ◌∙◌, arith}
use borrow.Author.Tests.{leb-true}
use Rattle.model.specs.Shares.{Ranges, sum}
use Rattle.model.specs.Figures.{met, meets}
use Rattle.model.specs.Levels.{levelled}
use Rattle.model.specs.Ways.{evened}
use Rattle.model.specs.Plans.{Plan, has_shares, has_plan, taken, first_up, first_down, narrowed_low, narrowed_high}
use Rattle.model.specs.Rules.{plan_by, HandingRule}
use Rattle.model.proofs.Laws.Levelled.{evened_way, levelled_way, levelled_within, levelled_adds, shares_exist}
use Rattle.model.proofs.Laws.Lists.{ranges_at}
use Rattle.model.proofs.Laws.Pinned.{pinned_ranges}
use Rattle.model.proofs.Laws.Plans.{found_plan}
use Rattle.model.proofs.Laws.Tests.{both_left, both_right, clash}
use Rattle.model.proofs.Laws.Ways.{ways_figures}
use Rattle.model.specs.declared.Limits.{Limits}

-- the levelled shares are a plan where one is found: they have the figures of the even ones
pub levelled_plan : {lows highs : List ℕ} → Ranges lows highs → (total : ℕ) (limits : Limits)
    → has_plan lows highs total limits ≡ true → Plan lows highs total limits (levelled lows highs total)
levelled_plan {lows} {highs} ranges total limits found =
    let plan = found_plan ranges total limits found in
    let between = (shares_exist ranges total).0 (evened lows highs total, plan.within, plan.adds) in
    let same = ways_figures ranges (levelled_way ranges total between.0 between.1) (evened_way ranges total between.0 between.1) (length lows) total in
    record {
      within = levelled_within ranges total;
      adds = levelled_adds ranges total between.0 between.1;
      meets = ap (met limits) same ∙ plan.meets;
    }

-- two searches that agree on a value and past it agree
agreed : (b b' : Bool) (v : ℕ) {x y : ℕ} → b ≡ b' → x ≡ y → ◌≡◌ {A = ℕ} (elim b [ true ↦ v | false ↦ x ]) (elim b' [ true ↦ v | false ↦ y ])
agreed true true v same rest = refl
agreed true false v same rest = absurd (clash refl same)
agreed false true v same rest = absurd (clash refl (sym same))
agreed false false v same rest = rest

first_up_same : (test test' : ℕ → Bool) (steps v : ℕ) → ((k : ℕ) → v ≤ k → k ≤ v + steps → test k ≡ test' k)
    → first_up test steps v ≡ first_up test' steps v
unfolding first_up
first_up_same test test' zero v agree = refl
first_up_same test test' (suc steps) v agree =
    agreed (test v) (test' v) v (agree v (omega arith) (omega arith))
    (first_up_same test test' steps (suc v) (λ k from up_to. agree k (omega arith) (omega arith)))

first_down_same : (test test' : ℕ → Bool) (steps v : ℕ) → ((k : ℕ) → k ≤ v → test k ≡ test' k)
    → first_down test steps v ≡ first_down test' steps v
unfolding first_down
first_down_same test test' zero v agree = refl
first_down_same test test' (suc steps) v agree =
    agreed (test v) (test' v) v (agree v (omega arith)) (first_down_same test test' steps (v - 1) (λ k up_to. agree k (omega arith)))

-- the rules of 01 before item 6 of 02 and with it
pub evened_rule : HandingRule evened
evened_rule lows highs = evened_way

pub levelled_rule : HandingRule levelled
levelled_rule lows highs = levelled_way

module _ (rule : List ℕ → List ℕ → ℕ → List ℕ) (hands : HandingRule rule) (total : ℕ) (limits : Limits) where
  -- every such rule finds a plan where there is one
  pub rule_plan : {lows highs : List ℕ} → Ranges lows highs → plan_by rule lows highs total limits ≡ has_plan lows highs total limits
  unfolding has_plan
  rule_plan {lows} {highs} ranges = by (has_shares lows highs total) refl
    where
      by : (b : Bool) → has_shares lows highs total ≡ b
          → b && meets limits (length lows) total (rule lows highs total) ≡ b && meets limits (length lows) total (evened lows highs total)
      by false is = refl
      by true is =
          let low = leb-true (sum lows) total (both_left _ _ is) in
          let high = leb-true total (sum highs) (both_right (leb (sum lows) total) _ is) in
          ap (met limits) (ways_figures ranges (hands lows highs ranges total low high) (evened_way ranges total low high) (length lows) total)

  module _ {lows highs : List ℕ} (ranges : Ranges lows highs) (i : ℕ) (below : i < length lows) where
    agree : (v : ℕ) → v ≤ get_or highs i 0 → plan_by rule (set lows i v) (set highs i v) total limits ≡ taken lows highs total limits i v
    agree v up_to = rule_plan (pinned_ranges ranges i below v (omega (arith, ranges_at ranges i below)))

    -- so it leaves the same ranges
    pub rule_low : first_up (λ v. plan_by rule (set lows i v) (set highs i v) total limits) (get_or highs i 0 - get_or lows i 0) (get_or lows i 0)
        ≡ narrowed_low lows highs total limits i
    unfolding narrowed_low
    rule_low = first_up_same _ _ _ _ (λ v from up_to. agree v (omega (arith, ranges_at ranges i below)))

    pub rule_high : first_down (λ v. plan_by rule (set lows i v) (set highs i v) total limits) (get_or highs i 0 - get_or lows i 0) (get_or highs i 0)
        ≡ narrowed_high lows highs total limits i
    unfolding narrowed_high
    rule_high = first_down_same _ _ _ _ agree
