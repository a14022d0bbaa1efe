-- A value of a member is taken by some plan exactly where the group pinned to it has a plan. Assumes nothing.
use Rattle.std.specs.Prelude.{ℕ, ◌≤◌, ◌<◌, true, List, ◌≡◌, refl, length, get_or, set}
use Rattle.std.proofs.Common.{sym, ◌∙◌, arith, length-set, get_or-set_same, get_or-set_other}
use Rattle.std.proofs.Math.Decide.{ℕ_discrete}
use Rattle.model.specs.Shares.{Ranges, Within, greatest_share}
use Rattle.model.specs.Plans.{Plan, taken}
use Rattle.model.proofs.Laws.Lists.{within_length, within_at, within_of, ranges_length, ranges_at, ranges_of}
use Rattle.model.proofs.Laws.Plans.{found_plan, plan_found}
use Rattle.model.specs.Ways.{evened}
use Rattle.model.specs.declared.Limits.{Limits}

-- what holds of the pinned index and of every other holds of all
cases_at : (P : ℕ → Type 0) (i k : ℕ) → (k ≡ i → P k) → ((k ≡ i → ⊥) → P k) → P k
cases_at P i k here there = elim (ℕ_discrete k i) [ yes e ↦ here e | no e ↦ there e ]

module _ {lows highs : List ℕ} (ranges : Ranges lows highs) (i : ℕ) (below : i < length lows) where
  -- pinned ranges are ranges
  pub pinned_ranges : (v : ℕ) → v ≤ greatest_share → Ranges (set lows i v) (set highs i v)
  pinned_ranges v share =
      ranges_of (set lows i v) (set highs i v) (simp length-set (ranges_length ranges)) (λ k inside.
      let len : length highs ≡ length lows = ranges_length ranges in
      let there : k < length lows = rw length-set at inside in
      cases_at (λ k. (get_or (set lows i v) k 0 ≤ get_or (set highs i v) k 0) × (get_or (set highs i v) k 0 ≤ greatest_share)) i k
      (λ e. rw (e, get_or-set_same lows i v 0 below, get_or-set_same highs i v 0 (omega arith)) (omega arith, share))
      (λ e. rw (get_or-set_other lows i k v 0 e, get_or-set_other highs i k v 0 e) (ranges_at ranges k there)))

  -- shares in the pinned ranges are shares in the ranges that have the value
  pub unpin : {v : ℕ} {xs : List ℕ} → get_or lows i 0 ≤ v → v ≤ get_or highs i 0
      → Within (set lows i v) (set highs i v) xs → Within lows highs xs × (get_or xs i 0 ≡ v)
  unpin {v} {xs} low high within =
      let len : length highs ≡ length lows = ranges_length ranges in
      let len_low : length lows ≡ length xs = sym (length-set lows i v) ∙ (within_length within).0 in
      let value : get_or xs i 0 ≡ v =
      omega (arith, within_at within i (omega arith), get_or-set_same lows i v 0 below, get_or-set_same highs i v 0 (omega arith)) in (
        within_of lows highs xs len_low (omega arith) (λ k inside.
            cases_at (λ k. (get_or lows k 0 ≤ get_or xs k 0) × (get_or xs k 0 ≤ get_or highs k 0)) i k
            (λ e. rw (e, value) (low, high))
            (λ e. rw (get_or-set_other lows i k v 0 e, get_or-set_other highs i k v 0 e) at (within_at within k inside))),
        value,
      )

  -- and back
  pub pin : {v : ℕ} {xs : List ℕ} → Within lows highs xs → get_or xs i 0 ≡ v → Within (set lows i v) (set highs i v) xs
  pin {v} {xs} within value =
      let len : length highs ≡ length lows = ranges_length ranges in
      within_of (set lows i v) (set highs i v) xs
      (length-set lows i v ∙ (within_length within).0)
      (length-set highs i v ∙ (within_length within).1)
      (λ k inside.
      cases_at (λ k. (get_or (set lows i v) k 0 ≤ get_or xs k 0) × (get_or xs k 0 ≤ get_or (set highs i v) k 0)) i k
      (λ e. rw (e, get_or-set_same lows i v 0 below, get_or-set_same highs i v 0 (omega arith), value) (omega arith, omega arith))
      (λ e. rw (get_or-set_other lows i k v 0 e, get_or-set_other highs i k v 0 e) (within_at within k inside)))

  module _ {total : ℕ} {limits : Limits} where
    -- the group pinned to a value has a plan: some plan takes the value
    pub taken_plan : (v : ℕ) → get_or lows i 0 ≤ v → v ≤ get_or highs i 0 → taken lows highs total limits i v ≡ true
        → (xs : List ℕ) × Plan lows highs total limits xs × (get_or xs i 0 ≡ v)
    taken_plan v low high holds =
        let share : v ≤ greatest_share = omega (arith, ranges_at ranges i below) in
        let plan : Plan (set lows i v) (set highs i v) total limits (evened (set lows i v) (set highs i v) total) =
        found_plan (pinned_ranges v share) total limits holds in (
          evened (set lows i v) (set highs i v) total,
          record {
            within = (unpin low high plan.within).0;
            adds = plan.adds;
            meets = rw length-set at plan.meets;
          },
          (unpin low high plan.within).1,
        )

    -- a plan takes a value: the group pinned to it has a plan
    pub plan_taken : {xs : List ℕ} → Plan lows highs total limits xs → taken lows highs total limits i (get_or xs i 0) ≡ true
    plan_taken {xs} plan =
        let len : length lows ≡ length xs = (within_length plan.within).0 in
        let share : get_or xs i 0 ≤ greatest_share =
        omega (arith, ranges_at ranges i below, within_at plan.within i (omega arith)) in
        plan_found (pinned_ranges (get_or xs i 0) share) (record {
          within = pin plan.within refl;
          adds = plan.adds;
          meets = rw length-set plan.meets;
        })
