-- Narrowing keeps of each member exactly the values that some plan takes. Assumes nothing.
use Rattle.std.specs.Prelude.{ℕ, zero, suc, ◌+◌, ◌-◌, ◌≤◌, ◌<◌, true, List, ◌≡◌, refl, length}
use Rattle.std.proofs.Common.{sym, ap, ◌∙◌, le_of_suc-le-suc, arith}
use Rattle.std.proofs.Math.Decide.{dec_le}
use Rattle.std.proofs.Math.Nat.{le_dest}
use Rattle.std.proofs.Math.ListN.{get_or}
use Rattle.model.specs.Shares.{Ranges}
use Rattle.model.specs.Ways.{evened}
use Rattle.model.specs.Plans.{Plan, has_plan, taken, tabulate, narrowed_low, narrowed_high, narrowed_lows, narrowed_highs}
use Rattle.model.proofs.Laws.Least.{Exchanged, step_down, step_up}
use Rattle.model.proofs.Laws.Levelled.{evened_within, evened_even}
use Rattle.model.proofs.Laws.Lists.{within_length, within_at}
use Rattle.model.proofs.Laws.Pinned.{taken_plan, plan_taken}
use Rattle.model.proofs.Laws.Plans.{meets_less, found_plan}
use Rattle.model.proofs.Laws.Search.{PassesBetween, first_up_passes, first_down_passes}
use Rattle.model.specs.declared.Limits.{Limits}
use Rattle.model.specs.Narrowing.{Taken}

module _ {lows highs : List ℕ} (ranges : Ranges lows highs) (total : ℕ) (limits : Limits) where
  -- a step toward the even shares makes a plan of a plan
  stepped_plan : {xs ys : List ℕ} → Plan lows highs total limits xs → Exchanged lows highs xs ys → Plan lows highs total limits ys
  stepped_plan {xs} {ys} plan stepped = record {
    within = stepped.within;
    adds = stepped.adds ∙ plan.adds;
    meets = meets_less limits (length lows) total xs ys stepped.lowers plan.meets;
  }

  module _ (found : has_plan lows highs total limits ≡ true) (i : ℕ) (below : i < length lows) where
    -- the even shares are a plan
    evened_plan : Plan lows highs total limits (evened lows highs total)
    evened_plan = found_plan ranges total limits found

    -- from a value that is taken, every value down to the even share is
    pub taken_down : (steps v : ℕ) → get_or (evened lows highs total) i 0 ≤ v
        → Taken lows highs total limits i (v + steps) → Taken lows highs total limits i v
    taken_down zero v reach (xs, plan, value) = (xs, plan, omega arith)
    taken_down (suc steps) v reach (xs, plan, value) =
        let (ys, stepped, less) =
        step_down (evened_within ranges total) (evened_even ranges total) plan.within
        (plan.adds ∙ sym evened_plan.adds) i (omega (arith, (within_length plan.within).0)) (omega arith) in
        taken_down steps v reach (ys, stepped_plan plan stepped, omega arith)

    -- from a value that is taken, every value up to the even share is
    pub taken_up : (steps v : ℕ) → v + steps ≤ get_or (evened lows highs total) i 0
        → Taken lows highs total limits i v → Taken lows highs total limits i (v + steps)
    taken_up zero v reach (xs, plan, value) = (xs, plan, omega arith)
    taken_up (suc steps) v reach (xs, plan, value) =
        let (ys, stepped, more) =
        step_up (evened_within ranges total) (evened_even ranges total) plan.within
        (plan.adds ∙ sym evened_plan.adds) i (omega (arith, (within_length plan.within).0)) (omega arith) in
        let (zs, last, value) =
        taken_up steps (suc v) (omega arith) (ys, stepped_plan plan stepped, omega arith) in
        (zs, last, omega arith)

  -- the narrowed low is taken, and no plan's value is below it; the narrowed high likewise
  lowest : (i : ℕ) → i < length lows → {xs : List ℕ} → Plan lows highs total limits xs
      → PassesBetween (taken lows highs total limits i) (get_or lows i 0) (narrowed_low lows highs total limits i) (get_or xs i 0)
  unfolding narrowed_low
  lowest i below {xs} plan =
      let inside : (get_or lows i 0 ≤ get_or xs i 0) × (get_or xs i 0 ≤ get_or highs i 0) =
      within_at plan.within i (omega (arith, (within_length plan.within).0)) in
      first_up_passes (taken lows highs total limits i) (get_or highs i 0 - get_or lows i 0) (get_or lows i 0) (get_or xs i 0)
      (plan_taken ranges i below plan) inside.0 (omega arith)

  highest : (i : ℕ) → i < length lows → {xs : List ℕ} → Plan lows highs total limits xs
      → PassesBetween (taken lows highs total limits i) (get_or xs i 0) (narrowed_high lows highs total limits i) (get_or highs i 0)
  unfolding narrowed_high
  highest i below {xs} plan =
      let inside : (get_or lows i 0 ≤ get_or xs i 0) × (get_or xs i 0 ≤ get_or highs i 0) =
      within_at plan.within i (omega (arith, (within_length plan.within).0)) in
      first_down_passes (taken lows highs total limits i) (get_or highs i 0 - get_or lows i 0) (get_or highs i 0) (get_or xs i 0)
      (plan_taken ranges i below plan) inside.1 (omega arith)

  -- every value that a plan takes is kept
  pub taken_kept : {xs : List ℕ} → Plan lows highs total limits xs → (i : ℕ) → i < length lows
      → (narrowed_low lows highs total limits i ≤ get_or xs i 0) × (get_or xs i 0 ≤ narrowed_high lows highs total limits i)
  taken_kept plan i below = ((lowest i below plan).up_to, (highest i below plan).from)

  -- the values kept lie in the member's range
  pub kept_inside : has_plan lows highs total limits ≡ true → (i : ℕ) → i < length lows
      → (get_or lows i 0 ≤ narrowed_low lows highs total limits i)
      × (narrowed_low lows highs total limits i ≤ narrowed_high lows highs total limits i)
      × (narrowed_high lows highs total limits i ≤ get_or highs i 0)
  kept_inside found i below =
      let plan : Plan lows highs total limits (evened lows highs total) = found_plan ranges total limits found in
      ((lowest i below plan).from, omega (arith, (lowest i below plan).up_to, (highest i below plan).from), (highest i below plan).up_to)

  -- 01: "They form a range": every value from the narrowed low to the narrowed high is taken by some plan
  pub kept_taken : has_plan lows highs total limits ≡ true → (i : ℕ) → i < length lows → (v : ℕ)
      → narrowed_low lows highs total limits i ≤ v → v ≤ narrowed_high lows highs total limits i
      → Taken lows highs total limits i v
  kept_taken found i below v low high =
      let inside : (get_or lows i 0 ≤ narrowed_low lows highs total limits i)
      × (narrowed_low lows highs total limits i ≤ narrowed_high lows highs total limits i)
      × (narrowed_high lows highs total limits i ≤ get_or highs i 0) = kept_inside found i below in
      let plan : Plan lows highs total limits (evened lows highs total) = found_plan ranges total limits found in
      elim (dec_le v (get_or (evened lows highs total) i 0)) [
        | yes reach ↦
            let (steps, reaches) = le_dest low in
            rw (← reaches) (taken_up found i below steps (narrowed_low lows highs total limits i) (omega arith)
            (taken_plan ranges i below (narrowed_low lows highs total limits i) inside.0 (omega arith) (lowest i below plan).passes))
        | no beyond ↦
            let (steps, reaches) = le_dest high in
            taken_down found i below steps v (omega arith)
            (rw reaches (taken_plan ranges i below (narrowed_high lows highs total limits i) (omega arith) inside.2 (highest i below plan).passes))
      ]

-- a list made by a rule has its value at each place
tabulate_length : (n : ℕ) (f : ℕ → ℕ) → length (tabulate n f) ≡ n
unfolding tabulate
tabulate_length zero f = refl
tabulate_length (suc n) f = ap suc (tabulate_length n (λ i. f (suc i)))

tabulate_at : (n : ℕ) (f : ℕ → ℕ) (i : ℕ) → i < n → get_or (tabulate n f) i 0 ≡ f i
unfolding tabulate
tabulate_at zero f i below = absurd (omega arith)
tabulate_at (suc n) f zero below = refl
tabulate_at (suc n) f (suc i) below = tabulate_at n (λ i. f (suc i)) i (le_of_suc-le-suc below)

-- the narrowed ranges are one to a member, in order
module _ (lows highs : List ℕ) (total : ℕ) (limits : Limits) where
  pub narrowed_lows_length : length (narrowed_lows lows highs total limits) ≡ length lows
  unfolding narrowed_lows
  narrowed_lows_length = tabulate_length (length lows) (narrowed_low lows highs total limits)

  pub narrowed_highs_length : length (narrowed_highs lows highs total limits) ≡ length lows
  unfolding narrowed_highs
  narrowed_highs_length = tabulate_length (length lows) (narrowed_high lows highs total limits)

  pub narrowed_lows_at : (i : ℕ) → i < length lows
      → get_or (narrowed_lows lows highs total limits) i 0 ≡ narrowed_low lows highs total limits i
  unfolding narrowed_lows
  narrowed_lows_at i below = tabulate_at (length lows) (narrowed_low lows highs total limits) i below

  pub narrowed_highs_at : (i : ℕ) → i < length lows
      → get_or (narrowed_highs lows highs total limits) i 0 ≡ narrowed_high lows highs total limits i
  unfolding narrowed_highs
  narrowed_highs_at i below = tabulate_at (length lows) (narrowed_high lows highs total limits) i below
