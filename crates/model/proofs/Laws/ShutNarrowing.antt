-- Narrowing a group with shut members keeps exactly the values that its plans take. Assumes nothing.
use Rattle.std.specs.Prelude.{ℕ, ◌≤◌, ◌<◌, true, false, List, ◌↔◌, ◌⊎◌, ◌≡◌, length, get_or}
use Rattle.std.proofs.Common.{inl, inr, sym, ◌∙◌, arith}
use Rattle.model.specs.Shares.{Ranges}
use Rattle.model.specs.Narrowing.{RangesInside}
use Rattle.model.specs.Plans.{has_plan, narrowed_low, narrowed_high, narrowed_lows}
use Rattle.model.specs.Running.{runs, running, Marked, MarkedTaken, marked_lows, marked_highs}
use Rattle.model.proofs.Laws.Lists.{ranges_at, ranges_of, within_length, within_at}
use Rattle.model.proofs.Laws.Narrowing.{taken_kept, kept_inside, kept_taken, narrowed_lows_length, narrowed_highs_length, narrowed_lows_at, narrowed_highs_at}
use Rattle.model.proofs.Laws.Plans.{found_plan}
use Rattle.model.proofs.Laws.Running.{marked_length, running_ranges}
use Rattle.model.proofs.Laws.Marked.{restored_length, restored_at, restored_shut, marked_shut, Ranked, ranked, running_at, marked_plan, plan_marked}
use Rattle.model.specs.declared.Limits.{Limits}

module _ {ms ls hs : List ℕ} (marked : Marked ms ls hs) (ranges : Ranges ls hs) (total : ℕ) (limits : Limits)
    (found : has_plan (running ms ls) (running ms hs) total limits ≡ true) where
  -- the narrowed ranges of the running members, and at all members' places
  abbrev kept_low : ℕ → ℕ
  kept_low j = narrowed_low (running ms ls) (running ms hs) total limits j

  abbrev kept_high : ℕ → ℕ
  kept_high j = narrowed_high (running ms ls) (running ms hs) total limits j

  abbrev low_at : ℕ → ℕ
  low_at i = get_or (marked_lows ms ls hs total limits) i 0

  abbrev high_at : ℕ → ℕ
  high_at i = get_or (marked_highs ms ls hs total limits) i 0

  -- a shut member's range was 0 to 0 and is
  record IsShut (i : ℕ) : Type 0 where
    low : get_or ls i 0 ≡ 0
    high : get_or hs i 0 ≡ 0
    low_left : low_at i ≡ 0
    high_left : high_at i ≡ 0

  -- a running member, the j-th one, has the range that is narrowed for it
  record IsRunning (i j : ℕ) : Type 0 where
    rank : Ranked ms i j
    among : j < length (running ms ls)
    low : get_or (running ms ls) j 0 ≡ get_or ls i 0
    high : get_or (running ms hs) j 0 ≡ get_or hs i 0
    low_left : low_at i ≡ kept_low j
    high_left : high_at i ≡ kept_high j

  -- each member is one or the other
  at_each : (i : ℕ) → i < length ls → IsShut i ⊎ ((j : ℕ) × IsRunning i j)
  at_each i below =
      by (ranked ms i (omega (arith, marked_length marked)))
    where
      by : (runs (get_or ms i 0) ≡ false) ⊎ ((j : ℕ) × Ranked ms i j) → IsShut i ⊎ ((j : ℕ) × IsRunning i j)
      by (inl shut) =
          let zeros = marked_shut marked i (omega (arith, marked_length marked)) shut in
          inl (record { low = zeros.0; high = zeros.1; low_left = restored_shut ms _ i shut; high_left = restored_shut ms _ i shut })
      by (inr (j, rank)) =
          let lows = running_at rank ls (marked_length marked).0 in
          let highs = running_at rank hs (marked_length marked).1 in
          inr (
            j,
            record {
              rank = rank;
              among = lows.1;
              low = lows.0;
              high = highs.0;
              low_left = restored_at rank _ (omega (arith, lows.1, narrowed_lows_length (running ms ls) (running ms hs) total limits))
                  ∙ narrowed_lows_at (running ms ls) (running ms hs) total limits j lows.1;
              high_left = restored_at rank _ (omega (arith, lows.1, narrowed_highs_length (running ms ls) (running ms hs) total limits))
                  ∙ narrowed_highs_at (running ms ls) (running ms hs) total limits j lows.1;
            },
          )

  -- each range lies inside the one that was, and is a range
  kept : (i : ℕ) → i < length ls → (get_or ls i 0 ≤ low_at i) × (low_at i ≤ high_at i) × (high_at i ≤ get_or hs i 0)
  kept i below = by (at_each i below)
    where
      by : IsShut i ⊎ ((j : ℕ) × IsRunning i j) → (get_or ls i 0 ≤ low_at i) × (low_at i ≤ high_at i) × (high_at i ≤ get_or hs i 0)
      by (inl shut) = omega arith
      by (inr (j, run)) = omega (arith, kept_inside (running_ranges ms ranges) total limits found j run.among)

  pub marked_inside : RangesInside (marked_lows ms ls hs total limits) (marked_highs ms ls hs total limits) ls hs
  marked_inside =
      record {
        same_lows = restored_length ms _ ∙ sym (marked_length marked).0;
        same_highs = restored_length ms _ ∙ sym (marked_length marked).1;
        at = λ i below. ((kept i below).0, (kept i below).2);
      }

  pub marked_ranges : Ranges (marked_lows ms ls hs total limits) (marked_highs ms ls hs total limits)
  marked_ranges =
      ranges_of _ _ (restored_length ms _ ∙ sym (restored_length ms _)) (λ i below.
      let under : i < length ls = omega (arith, restored_length ms (narrowed_lows (running ms ls) (running ms hs) total limits), marked_length marked) in
      omega (arith, kept i under, ranges_at ranges i under))

  -- a value lies in a member's range exactly if some plan takes it
  pub marked_exactly : (i : ℕ) → i < length ls → (v : ℕ)
      → ((get_or (marked_lows ms ls hs total limits) i 0 ≤ v) × (v ≤ get_or (marked_highs ms ls hs total limits) i 0)) ↔ MarkedTaken ms ls hs total limits i v
  marked_exactly i below v = by (at_each i below)
    where
      by : IsShut i ⊎ ((j : ℕ) × IsRunning i j) → ((low_at i ≤ v) × (v ≤ high_at i)) ↔ MarkedTaken ms ls hs total limits i v
      by (inl shut) = (
        λ (low, high).
            let plan = plan_marked marked (found_plan (running_ranges ms ranges) total limits found) in
            (_, plan, omega (arith, within_at plan.within i (omega (arith, within_length plan.within)))),
        λ (xs, plan, is). omega (arith, within_at plan.within i (omega (arith, within_length plan.within))),
      )
      by (inr (j, run)) = (
        λ (low, high).
            let (ys, plan, is) = kept_taken (running_ranges ms ranges) total limits found j run.among v (omega arith) (omega arith) in
            (_, plan_marked marked plan, restored_at run.rank ys (omega (arith, run.among, within_length plan.within)) ∙ is),
        λ (xs, plan, is).
            omega (
              arith,
              taken_kept (running_ranges ms ranges) total limits (marked_plan marked plan) j run.among,
              (running_at run.rank xs (omega (arith, within_length plan.within, marked_length marked))).0,
            ),
      )
