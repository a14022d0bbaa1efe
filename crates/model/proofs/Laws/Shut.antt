-- The laws of one group with shut members: least figures, 01's bound, shares and plans. Assumes nothing.
use Rattle.std.specs.Prelude.{ℕ, ◌*◌, ◌≤◌, List, [], ◌∷◌, ◌↔◌, ◌≡◌, refl, length}
use Rattle.std.proofs.Common.{sym, ap, subst, ◌∙◌, arith}
use Rattle.model.specs.Shares.{Ranges, Within, sum, sum_of}
use Rattle.model.specs.Figures.{deviation, spread, pairs, above}
use Rattle.model.specs.Levels.{levelled}
use Rattle.model.specs.Ways.{evened}
use Rattle.model.specs.Running.{running, restored, Marked, MarkedPlan, MarkedPlans, marked_deviation, marked_spread, marked_pairs, marked_above, marked_bound, marked_figures}
use Rattle.model.specs.Transfers.{SchurConvex}
use Rattle.model.specs.Verdicts.{Shares, Plans}
use Rattle.model.proofs.Laws.Deviation.{deviation_bound_lem, levelled_reaches_bound}
use Rattle.model.proofs.Laws.Levelled.{levelled_way, levelled_within, evened_way, evened_within}
use Rattle.model.proofs.Laws.Pairs.{pairs_schur}
use Rattle.model.proofs.Laws.Plans.{levelled_least, plan_found}
use Rattle.model.proofs.Laws.Rules.{levelled_plan}
use Rattle.model.proofs.Laws.Ways.{ways_figures}
use Rattle.model.proofs.Laws.Running.{running_ranges, running_within, running_sum, running_levelled, running_evened, running_lows, running_highs}
use Rattle.model.proofs.Laws.Marked.{running_counted, restored_within, running_restored, restored_running, marked_plan, plan_marked}
use Rattle.model.proofs.Laws.Transfer.{deviation_schur, spread_schur, above_schur}
use Rattle.model.specs.declared.Limits.{Limits}

module _ {ms ls hs : List ℕ} (marked : Marked ms ls hs) (ranges : Ranges ls hs) (total : ℕ) where
  -- the running members' levelled shares have the least of every figure that an exchange never raises
  marked_least : {xs : List ℕ} → Within ls hs xs → sum xs ≡ total → (F : List ℕ → ℕ) → SchurConvex F
      → F (running ms (levelled ls hs total)) ≤ F (running ms xs)
  marked_least within adds F convex =
      rw (running_levelled marked total)
      (levelled_least (running_ranges ms ranges) total (running_within ms within) (running_sum marked within ∙ adds) F convex)

  -- as many running members are levelled as have shares
  levelled_many : {xs : List ℕ} → Within ls hs xs → length (running ms (levelled ls hs total)) ≡ length (running ms xs)
  levelled_many within = running_counted ms (levelled_within ranges total) ∙ sym (running_counted ms within)

  -- so the least deviation, the least spread, the least pair differences and the least total above every t, of the running members
  pub marked_least_deviation : {xs : List ℕ} → Within ls hs xs → sum xs ≡ total
      → marked_deviation ms total (levelled ls hs total) ≤ marked_deviation ms total xs
  marked_least_deviation {xs} within adds =
      rw (levelled_many within) (marked_least within adds (deviation (length (running ms xs)) total) (deviation_schur (length (running ms xs)) total))

  pub marked_least_spread : {xs : List ℕ} → Within ls hs xs → sum xs ≡ total
      → marked_spread ms total (levelled ls hs total) ≤ marked_spread ms total xs
  marked_least_spread {xs} within adds =
      rw (levelled_many within) (marked_least within adds (spread (length (running ms xs)) total) (spread_schur (length (running ms xs)) total))

  pub marked_least_pairs : {xs : List ℕ} → Within ls hs xs → sum xs ≡ total → marked_pairs ms (levelled ls hs total) ≤ marked_pairs ms xs
  marked_least_pairs within adds = marked_least within adds pairs pairs_schur

  pub marked_least_above : {xs : List ℕ} → Within ls hs xs → sum xs ≡ total → (t : ℕ)
      → marked_above ms t (levelled ls hs total) ≤ marked_above ms t xs
  marked_least_above within adds t = marked_least within adds (above t) (above_schur t)

  -- 01's bound below the deviation, of the running members
  pub marked_bound_lem : {xs : List ℕ} → Within ls hs xs → sum xs ≡ total → marked_bound ms total ls hs ≤ marked_deviation ms total xs
  marked_bound_lem {xs} within adds =
      let low = deviation_bound_lem (running_within ms within) in
      rw (← running_counted ms within, ← (running_sum marked within ∙ adds)) low

  -- when their number divides the total, the levelled shares reach it
  pub marked_reaches_bound : (q : ℕ) → sum ls ≤ total → total ≤ sum hs → total ≡ length (running ms ls) * q
      → marked_deviation ms total (levelled ls hs total) ≡ marked_bound ms total ls hs
  marked_reaches_bound q low high divides =
      rw (running_counted ms (levelled_within ranges total), running_levelled marked total)
      (levelled_reaches_bound (running_ranges ms ranges) total q
      (omega (arith, running_lows marked)) (omega (arith, running_highs marked)) divides)

-- item 6 of 02 moved no figure: the shares of before have the same
pub marked_figures_before : {ms ls hs : List ℕ} → Marked ms ls hs → Ranges ls hs → (total : ℕ) → sum ls ≤ total → total ≤ sum hs
    → marked_figures ms total (levelled ls hs total) ≡ marked_figures ms total (evened ls hs total)
marked_figures_before {ms} {ls} {hs} marked ranges total low high =
    let core = running_ranges ms ranges in
    let from : sum (running ms ls) ≤ total = omega (arith, running_lows marked) in
    let up_to : total ≤ sum (running ms hs) = omega (arith, running_highs marked) in
    rw (
      running_counted ms (levelled_within ranges total),
      running_counted ms (evened_within ranges total),
      running_levelled marked total,
      running_evened marked total,
    )
    (ways_figures core (levelled_way core total from up_to) (evened_way core total from up_to) (length (running ms ls)) total)

-- where there is a plan, the levelled shares are one
pub levelled_marked : {ms ls hs xs : List ℕ} → Marked ms ls hs → Ranges ls hs → (total : ℕ) (limits : Limits)
    → MarkedPlan ms ls hs total limits xs → MarkedPlan ms ls hs total limits (levelled ls hs total)
levelled_marked {ms} {ls} {hs} marked ranges total limits plan =
    let core = running_ranges ms ranges in
    let same : restored ms (levelled (running ms ls) (running ms hs) total) ≡ levelled ls hs total =
    ap (restored ms) (sym (running_levelled marked total)) ∙ restored_running marked (levelled_within ranges total) in
    subst (λ (ys : List ℕ). MarkedPlan ms ls hs total limits ys) same
    (plan_marked marked (levelled_plan core total limits (plan_found core (marked_plan marked plan))))

module _ {ms ls hs : List ℕ} (marked : Marked ms ls hs) (total : ℕ) where
  -- shares with the total exist where the running members have them
  pub marked_shares : Shares (running ms ls) (running ms hs) total ↔ Shares ls hs total
  marked_shares = (
    λ (ys, within, adds). (
      restored ms ys,
      restored_within marked ys within,
      sym (running_sum marked (restored_within marked ys within)) ∙ ap sum (running_restored marked ys within) ∙ adds,
    ),
    λ (xs, within, adds). (running ms xs, running_within ms within, running_sum marked within ∙ adds),
  )

  -- and so do plans
  pub marked_plans : (limits : Limits) → Plans (running ms ls) (running ms hs) total limits ↔ MarkedPlans ms ls hs total limits
  marked_plans limits = (λ (ys, plan). (restored ms ys, plan_marked marked plan), λ (xs, plan). (running ms xs, marked_plan marked plan))

-- where no member runs, shares exist for the total 0 alone
pub all_shut : {ms ls hs : List ℕ} → Marked ms ls hs → running ms ls ≡ [] → (total : ℕ) → Shares ls hs total → total ≡ 0
unfolding sum
all_shut {ms} {ls} {hs} marked none total (xs, within, adds) =
    let shared : sum (running ms xs) ≡ total = running_sum marked within ∙ adds in
    let nobody : length (running ms xs) ≡ 0 = running_counted ms within ∙ ap length none in
    by (running ms xs) nobody shared
  where
    by : (ys : List ℕ) → length ys ≡ 0 → sum ys ≡ total → total ≡ 0
    by [] empty is = sym is
    by (y ∷ ys) empty is = absurd (omega arith)

-- and all three figures are 0
pub all_shut_figures : (ms xs : List ℕ) → running ms xs ≡ [] → (marked_deviation ms 0 xs ≡ 0) × (marked_spread ms 0 xs ≡ 0) × (marked_pairs ms xs ≡ 0)
unfolding deviation spread pairs sum_of
all_shut_figures ms xs none = rw none (refl, refl, refl)
