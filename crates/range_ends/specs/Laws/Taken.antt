-- The values that plans give a member form a range, also beyond the member's own range. Assumes nothing.
use Rattle.std.specs.Prelude.{ℕ, ◌≤◌, ◌<◌, true, List, ◌≡◌, length, get_or, set}
use Rattle.std.proofs.Common.{sym, ◌∙◌, arith, length-set, get_or-set_same, get_or-set_other, set-set}
use Rattle.std.proofs.Math.Decide.{ℕ_discrete}
use Rattle.model.specs.Shares.{Ranges, greatest_share}
use Rattle.model.specs.Plans.{has_plan, taken}
use Rattle.model.proofs.Laws.Ends as ends
use Rattle.model.proofs.Laws.Lists.{ranges_at, ranges_of, ranges_length}
use Rattle.model.proofs.Laws.Pinned.{taken_plan}
use Rattle.model.proofs.Laws.Plans.{plan_found}
use Rattle.model.specs.declared.Limits.{Limits}

module _ {lows highs : List ℕ} (ranges : Ranges lows highs) (total : ℕ) (limits : Limits) (i : ℕ) (below : i < length lows) where
  -- the group with all shares in the member's range
  abbrev wide_lows : List ℕ
  wide_lows = set lows i 0

  abbrev wide_highs : List ℕ
  wide_highs = set highs i greatest_share

  there : i < length highs
  there = omega (arith, ranges_length ranges)

  wide : Ranges wide_lows wide_highs
  wide = ranges_of wide_lows wide_highs (length-set highs i greatest_share ∙ ranges_length ranges ∙ sym (length-set lows i 0)) (λ k inside.
      elim (ℕ_discrete k i) [
        | yes e ↦ rw (e, get_or-set_same lows i 0 0 below, get_or-set_same highs i greatest_share 0 there) (omega arith, omega arith)
        | no e ↦ rw (get_or-set_other lows i k 0 0 e, get_or-set_other highs i k greatest_share 0 e) (ranges_at ranges k (rw length-set at inside))
      ])

  -- pinned, it is the same group
  same : (v : ℕ) → taken wide_lows wide_highs total limits i v ≡ taken lows highs total limits i v
  same v = rw (set-set lows i 0 v, set-set highs i greatest_share v)

  -- what lies between two values that plans give the member, some plan gives it
  pub taken_between : (a b : ℕ) → b ≤ greatest_share → taken lows highs total limits i a ≡ true → taken lows highs total limits i b ≡ true
      → (m : ℕ) → a ≤ m → m ≤ b → taken lows highs total limits i m ≡ true
  taken_between a b small passes_a passes_b m from up_to =
      let here : i < length wide_lows = rw length-set below in
      let low : get_or wide_lows i 0 ≡ 0 = get_or-set_same lows i 0 0 below in
      let high : get_or wide_highs i 0 ≡ greatest_share = get_or-set_same highs i greatest_share 0 there in
      let (xs, plan, value) = taken_plan wide i here a (omega arith) (omega arith) (same a ∙ passes_a) in
      let found : has_plan wide_lows wide_highs total limits ≡ true = plan_found wide plan in
      let first = ends.taken_between wide total limits found i here a (omega arith) (omega arith) (same a ∙ passes_a) in
      let last = ends.taken_between wide total limits found i here b (omega arith) (omega arith) (same b ∙ passes_b) in
      sym (same m) ∙ ends.between_taken wide total limits found i here m (omega arith) (omega arith)
