-- A value has the same outcome for all members whose ranges reach from a row's level to the next one's. Assumes nothing.
use Rattle.std.specs.Prelude.{ℕ, suc, ◌+◌, ◌-◌, ◌*◌, ◌/◌, ◌%◌, ◌≤◌, ◌<◌, List, ◌≡◌, refl, length}
use Rattle.std.proofs.Common.{sym, ap, ◌∙◌, mod-lt, le-leb, lt-ltb}
use Rattle.std.proofs.Math.Decide.{dec_lt}
use Rattle.std.proofs.Math.Nat.{div-add-mod}
use native.Mathlib.Omega.{arith, by_contra}
use Rattle.model.specs.Shares.{greatest_share, sum_of}
use Rattle.model.specs.Figures.{met, apart, figures_of, deviation, spread}
use Rattle.model.specs.Levels.{clamp, clamped, growth}
use Rattle.model.specs.Ways.{topped, evened}
use Rattle.model.specs.Plans.{has_plan}
use Rattle.model.proofs.Laws.Pairs.{pairs_same}
use Rattle.model.proofs.Laws.Level.{total_at_mono, total_at_greatest}
use Rattle.model.specs.declared.Limits.{Limits}
use Rattle.breakpoints.specs.declared.rows.Row.{Row}
use Rattle.probe.specs.declared.pinned.Reach.{Reach}
use Rattle.breakpoints.specs.Inner.Rows.{row_at, last_row}
use Rattle.breakpoints.specs.Inner.Tables.{SoundWithTotal, Breakpoints}
use Rattle.probe.specs.Inner.Pinned.{Pin, Reached}
use Rattle.probe.specs.Inner.Probes.{pinned_total, LastWithin, InReach, Divided}
use Rattle.probe.specs.Laws.Pinned.{reached_sum, reached_figures}
use Rattle.probe.specs.Laws.Probes.{pinned_total_lem, growing, reached}
use Rattle.probe.specs.Laws.Verdicts.{greatest_total_lem, decided}

-- what is left over at a row can be divided
division : (row : Row) (low high left : ℕ) → (0 < left → row.highs + growth low high row.mark < row.lows)
    → (reach : Reach) × Divided row low high left reach
division row low high left more =
    elim (dec_lt 0 left) [
      | yes some ↦
          let moving : ℕ = row.lows - (row.highs + growth low high row.mark) in
          let rises = more some in (
            record { growing = moving; copies = left; each = left / moving; level = row.mark + left / moving; over = left % moving },
            record {
              all = refl;
              level = refl;
              divides = div-add-mod _ _;
              none = λ e. absurd (omega arith);
              some = λ h. (omega arith, mod-lt _ (omega arith));
            },
          )
      | no none ↦ (
        record { growing = 0; copies = left; each = 0; level = row.mark + 0; over = 0 },
        record { all = refl; level = refl; divides = omega arith; none = λ e. (refl, refl, refl); some = λ h. absurd (omega arith) },
      )
    ]

-- shares of which every sum is the same have the same figures
sums_figures : (n total : ℕ) (xs ys : List ℕ) → ((f : ℕ → ℕ) → sum_of f xs ≡ sum_of f ys) → figures_of n total xs ≡ figures_of n total ys
unfolding deviation spread
sums_figures n total xs ys same = rw (same (λ x. apart (n * x) total), same (λ x. x * x), pairs_same xs ys same)

-- a range that reaches from a row's level to the next one's
pub record Covers (table : List ℕ) (k low high : ℕ) : Type 0 where
  pub under : low ≤ (row_at table k).mark
  pub over : (row_at table (suc k)).mark ≤ high

module _ {lows highs table : List ℕ} {total : ℕ} (sound : SoundWithTotal lows highs total) (held : Breakpoints lows highs table) where
  -- a row with another after it is found only for a value in reach
  found_reach : {lows' highs' : List ℕ} {low high v k : ℕ} → Pin lows highs low high v lows' highs' → k < last_row table
      → LastWithin table (last_row table) low high v total k → InReach table (last_row table) low high v total
  found_reach {lows'} {highs'} {low} {high} {v} {k} pin follows found = record {
    least = omega (
      arith,
      pinned_total_lem sound held pin 0 (omega arith),
      held.first,
      total_at_mono lows' highs' (row_at table 0).mark (row_at table k).mark (omega (arith, held.first)),
      pinned_total_lem sound held pin k found.up_to,
      found.holds,
    );
    greatest = omega (
      arith,
      found.next follows,
      pinned_total_lem sound held pin (suc k) follows,
      total_at_mono lows' highs' (row_at table (suc k)).mark greatest_share (held.sums (suc k) follows).share,
      total_at_greatest pin.ranges,
      greatest_total_lem sound pin held,
    );
  }

  module _ {low high low' high' k : ℕ} (follows : k < last_row table) (covers : Covers table k low high) (covers' : Covers table k low' high') where
    abbrev row : Row
    row = row_at table k

    abbrev next : Row
    next = row_at table (suc k)

    rises : row.mark ≤ next.mark
    rises = (held.spans k follows).rises

    -- T is the same for both at the row and at the next one
    same_here : (v : ℕ) → pinned_total row low high v ≡ pinned_total row low' high' v
    unfolding pinned_total
    same_here v =
        let at : clamp low high row.mark ≡ row.mark = omega (arith, rises, covers.under, covers.over) in
        let at' : clamp low' high' row.mark ≡ row.mark = omega (arith, rises, covers'.under, covers'.over) in
        rw (at, at')

    same_next : (v : ℕ) → pinned_total next low high v ≡ pinned_total next low' high' v
    unfolding pinned_total
    same_next v =
        let at : clamp low high next.mark ≡ next.mark = omega (arith, rises, covers.under, covers.over) in
        let at' : clamp low' high' next.mark ≡ next.mark = omega (arith, rises, covers'.under, covers'.over) in
        rw (at, at')

    -- so that the row serves both
    pub found_alike : {v : ℕ} → LastWithin table (last_row table) low high v total k → LastWithin table (last_row table) low' high' v total k
    found_alike {v} found = record {
      up_to = found.up_to;
      holds = rw (same_here v) at found.holds;
      next = λ less. rw (same_next v) at (found.next less);
    }

    module _ {v : ℕ} {lows₁ highs₁ lows₂ highs₂ : List ℕ} (pin : Pin lows highs low high v lows₁ highs₁) (pin' : Pin lows highs low' high' v lows₂ highs₂)
        (found : LastWithin table (last_row table) low high v total k) where
      abbrev left : ℕ
      left = total - pinned_total row low high v

      -- every sum at the row's level is the same for both pinned groups
      sums_alike : (f : ℕ → ℕ) → sum_of f (clamped lows₁ highs₁ row.mark) ≡ sum_of f (clamped lows₂ highs₂ row.mark)
      sums_alike f =
          let at : clamp low high row.mark ≡ row.mark = omega (arith, rises, covers.under, covers.over) in
          let at' : clamp low' high' row.mark ≡ row.mark = omega (arith, rises, covers'.under, covers'.over) in
          omega (arith, rw at at (pin.sums f row.mark), rw at' at (pin'.sums f row.mark))

      -- where copies are left over, the next row's level is higher, so that both members grow
      higher : 0 < left → row.mark < next.mark
      higher some = by_contra _ _ (λ none. omega (
        arith,
        found.next follows,
        pinned_total_lem sound held pin k found.up_to,
        pinned_total_lem sound held pin (suc k) follows,
        total_at_mono lows₁ highs₁ next.mark row.mark (omega arith),
      ))

      grow_alike : 0 < left → growth low high row.mark ≡ growth low' high' row.mark
      grow_alike some =
          let less = higher some in
          rw (
            le-leb low row.mark covers.under,
            le-leb low' row.mark covers'.under,
            lt-ltb row.mark high (omega (arith, covers.over)),
            lt-ltb row.mark high' (omega (arith, covers'.over)),
          )

      -- so what one divides, the other does
      divided_alike : {reach : Reach} → Divided row low high left reach → Divided row low' high' (total - pinned_total row low' high' v) reach
      divided_alike divided = rw (← same_here v) (record {
        all = divided.all;
        level = divided.level;
        divides = divided.divides;
        none = divided.none;
        some = λ some. rw (← grow_alike some) (divided.some some);
      })

      enough : total ≤ pinned_total (row_at table (last_row table)) low high v
      enough = (found_reach pin follows found).greatest

      enough' : total ≤ pinned_total (row_at table (last_row table)) low' high' v
      enough' = (found_reach pin' follows (found_alike found)).greatest

      -- both levelled groups have the same figures
      figures_alike : figures_of (length lows₁) total (evened lows₁ highs₁ total) ≡ figures_of (length lows₂) total (evened lows₂ highs₂ total)
      figures_alike =
          let (reach, divided) = division row low high left (growing sound held pin found enough) in
          let one : Reached lows₁ highs₁ total row.mark reach.growing reach.level reach.over = reached sound held pin found enough reach divided in
          let other : Reached lows₂ highs₂ total row.mark reach.growing reach.level reach.over =
          reached sound held pin' (found_alike found) enough' reach (divided_alike divided) in
          let same : (f : ℕ → ℕ) → sum_of f (topped lows₁ highs₁ reach.level reach.over) ≡ sum_of f (topped lows₂ highs₂ reach.level reach.over) =
          (λ f. omega (arith, reached_sum pin.ranges one f, reached_sum pin'.ranges other f, sums_alike f)) in
          rw (pin.count, pin'.count)
          (reached_figures pin.ranges one (length lows) ∙ sums_figures (length lows) total _ _ same ∙ sym (reached_figures pin'.ranges other (length lows)))

      -- and both have a plan, or none has
      pub alike : (limits : Limits) → has_plan lows₁ highs₁ total limits ≡ has_plan lows₂ highs₂ total limits
      alike limits =
          sym (decided sound pin held limits (found_reach pin follows found).least enough refl)
          ∙ ap (met limits) figures_alike
          ∙ decided sound pin' held limits (found_reach pin' follows (found_alike found)).least enough' refl
