-- One group's turn: it shrinks the table, keeps every consistent table inside, and changes nothing only where its group is supported.
-- Assumes nothing.
use Rattle.std.specs.Prelude.{ℕ, ◌≤◌, ◌<◌, true, List, length, get_or}
use Rattle.std.proofs.Math.Path.{◌≡◌, refl}
use Rattle.std.proofs.Common.{ap, ◌∙◌, arith}
use Rattle.std.proofs.Math.Nat.{le_refl}
use Rattle.model.specs.Groups.{Group}
use Rattle.model.specs.Narrowing as keeping
use Rattle.model.proofs.Laws.Keeping.{plan_widen}
use Rattle.model.proofs.Laws.Lists.{ranges_length, ranges_at, ranges_of}
use Rattle.model.proofs.Laws.Narrowing as narrowing
use Rattle.model.proofs.Laws.Plans.{plan_found, found_plan}
use Rattle.model.proofs.Laws.Turns.{found_turn, turn_found}
use Rattle.model.specs.Plans.{has_plan, turn_of, narrowed_low, narrowed_high}
use Rattle.model.specs.Shares.{Ranges}
use Rattle.model.specs.declared.Turn.{Turn}
use Rattle.model.specs.declared.Turn.TheVariants.{Narrowed, NoPlan}
use Rattle.works.specs.Consistency.{Supported, PlanIn}
use Rattle.works.specs.Settling.{Revised, revised_by, narrowed, revise}
use Rattle.member_ranges.specs.Tables.{Table, Valid, units, low_of, high_of, Inside, Place, scatter, lows_of, highs_of}
use Rattle.member_ranges.specs.Laws.Members.{gather_length, gather_at, scatter_length, scatter_other, scatter_at, place}
use Rattle.groups.specs.Memberships.{SoundMembers, size, unit_of}

module _ (table : Table) (group : Group) (valid : Valid table) (sound : SoundMembers (units table) group) where
  -- whether the group has a plan, and what narrowing keeps of member k
  abbrev Found : Type 0
  Found = has_plan (lows_of table group) (highs_of table group) group.total group.limits ≡ true

  abbrev kept_low : ℕ → ℕ
  kept_low k = narrowed_low (lows_of table group) (highs_of table group) group.total group.limits k

  abbrev kept_high : ℕ → ℕ
  kept_high k = narrowed_high (lows_of table group) (highs_of table group) group.total group.limits k

  -- one low a member
  counted : {k : ℕ} → k < size group → k < length (lows_of table group)
  counted h = omega (arith, gather_length table.lows group.members)

  -- the members' ranges are ranges
  pub gathered : Ranges (lows_of table group) (highs_of table group)
  gathered =
      ranges_of (lows_of table group) (highs_of table group)
      (omega (arith, gather_length table.lows group.members, gather_length table.highs group.members)) (λ k h.
      let below : k < size group = omega (arith, gather_length table.lows group.members) in
      rw (gather_at table.lows group.members k below, gather_at table.highs group.members k below)
      (ranges_at valid (unit_of group k) (sound.below k below)))

  -- an entry of a member's unit after the values of a rule are scattered
  entry_at : (entries values : List ℕ) (rule : ℕ → ℕ) → length entries ≡ units table → length values ≡ length (lows_of table group)
      → ((k : ℕ) → k < length (lows_of table group) → get_or values k 0 ≡ rule k)
      → (k : ℕ) → k < size group → get_or (scatter entries group.members values) (unit_of group k) 0 ≡ rule k
  entry_at entries values rule count as_many ruled k h =
      scatter_at entries group.members values (as_many ∙ gather_length table.lows group.members)
      (λ j p. omega (arith, sound.below j p)) sound.different k h
      ∙ ruled k (counted h)

  -- the narrowed table at a member's unit
  low_at : (k : ℕ) → k < size group → low_of (narrowed table group) (unit_of group k) ≡ kept_low k
  unfolding narrowed
  low_at =
      entry_at table.lows _ kept_low refl
      (narrowing.narrowed_lows_length (lows_of table group) (highs_of table group) group.total group.limits)
      (narrowing.narrowed_lows_at (lows_of table group) (highs_of table group) group.total group.limits)

  high_at : (k : ℕ) → k < size group → high_of (narrowed table group) (unit_of group k) ≡ kept_high k
  unfolding narrowed
  high_at =
      entry_at table.highs _ kept_high (ranges_length valid)
      (narrowing.narrowed_highs_length (lows_of table group) (highs_of table group) group.total group.limits)
      (narrowing.narrowed_highs_at (lows_of table group) (highs_of table group) group.total group.limits)

  -- and at any other unit
  other_at : (unit : ℕ) → (Place group.members unit → ⊥)
      → (low_of (narrowed table group) unit ≡ low_of table unit) × (high_of (narrowed table group) unit ≡ high_of table unit)
  unfolding narrowed
  other_at unit apart =
      (scatter_other table.lows group.members _ unit apart, scatter_other table.highs group.members _ unit apart)

  -- what holds of each member's narrowed range and of each other unit's range holds of each unit's range after the turn
  at_each : (P : ℕ → ℕ → ℕ → Type 0)
      → ((k : ℕ) → k < size group → P (unit_of group k) (kept_low k) (kept_high k))
      → ((unit : ℕ) → P unit (low_of table unit) (high_of table unit))
      → (unit : ℕ) → P unit (low_of (narrowed table group) unit) (high_of (narrowed table group) unit)
  at_each P member other unit =
      elim (place group.members unit) [
        | yes p ↦ rw (← p.2, low_at p.0 p.1, high_at p.0 p.1) (member p.0 p.1)
        | no apart ↦ rw ((other_at unit apart).0, (other_at unit apart).1) (other unit)
      ]

  module _ (found : Found) where
    -- each member's range narrows
    kept : (k : ℕ) → k < size group
        → (low_of table (unit_of group k) ≤ kept_low k) × (kept_low k ≤ kept_high k) × (kept_high k ≤ high_of table (unit_of group k))
    kept k h =
        rw (← gather_at table.lows group.members k h, ← gather_at table.highs group.members k h)
        (narrowing.kept_inside gathered group.total group.limits found k (counted h))

    -- so the narrowed table lies inside
    narrowed_inside : Inside (narrowed table group) table
    narrowed_inside =
        record {
          same_lows = unfold narrowed in scatter_length table.lows group.members _;
          same_highs = unfold narrowed in scatter_length table.highs group.members _;
          above = at_each (λ unit l h. low_of table unit ≤ l) (λ k h. (kept k h).0) (λ unit. le_refl _);
          below = at_each (λ unit l h. h ≤ high_of table unit) (λ k h. (kept k h).2) (λ unit. le_refl _);
        }

    -- and is valid
    narrowed_valid : Valid (narrowed table group)
    narrowed_valid =
        ranges_of _ _ (omega (arith, narrowed_inside, ranges_length valid)) (λ unit h.
        let among : unit < units table = omega (arith, narrowed_inside.same_lows) in
        omega (
          arith,
          ranges_at valid unit among,
          narrowed_inside.below unit,
          at_each (λ unit l h. unit < units table → l ≤ h) (λ k h u. (kept k h).1) (λ unit u. (ranges_at valid unit u).0) unit among,
        ))

  -- a table inside this one that the group supports
  module _ {inner : Table} (ranged : Valid inner) (supported : Supported inner group) (inside : Inside inner table) where
    -- the members' ranges there lie inside those here
    gathered_inside : keeping.RangesInside (lows_of inner group) (highs_of inner group) (lows_of table group) (highs_of table group)
    gathered_inside =
        record {
          same_lows = omega (arith, gather_length inner.lows group.members, gather_length table.lows group.members);
          same_highs = omega (arith, gather_length inner.highs group.members, gather_length table.highs group.members);
          at = λ k h.
              let below : k < size group = omega (arith, gather_length table.lows group.members) in
              rw (
                gather_at inner.lows group.members k below,
                gather_at inner.highs group.members k below,
                gather_at table.lows group.members k below,
                gather_at table.highs group.members k below,
              )
              (inside.above _, inside.below _);
        }

    -- each value of a member's range there is taken by a plan here
    wider : (k : ℕ) → k < size group → (v : ℕ) → low_of inner (unit_of group k) ≤ v → v ≤ high_of inner (unit_of group k)
        → (xs : List ℕ) × PlanIn table group xs × (get_or xs k 0 ≡ v)
    wider k h v low high =
        let (xs, plan, value) = supported.taken k h v low high in
        (xs, plan_widen gathered_inside plan, value)

    ordered : (k : ℕ) → k < size group → low_of inner (unit_of group k) ≤ high_of inner (unit_of group k)
    ordered k h = (ranges_at ranged (unit_of group k) (omega (arith, sound.below k h, inside.same_lows))).0

    -- the group has a plan
    supported_found : Found
    supported_found = let (xs, plan) = supported.planned in plan_found gathered (plan_widen gathered_inside plan)

    -- the values of each member's range there are kept
    kept_around : (k : ℕ) → k < size group → (kept_low k ≤ low_of inner (unit_of group k)) × (high_of inner (unit_of group k) ≤ kept_high k)
    kept_around k h =
        let (xs, low, first) = wider k h _ (le_refl _) (ordered k h) in
        let (ys, high, last) = wider k h _ (ordered k h) (le_refl _) in
        omega (
          arith,
          narrowing.taken_kept gathered group.total group.limits low k (counted h),
          narrowing.taken_kept gathered group.total group.limits high k (counted h),
        )

    -- so the turn leaves that table inside
    supported_keeps : Inside inner (narrowed table group)
    supported_keeps =
        record {
          same_lows = omega (arith, inside.same_lows, (narrowed_inside supported_found).same_lows);
          same_highs = omega (arith, inside.same_highs, (narrowed_inside supported_found).same_highs);
          above = at_each (λ unit l h. l ≤ low_of inner unit) (λ k h. (kept_around k h).0) inside.above;
          below = at_each (λ unit l h. high_of inner unit ≤ h) (λ k h. (kept_around k h).1) inside.below;
        }

  -- the turn answers the narrowed table exactly where the group has a plan
  found_revised : Found → revise table group ≡ Revised.revised (narrowed table group)
  unfolding revise
  found_revised found = rw (found_turn (lows_of table group) (highs_of table group) group.total group.limits found)

  revised_found : {next : Table} → revise table group ≡ Revised.revised next → Found × (next ≡ narrowed table group)
  unfolding revise
  revised_found {next} answer =
      let (turn, same) = answered (turn_of (lows_of table group) (highs_of table group) group.total group.limits) answer in
      (turn_found (lows_of table group) (highs_of table group) group.total group.limits turn, same)
    where
      answered : (turn : Turn) → revised_by turn (narrowed table group) ≡ Revised.revised next
          → (turn ≡ Narrowed) × (next ≡ narrowed table group)
      answered Narrowed e = (refl, cc)
      answered (NoPlan number) e = absurd (let z : ◌≡◌ {A = ℕ} 0 1 = cc in omega arith)

  -- a turn leaves a table inside the one that it met
  pub turn_inside : {next : Table} → revise table group ≡ Revised.revised next → Inside next table
  turn_inside answer = let (found, same) = revised_found answer in rw same (narrowed_inside found)

  -- a valid one
  pub turn_valid : {next : Table} → revise table group ≡ Revised.revised next → Valid next
  turn_valid answer = let (found, same) = revised_found answer in rw same (narrowed_valid found)

  -- that differs from it at members only
  pub turn_other : {next : Table} → revise table group ≡ Revised.revised next → (unit : ℕ) → (Place group.members unit → ⊥)
      → (low_of next unit ≡ low_of table unit) × (high_of next unit ≡ high_of table unit)
  turn_other answer unit apart = rw (revised_found answer).1 (other_at unit apart)

  -- a turn keeps every table inside that its group supports
  pub turn_keeps : {inner : Table} → Valid inner → Supported inner group → Inside inner table
      → (revise table group ≡ Revised.revised (narrowed table group)) × Inside inner (narrowed table group)
  turn_keeps ranged supported inside = (found_revised (supported_found ranged supported inside), supported_keeps ranged supported inside)

  -- a turn that changes nothing met a table that its group supports
  pub turn_quiet : revise table group ≡ Revised.revised table → Supported table group
  turn_quiet answer =
      let (found, same) = revised_found answer in
      record {
        planned = (_, found_plan gathered group.total group.limits found);
        taken = λ k h v low high.
            narrowing.kept_taken gathered group.total group.limits found k (counted h) v
            (omega (arith, low_at k h, ap (λ (t : Table). low_of t (unit_of group k)) same))
            (omega (arith, high_at k h, ap (λ (t : Table). high_of t (unit_of group k)) same));
      }
