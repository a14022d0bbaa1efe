-- Tables at rest for a job with shut units are those of its running groups. Assumes nothing.
use Rattle.std.specs.Prelude.{ℕ, ◌≤◌, ◌<◌, false, ◌↔◌, ◌⊎◌, ◌≡◌, length, get_or}
use mathlib.Core.List.Memᴰ
use mathlib.Core.List.{List, Memᴰ}
use Rattle.std.proofs.Common.{inl, inr, ◌∙◌, le_refl, arith}
use Rattle.std.proofs.Math.Option.{none}
use Rattle.groups.specs.Memberships.{SoundMembers, size, unit_of}
use Rattle.model.specs.Groups.{Group}
use Rattle.model.proofs.Laws.Lists.{within_length, ranges_at}
use Rattle.model.proofs.Laws.Marked.{Ranked, ranked, unranked, running_at, restored_at, restored_shut, marked_shut, marked_plan, plan_marked}
use Rattle.model.proofs.Laws.Running.{marked_length}
use Rattle.model.specs.Running.{runs, running, restored, Marked}
use Rattle.works.specs.Consistency.{SoundOpening, PlanIn, Supported, Consistent, Apart}
use Rattle.works.specs.Resting.{ShutOpening, marks_of, running_group, running_groups, PlanFrom, AtRest, NoneAtRest}
use Rattle.works.specs.Settling.{Outcome, settled_table, settle}
use Rattle.member_ranges.specs.Tables.{Table, Valid, units, low_of, high_of, Inside, lows_of, highs_of}
use Rattle.member_ranges.specs.Laws.Members.{gather_length, gather_at}
use Rattle.works.proofs.Laws.Settled.{settled_inside, settled_consistent, settled_greatest, untouched, refused_exactly, consistent_settles}
use Rattle.works.proofs.Laws.Shut.{gather_running, one_mark, running_place, gather_marked, inside_marked, running_opening}

-- one group over a table whose shut units are at 0 to 0
module _ {marks : List ℕ} {table : Table} (valid : Valid table) (shut : Marked marks table.lows table.highs)
    (group : Group) (sound : SoundMembers (units table) group) where
  -- each member has its range's mark
  pub members_marked : Marked (marks_of marks group) (lows_of table group) (highs_of table group)
  members_marked = gather_marked shut group.members (λ k h. omega (arith, sound.below k h, (marked_length shut).0))

  -- plans of the running members are plans of the group
  plan_in : {xs : List ℕ} → PlanFrom marks table group xs → PlanIn table (running_group marks group) (running (marks_of marks group) xs)
  plan_in plan =
      rw (
        gather_running table.lows (marks_of marks group) group.members,
        gather_running table.highs (marks_of marks group) group.members,
      )
      (marked_plan members_marked plan)

  plan_from : {ys : List ℕ} → PlanIn table (running_group marks group) ys → PlanFrom marks table group (restored (marks_of marks group) ys)
  plan_from plan =
      plan_marked members_marked
      (rw (
        gather_running table.lows (marks_of marks group) group.members,
        gather_running table.highs (marks_of marks group) group.members,
      )
      at plan)

  abbrev Taken : Type 0
  Taken = (k : ℕ) → k < size group → (v : ℕ) → low_of table (unit_of group k) ≤ v → v ≤ high_of table (unit_of group k)
      → (xs : List ℕ) × PlanFrom marks table group xs × (get_or xs k 0 ≡ v)

  -- a share for each mark
  shares_many : {xs : List ℕ} → PlanFrom marks table group xs → length xs ≡ length (marks_of marks group)
  shares_many plan =
      omega (arith, (within_length plan.within).0, gather_length table.lows group.members, gather_length marks group.members)

  -- where every value of a member's range is taken, the running group is supported
  pub taken_supported : 0 < size group → Taken → Supported table (running_group marks group)
  taken_supported some taken = record {
    planned =
        let (xs, plan, value) = taken 0 some _ (le_refl _) (ranges_at valid (unit_of group 0) (sound.below 0 some)).0 in
        (_, plan_in plan);
    taken = λ j h v low high.
        let (i, r, among) = unranked (marks_of marks group) group.members (one_mark marks group) j h in
        let unit = (running_at r group.members (one_mark marks group)).0 in
        let (xs, plan, value) = taken i (omega (arith, one_mark marks group)) v (rw unit at low) (rw unit at high) in
        (_, plan_in plan, (running_at r xs (shares_many plan)).0 ∙ value);
  }

  -- where the running group is supported, every value of a member's range is taken
  pub supported_taken : Supported table (running_group marks group) → Taken
  supported_taken supported k h v low high = by (ranked (marks_of marks group) k (omega (arith, one_mark marks group)))
    where
      by : (runs (get_or (marks_of marks group) k 0) ≡ false) ⊎ ((j : ℕ) × Ranked (marks_of marks group) k j)
          → (xs : List ℕ) × PlanFrom marks table group xs × (get_or xs k 0 ≡ v)
      by (inl off) =
          let (ys, plan) = supported.planned in
          let (lowest, highest) = marked_shut members_marked k (omega (arith, one_mark marks group)) off in
          let nothing : v ≡ 0 = omega (arith, gather_at table.highs group.members k h) in
          (_, plan_from plan, rw nothing (restored_shut (marks_of marks group) ys k off))
      by (inr (j, r)) =
          let (unit, below) = running_at r group.members (one_mark marks group) in
          let (ys, plan, value) = supported.taken j below v (rw unit low) (rw unit high) in
          let many : j < length ys = omega (arith, (within_length plan.within).0, gather_length table.lows (running_group marks group).members) in
          (_, plan_from plan, restored_at r ys many ∙ value)

module _ {marks : List ℕ} {groups : List Group} {table : Table} (sound : ShutOpening marks groups table) where
  -- the running groups are sound
  pub running_sound : SoundOpening (running_groups marks groups) table
  running_sound = running_opening marks (record { valid = sound.valid; each = λ group member. (sound.each group member).named })

  -- each table of ranges inside opens such a settling
  pub shut_inside : {inner : Table} → Valid inner → Inside inner table → ShutOpening marks groups inner
  shut_inside valid inside = record {
    valid = valid;
    shut = inside_marked sound.shut valid inside;
    each = λ group member. rw inside.same_lows (sound.each group member);
  }

  -- a table at rest is consistent for the running groups
  pub rest_consistent : AtRest marks groups table → Consistent (running_groups marks groups) table
  rest_consistent rest = record {
    valid = sound.valid;
    each = λ group member.
        let (whole, among, same) = Memᴰ.of_map (running_group marks) groups member in
        let is = sound.each whole among in
        rw (← same) (taken_supported sound.valid sound.shut whole is.named is.some (rest.taken whole among));
  }

  -- and the other way round
  pub consistent_rest : Consistent (running_groups marks groups) table → AtRest marks groups table
  consistent_rest consistent = record {
    valid = sound.valid;
    taken = λ group member.
        supported_taken sound.valid sound.shut group (sound.each group member).named
        (consistent.each (running_group marks group) (Memᴰ.map (running_group marks) member));
  }

-- a unit in no group is in no running group
pub running_apart : {groups : List Group} (marks : List ℕ) {unit : ℕ} → Apart groups unit → Apart (running_groups marks groups) unit
running_apart {groups} marks {unit} apart group member placed =
    let (whole, among, same) = Memᴰ.of_map (running_group marks) groups member in
    apart whole among (running_place marks whole (rw (← same) at placed))

-- groups that are the same but for their order have the same running groups
pub running_same : (marks : List ℕ) {groups others : List Group} → ((group : Group) → Memᴰ group groups ↔ Memᴰ group others)
    → (group : Group) → Memᴰ group (running_groups marks groups) ↔ Memᴰ group (running_groups marks others)
running_same marks {groups} {others} same group = (
  λ member.
      let (whole, among, is) = Memᴰ.of_map (running_group marks) groups member in
      rw (← is) (Memᴰ.map (running_group marks) ((same whole).0 among)),
  λ member.
      let (whole, among, is) = Memᴰ.of_map (running_group marks) others member in
      rw (← is) (Memᴰ.map (running_group marks) ((same whole).1 among)),
)

-- settling the running groups
module _ {marks : List ℕ} {groups : List Group} {table : Table} (sound : ShutOpening marks groups table) where
  module _ {final : Table} {passes : ℕ} (settles : settle (running_groups marks groups) table ≡ Outcome.settled final passes) where
    -- the settled table has its shut units at 0 to 0
    pub settled_opening : ShutOpening marks groups final
    settled_opening =
        shut_inside sound (settled_consistent (running_sound sound) settles).valid (settled_inside (running_sound sound) settles)

    -- it is at rest
    pub settled_rest : AtRest marks groups final
    settled_rest = consistent_rest settled_opening (settled_consistent (running_sound sound) settles)

    -- every table at rest inside the opening one lies inside it
    pub settled_widest : (inner : Table) → AtRest marks groups inner → Inside inner table → Inside inner final
    settled_widest inner rest inside =
        settled_greatest (running_sound sound) settles inner (rest_consistent (shut_inside sound rest.valid inside) rest) inside

    -- units in no group keep their range
    pub settled_apart : (unit : ℕ) → Apart groups unit
        → (low_of final unit ≡ low_of table unit) × (high_of final unit ≡ high_of table unit)
    settled_apart unit apart = untouched (running_sound sound) settles unit (running_apart marks apart)

  -- settling is refused for want of a plan exactly if no table inside the opening one is at rest
  pub refused_at_rest : settled_table (settle (running_groups marks groups) table) ≡ none ↔ NoneAtRest marks groups table
  refused_at_rest =
      let (there, back) = refused_exactly (running_sound sound) in (
        λ is inner rest inside. there is inner (rest_consistent (shut_inside sound rest.valid inside) rest) inside,
        λ nowhere. back (λ inner consistent inside.
            nowhere inner (consistent_rest (shut_inside sound consistent.valid inside) consistent) inside),
      )

  -- settling a table at rest takes one pass and changes nothing
  pub rest_settles : AtRest marks groups table → settle (running_groups marks groups) table ≡ Outcome.settled table 1
  rest_settles rest = consistent_settles (running_sound sound) (rest_consistent sound rest)
