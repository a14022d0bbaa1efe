-- The promises of settling for the call on a text: its answer, and the table that it leaves. Assumes nothing.
use Rattle.std.specs.Prelude.{ℕ, Result, Ok, Err, suc, ◌≤◌, List, ◌++◌, ◌↔◌, ◌≡◌, refl, length, take, drop}
use Rattle.std.proofs.Common.{sym, ap, ◌∙◌, arith, length-append, length-drop, take-append-drop, length-take-le, take_at, drop_at}
use Rattle.std.proofs.lemmas.List.{length-map}
use Rattle.model.specs.Running.{Marked}
use Rattle.works.specs.Calls.{Settlement, settlement, leaving, settle_job, settle_text, WantOfPlan}
use Rattle.works.specs.Consistency.{SoundOpening, Apart}
use Rattle.works.specs.Resting.{ShutOpening, running_group, running_groups, AtRest, NoneAtRest}
use Rattle.works.specs.Settling.{Outcome, settle}
use Rattle.member_ranges.specs.Tables.{Table, low_of, high_of, width, Inside}
use Rattle.works.specs.declared.Unsettled.{Unsettled}
use Rattle.works.specs.declared.Unsettled.TheVariants.{NoPlan}
use Rattle.works.proofs.Laws.Accepted.{accepted_groups}
use Rattle.works.proofs.Laws.Checked.{Roomy, passed_room, passed_ranges, passed_marked}
use Rattle.member_ranges.specs.Laws.Inside.{same_ranges}
use Rattle.works.proofs.Laws.Refusals.{settle_refusal}
use Rattle.works.proofs.Laws.Resting.{running_sound, settled_opening, settled_rest, settled_widest, settled_apart, refused_at_rest}
use Rattle.works.proofs.Laws.Settled.{settled_inside, passes_bound}
use Rattle.works.specs.Called.{Cleared, passes_in, groups, marks, count, opening, called, after, WithoutPlan}

-- what a settlement answers
pub says : {s : Settlement} {answer : Result ℕ Unsettled} {lows highs : List ℕ} → s ≡ settlement answer lows highs → s.answer ≡ answer
says is = ap (λ (s : Settlement). s.answer) is

module _ {text lows highs : List ℕ} {scratch : ℕ} (cleared : Cleared text lows highs scratch) where
  -- the lists are long enough
  pub roomed : Roomy (count cleared) (length lows) (length highs) scratch
  roomed = passed_room (marks cleared) (count cleared) lows highs scratch cleared.passes

  -- the groups are sound over the opening table, whose shut units are at 0 to 0
  pub opening_shut : ShutOpening (marks cleared) (groups cleared) (opening cleared)
  opening_shut =
      accepted_groups text cleared.found cleared.reads
      (passed_ranges (marks cleared) (count cleared) lows highs scratch cleared.passes).ranges
      (passed_marked (marks cleared) (count cleared) lows highs scratch cleared.passes)

  -- so are the running groups
  pub opening_sound : SoundOpening (running_groups (marks cleared) (groups cleared)) (opening cleared)
  opening_sound = running_sound opening_shut

  -- the call is the settling
  pub called_is : called cleared ≡ leaving (settle (running_groups (marks cleared) (groups cleared)) (opening cleared)) (count cleared) lows highs
  unfolding settle_text settle_job
  called_is = rw (settle_text, cleared.reads, cleared.passes)

  -- how the call ends: settled, with the table that it leaves, or for want of a plan, with the table as it was
  pub data CallEnds : Type 0 where
    settled : (passes : ℕ) → settle (running_groups (marks cleared) (groups cleared)) (opening cleared) ≡ Outcome.settled (after cleared) passes
        → called cleared
        ≡ settlement (Ok passes) ((after cleared).lows ++ drop (count cleared) lows) ((after cleared).highs ++ drop (count cleared) highs)
        → CallEnds
    refused : (number place passes : ℕ) → settle (running_groups (marks cleared) (groups cleared)) (opening cleared) ≡ Outcome.refused number place passes
        → called cleared ≡ settlement (Err (NoPlan number place passes)) lows highs → CallEnds

  -- the units of the settled table are the opening table's
  pub first_count : {final : Table} {passes : ℕ} → settle (running_groups (marks cleared) (groups cleared)) (opening cleared) ≡ Outcome.settled final passes
      → length final.lows ≡ count cleared
  first_count is =
      (settled_inside opening_sound is).same_lows
      ∙ length-take-le (count cleared) lows roomed.for_lows

  -- highs too
  pub second_count : {final : Table} {passes : ℕ} → settle (running_groups (marks cleared) (groups cleared)) (opening cleared) ≡ Outcome.settled final passes
      → length final.highs ≡ count cleared
  second_count is =
      (settled_inside opening_sound is).same_highs
      ∙ length-take-le (count cleared) highs roomed.for_highs

  by_outcome : (outcome : Outcome) → settle (running_groups (marks cleared) (groups cleared)) (opening cleared) ≡ outcome → CallEnds
  by_outcome (Outcome.settled final passes) is =
      let left : called cleared
      ≡ settlement (Ok passes) (final.lows ++ drop (count cleared) lows) (final.highs ++ drop (count cleared) highs) = called_is ∙ rw is in
      let low_ends : (after cleared).lows ≡ final.lows =
      ap (λ (s : Settlement). take (count cleared) s.lows) left
      ∙ take_at final.lows (drop (count cleared) lows) (count cleared) (first_count is) in
      let high_ends : (after cleared).highs ≡ final.highs =
      ap (λ (s : Settlement). take (count cleared) s.highs) left
      ∙ take_at final.highs (drop (count cleared) highs) (count cleared) (second_count is) in
      let same : after cleared ≡ final = same_ranges low_ends high_ends in
      CallEnds.settled passes (rw same is) (rw (low_ends, high_ends) left)
  by_outcome (Outcome.refused number place passes) is =
      CallEnds.refused number place passes is (called_is ∙ rw (is, take-append-drop (count cleared) lows, take-append-drop (count cleared) highs))

  -- the call ends so
  pub ends : CallEnds
  ends = by_outcome (settle (running_groups (marks cleared) (groups cleared)) (opening cleared)) refl

  -- which is not settled
  pub settled_not : {passes : ℕ} → (called cleared).answer ≡ Ok passes → WithoutPlan cleared → ⊥
  settled_not answers (number, place, count, refuses) = let z : ◌≡◌ {A = ℕ} 0 1 = cc in omega arith

  -- where the answer is settled
  module _ {passes : ℕ} (answers : (called cleared).answer ≡ Ok passes) where
    -- the outcome of settling is the table that the call leaves
    pub called_settled : settle (running_groups (marks cleared) (groups cleared)) (opening cleared) ≡ Outcome.settled (after cleared) passes
    called_settled = settles ends
      where
        settles : CallEnds → settle (running_groups (marks cleared) (groups cleared)) (opening cleared) ≡ Outcome.settled (after cleared) passes
        settles (CallEnds.settled count is said) = let same : count ≡ passes = cc (says said) in rw (← same) is
        settles (CallEnds.refused number place count is said) = absurd (let z : ◌≡◌ {A = ℕ} 0 1 = cc (says said) in omega arith)

    -- the settled table lies inside the opening one
    pub called_inside : Inside (after cleared) (opening cleared)
    called_inside = settled_inside opening_sound called_settled

    -- it is at rest
    pub called_consistent : AtRest (marks cleared) (groups cleared) (after cleared)
    called_consistent = settled_rest opening_shut called_settled

    -- its shut units are at 0 to 0
    pub called_shut : Marked (marks cleared) (after cleared).lows (after cleared).highs
    called_shut = (settled_opening opening_shut called_settled).shut

    -- every table at rest inside the opening one lies inside it
    pub called_greatest : (inner : Table) → AtRest (marks cleared) (groups cleared) inner → Inside inner (opening cleared) → Inside inner (after cleared)
    called_greatest = settled_widest opening_shut called_settled

    -- units in no group keep their range
    pub called_untouched : (unit : ℕ) → Apart (groups cleared) unit
        → (low_of (after cleared) unit ≡ low_of (opening cleared) unit) × (high_of (after cleared) unit ≡ high_of (opening cleared) unit)
    called_untouched = settled_apart opening_shut called_settled

  -- refused for want of a plan exactly if no table inside the opening one is at rest
  pub called_refused : WithoutPlan cleared ↔ NoneAtRest (marks cleared) (groups cleared) (opening cleared)
  called_refused = (refuses ends, back ends)
    where
      refuses : CallEnds → WithoutPlan cleared → NoneAtRest (marks cleared) (groups cleared) (opening cleared)
      refuses (CallEnds.settled count is said) without = absurd (settled_not (says said) without)
      refuses (CallEnds.refused number place passes is said) without = (refused_at_rest opening_shut).0 (rw is)

      back : CallEnds → NoneAtRest (marks cleared) (groups cleared) (opening cleared) → WithoutPlan cleared
      back (CallEnds.settled count is said) none =
          absurd (none (after cleared) (settled_rest opening_shut is) (settled_inside opening_sound is))
      back (CallEnds.refused number place passes is said) none = (number, place, passes, says said)

  -- then it says 11 or 12 and the place of a group, and the table holds what it held
  pub called_refusal : {number place passes : ℕ} → (called cleared).answer ≡ Err (NoPlan number place passes)
      → (WantOfPlan number × (1 ≤ place) × (place ≤ length (groups cleared))) × (called cleared ≡ settlement (Err (NoPlan number place passes)) lows highs)
  called_refusal {number} {place} {passes} answers = refuses ends
    where
      refuses : CallEnds → (WantOfPlan number × (1 ≤ place) × (place ≤ length (groups cleared)))
          × (called cleared ≡ settlement (Err (NoPlan number place passes)) lows highs)
      refuses (CallEnds.settled count is said) = absurd (let z : ◌≡◌ {A = ℕ} 0 1 = cc (says said) in omega arith)
      refuses (CallEnds.refused other there count is said) =
          let same : Err (NoPlan other there count) ≡ Err (NoPlan number place passes) = sym (says said) ∙ answers in
          let at_number : other ≡ number = cc in
          let at_place : there ≡ place = cc in
          let at_passes : count ≡ passes = cc in
          let says_so = settle_refusal (running_groups (marks cleared) (groups cleared)) (opening cleared) other there count is in
          let among : there ≤ length (groups cleared) = omega (arith, says_so.2, length-map (groups cleared) (running_group (marks cleared))) in
          (rw (← at_number, ← at_place) (says_so.0, says_so.1, among), said ∙ rw (at_number, at_place, at_passes))

  -- the passes are at most 1 plus the sum of high − low over the opening table
  pub called_bound : passes_in (called cleared).answer ≤ suc (width (opening cleared))
  called_bound = bound ends
    where
      bound : CallEnds → passes_in (called cleared).answer ≤ suc (width (opening cleared))
      bound (CallEnds.settled passes is said) = rw said (rw is at (passes_bound opening_sound))
      bound (CallEnds.refused number place passes is said) = rw said (rw is at (passes_bound opening_sound))

  -- entries past the units keep their values
  pub called_past : (drop (count cleared) (called cleared).lows ≡ drop (count cleared) lows)
      × (drop (count cleared) (called cleared).highs ≡ drop (count cleared) highs)
  called_past = past ends
    where
      past : CallEnds → (drop (count cleared) (called cleared).lows ≡ drop (count cleared) lows)
          × (drop (count cleared) (called cleared).highs ≡ drop (count cleared) highs)
      past (CallEnds.settled passes is said) = (
        ap (λ (s : Settlement). drop (count cleared) s.lows) said
            ∙ drop_at (after cleared).lows (drop (count cleared) lows) (count cleared) (first_count is),
        ap (λ (s : Settlement). drop (count cleared) s.highs) said
            ∙ drop_at (after cleared).highs (drop (count cleared) highs) (count cleared) (second_count is),
      )
      past (CallEnds.refused number place passes is said) =
          (ap (λ (s : Settlement). drop (count cleared) s.lows) said, ap (λ (s : Settlement). drop (count cleared) s.highs) said)

  -- the lists keep their lengths
  pub called_lengths : (length (called cleared).lows ≡ length lows) × (length (called cleared).highs ≡ length highs)
  called_lengths = lengths ends
    where
      lengths : CallEnds → (length (called cleared).lows ≡ length lows) × (length (called cleared).highs ≡ length highs)
      lengths (CallEnds.settled passes is said) =
          let room = roomed in (
            ap (λ (s : Settlement). length s.lows) said
                ∙ simp (length-append, length-drop) (omega (arith, first_count is, room.for_lows)),
            ap (λ (s : Settlement). length s.highs) said
                ∙ simp (length-append, length-drop) (omega (arith, second_count is, room.for_highs)),
          )
      lengths (CallEnds.refused number place passes is said) =
          (ap (λ (s : Settlement). length s.lows) said, ap (λ (s : Settlement). length s.highs) said)
