-- Calls on a text repeated: over the settled table, and on a text with the same groups. Assumes nothing.
use Rattle.std.specs.Prelude.{ℕ, Ok, ◌↔◌, ◌≡◌}
use mathlib.Core.List.{List, Memᴰ}
use Rattle.std.proofs.Math.Option.{none, some}
use Rattle.std.proofs.Common.{sym, ap, ◌∙◌, arith, take-append-drop}
use Rattle.job.proofs.Laws.Sound.{accepted_sound}
use Rattle.model.specs.Groups.{Group}
use Rattle.works.specs.Calls.{Settlement, settlement, settle_text}
use Rattle.works.specs.Resting.{running_groups}
use Rattle.works.specs.Settling.{settled_table, settle}
use Rattle.member_ranges.specs.Tables.{Table}
use Rattle.works.specs.Called.{Cleared, groups, marks, count, opening, called, after, WithoutPlan}
use Rattle.works.proofs.Laws.Called.{CallEnds, roomed, opening_sound, called_is, ends, called_settled, called_consistent, called_shut, called_lengths, says, settled_not}
use Rattle.works.proofs.Laws.Checked.{ranges_pass}
use Rattle.works.proofs.Laws.Resting.{running_same}
use Rattle.works.proofs.Laws.Settled.{settled_again, any_order}

-- over the settled table
module _ {text lows highs : List ℕ} {scratch : ℕ} (cleared : Cleared text lows highs scratch) {passes : ℕ}
    (answers : (called cleared).answer ≡ Ok passes) where
  -- the checks let the settled table through
  abbrev pub settled_cleared : Cleared text (called cleared).lows (called cleared).highs scratch
  settled_cleared = record {
    found = cleared.found;
    reads = cleared.reads;
    passes = ranges_pass (marks cleared) (count cleared) (called cleared).lows (called cleared).highs scratch
        (accepted_sound text cleared.found cleared.reads).some_unit
        (accepted_sound text cleared.found cleared.reads).built.few_units
        (let room = roomed cleared in
        record {
          for_lows = omega (arith, called_lengths cleared, room.for_lows);
          for_highs = omega (arith, called_lengths cleared, room.for_highs);
          for_scratch = room.for_scratch;
        })
        (called_consistent cleared answers).valid
        (called_shut cleared answers);
  }

  -- settling a settled table takes one pass and changes nothing
  pub called_again : settle_text text (called cleared).lows (called cleared).highs scratch ≡ settlement (Ok 1) (called cleared).lows (called cleared).highs
  called_again =
      called_is settled_cleared
      ∙ rw (
        settled_again (opening_sound cleared) (called_settled cleared answers),
        take-append-drop (count cleared) (called cleared).lows,
        take-append-drop (count cleared) (called cleared).highs,
      )

-- two jobs with as many units, the same of them shut, and with the same groups, over one table
module _ {text other lows highs : List ℕ} {scratch room : ℕ} (first : Cleared text lows highs scratch) (second : Cleared other lows highs room)
    (same_units : count first ≡ count second) (same_marks : marks first ≡ marks second)
    (same_groups : (group : Group) → Memᴰ group (groups first) ↔ Memᴰ group (groups second)) where
  same_table_lem : settled_table (settle (running_groups (marks first) (groups first)) (opening first))
      ≡ settled_table (settle (running_groups (marks second) (groups second)) (opening second))
  same_table_lem =
      any_order (opening_sound first) (running_same (marks first) same_groups)
      ∙ ap (λ (ms : List ℕ). settled_table (settle (running_groups ms (groups second)) (opening first))) same_marks
      ∙ rw same_units

  -- both give the same settled table, or both are refused for want of a plan
  pub called_same_groups : ((called first).lows ≡ (called second).lows) × ((called first).highs ≡ (called second).highs) × (WithoutPlan first ↔ WithoutPlan second)
  called_same_groups = agree (ends first) (ends second)
    where
      agree : CallEnds first → CallEnds second
          → ((called first).lows ≡ (called second).lows) × ((called first).highs ≡ (called second).highs) × (WithoutPlan first ↔ WithoutPlan second)
      agree (CallEnds.settled p a s) (CallEnds.settled q b t) =
          let tables : some (after first) ≡ some (after second) = rw (a, b) at same_table_lem in
          let same : after first ≡ after second = cc in (
            ap (λ (x : Settlement). x.lows) s
                ∙ (rw (ap (λ (x : Table). x.lows) same, same_units))
                ∙ sym (ap (λ (x : Settlement). x.lows) t),
            ap (λ (x : Settlement). x.highs) s
                ∙ (rw (ap (λ (x : Table). x.highs) same, same_units))
                ∙ sym (ap (λ (x : Settlement). x.highs) t),
            (λ without. absurd (settled_not first (says s) without), λ without. absurd (settled_not second (says t) without)),
          )
      agree (CallEnds.settled p a s) (CallEnds.refused n k q b t) =
          absurd (let differ : some (after first) ≡ none = rw (a, b) at same_table_lem in let z : ◌≡◌ {A = ℕ} 0 1 = cc in omega arith)
      agree (CallEnds.refused n k p a s) (CallEnds.settled q b t) =
          absurd (let differ : none ≡ some (after second) = rw (a, b) at same_table_lem in let z : ◌≡◌ {A = ℕ} 0 1 = cc in omega arith)
      agree (CallEnds.refused m j p a s) (CallEnds.refused n k q b t) = (
        ap (λ (x : Settlement). x.lows) s ∙ sym (ap (λ (x : Settlement). x.lows) t),
        ap (λ (x : Settlement). x.highs) s ∙ sym (ap (λ (x : Settlement). x.highs) t),
        (λ without. (n, k, q, says t), λ without. (m, j, p, says s)),
      )
