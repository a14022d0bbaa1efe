-- A settled job that is changed to allow less settles as the job itself with that change. Assumes nothing.
use mathlib.Core.List.{List, Memᴰ}
use Rattle.std.proofs.Math.Option.{none, some}
use Rattle.std.specs.Prelude.{◌≡◌, refl, ℕ}
use Rattle.std.proofs.Common.{sym, ap, ◌∙◌}
use Rattle.model.specs.Groups.{Group}
use Rattle.works.specs.Consistency.{SoundOpening, Consistent}
use Rattle.member_ranges.specs.Laws.Inside.{inside_both, inside_trans}
use Rattle.works.proofs.Laws.Settled.{settled_inside, settled_consistent, settled_greatest, refused_exactly}
use Rattle.works.specs.Settling.{Outcome, settled_table, settle}
use Rattle.member_ranges.specs.Tables.{Table, Valid, Inside}

-- groups that hold all of a job's groups are at rest in no table in which those are not
pub more_stricter : {groups others : List Group} → ((group : Group) → Memᴰ group groups → Memᴰ group others)
    → (inner : Table) → Consistent others inner → Consistent groups inner
more_stricter among inner consistent = record {
  valid = consistent.valid;
  each = λ group member. consistent.each group (among group member);
}

-- a table that is settled, groups that are at rest in no table in which the job's own are not, and a table inside the opening one
module _ {groups others : List Group} {opening final : Table} {passes : ℕ} (sound : SoundOpening groups opening)
    (settles : settle groups opening ≡ Outcome.settled final passes) (stricter : (inner : Table) → Consistent others inner → Consistent groups inner)
    {shut : Table} (sound_shut : SoundOpening others shut) (inside : Inside shut opening) where
  -- a consistent table inside the second lies inside the settled one too
  kept : (inner : Table) → Consistent others inner → Inside inner shut → Inside inner final
  kept inner consistent below = settled_greatest sound settles inner (stricter inner consistent) (inside_trans below inside)

  -- where they have nothing in common, settling the second is refused for want of a plan
  pub settled_apart : ((inner : Table) → Valid inner → Inside inner shut → Inside inner final → ⊥) → settled_table (settle others shut) ≡ none
  settled_apart apart =
      (refused_exactly sound_shut).1 (λ inner consistent below. apart inner consistent.valid below (kept inner consistent below))

  -- else settling it, or what they have in common, gives the same table, or both are refused for want of a plan
  pub settled_onward : {both : Table} → SoundOpening others both → Inside both shut
      → ((inner : Table) → Inside inner shut → Inside inner final → Inside inner both)
      → settled_table (settle others shut) ≡ settled_table (settle others both)
  settled_onward {both} sound_both within common = by_outcomes (settle others shut) refl (settle others both) refl
    where
      below : {one : Table} {p : ℕ} → settle others shut ≡ Outcome.settled one p → Inside one both
      below a = common _ (settled_inside sound_shut a) (kept _ (settled_consistent sound_shut a) (settled_inside sound_shut a))

      above : {other : Table} {q : ℕ} → settle others both ≡ Outcome.settled other q → Inside other shut
      above b = inside_trans (settled_inside sound_both b) within

      by_outcomes : (a : Outcome) → settle others shut ≡ a → (b : Outcome) → settle others both ≡ b
          → settled_table (settle others shut) ≡ settled_table (settle others both)
      by_outcomes (Outcome.settled one p) a (Outcome.settled other q) b =
          let up : Inside one other = settled_greatest sound_both b one (settled_consistent sound_shut a) (below a) in
          let down : Inside other one = settled_greatest sound_shut a other (settled_consistent sound_both b) (above b) in
          ap settled_table a ∙ ap some (inside_both up down) ∙ sym (ap settled_table b)
      by_outcomes (Outcome.settled one p) a (Outcome.refused m j q) b =
          absurd ((refused_exactly sound_both).0 (ap settled_table b) one (settled_consistent sound_shut a) (below a))
      by_outcomes (Outcome.refused m j p) a (Outcome.settled other q) b =
          absurd ((refused_exactly sound_shut).0 (ap settled_table a) other (settled_consistent sound_both b) (above b))
      by_outcomes (Outcome.refused m j p) a (Outcome.refused n k q) b = ap settled_table a ∙ sym (ap settled_table b)
