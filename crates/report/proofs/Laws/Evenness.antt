-- The group lines of a report have evenest shares, and the figures of before item 6 of 02. Assumes nothing.
use Rattle.std.specs.Prelude.{ℕ, suc, ◌≤◌, ◌≡◌, refl}
use mathlib.Core.List.{List, [], ◌∷◌, Memᴰ}
use Rattle.std.proofs.Common.{subst, le_refl}
use Rattle.model.specs.Groups.{Group}
use Rattle.model.proofs.Laws.HeadroomFirst.{levelled_first}
use Rattle.model.proofs.Laws.Levelled.{shares_exist, levelled_way}
use Rattle.model.proofs.Laws.Lists.{ranges_at}
use Rattle.model.proofs.Laws.Shut.{levelled_marked, marked_least_above, marked_figures_before}
use Rattle.model.specs.Levels.{levelled}
use Rattle.model.specs.Ways.{evened}
use Rattle.model.specs.declared.Figures.{Figures}
use Rattle.model.specs.Running.{Marked, marked_figures}
use Rattle.model.specs.Shares.{Ranges}
use Rattle.groups.specs.Memberships.{SoundGroup, unit_of}
use Rattle.works.proofs.Laws.Resting.{members_marked, settled_opening, settled_rest}
use Rattle.works.proofs.Laws.Turns.{gathered}
use Rattle.works.specs.Resting.{ShutOpening, marks_of, running_groups, AtRest}
use Rattle.works.specs.Settling.{Outcome, settle}
use Rattle.member_ranges.specs.Tables.{Table, units, low_of, high_of, lows_of, highs_of}
use Rattle.report.specs.Reports.{levelled_line, group_lines}
use Rattle.report.specs.Lines.{group_line}
use Rattle.report.specs.Evenness.{level_in, Evenest, EvenLines}
use Rattle.report.specs.Before.{group_lines_before, SameButShares}

module _ {marks : List ℕ} {groups : List Group} {table : Table} (sound : ShutOpening marks groups table) (rest : AtRest marks groups table) where
  -- the levelled shares are evenest
  pub levelled_evenest : (group : Group) → Memᴰ group groups
      → Evenest marks table group (levelled (lows_of table group) (highs_of table group) group.total)
  levelled_evenest group member =
      let one : SoundGroup (units table) group = sound.each group member in
      let ranges : Ranges (lows_of table group) (highs_of table group) = gathered table group sound.valid one.named in
      let marked : Marked (marks_of marks group) (lows_of table group) (highs_of table group) =
      members_marked sound.valid sound.shut group one.named in
      let unit : ℕ = unit_of group 0 in
      let low : ℕ = low_of table unit in
      let below : low ≤ high_of table unit = (ranges_at sound.valid unit (one.named.below 0 one.some)).0 in
      let taken = rest.taken group member 0 one.some low (le_refl low) below in
      let between = (shares_exist ranges group.total).0 (taken.0, taken.1.within, taken.1.adds) in
      record {
        plan = levelled_marked marked ranges group.total group.limits taken.1;
        least = λ xs plan t. marked_least_above marked ranges group.total plan.within plan.adds t;
        handed = levelled_way ranges group.total between.0 between.1;
        headroom = levelled_first (lows_of table group) (highs_of table group) group.total;
      }

  -- and have the figures of before
  figures_before : (group : Group) → Memᴰ group groups
      → marked_figures (marks_of marks group) group.total (levelled (lows_of table group) (highs_of table group) group.total)
      ≡ marked_figures (marks_of marks group) group.total (evened (lows_of table group) (highs_of table group) group.total)
  figures_before group member =
      let one : SoundGroup (units table) group = sound.each group member in
      let ranges : Ranges (lows_of table group) (highs_of table group) = gathered table group sound.valid one.named in
      let plan = (levelled_evenest group member).plan in
      let between = (shares_exist ranges group.total).0 (_, plan.within, plan.adds) in
      marked_figures_before (members_marked sound.valid sound.shut group one.named) ranges group.total between.0 between.1

-- so each line says what it should
lines_even : (marks : List ℕ) (table : Table) (number : ℕ) (groups : List Group)
    → ((group : Group) → Memᴰ group groups → Evenest marks table group (levelled (lows_of table group) (highs_of table group) group.total))
    → EvenLines marks table number groups (group_lines marks number table groups)
unfolding group_lines levelled_line
lines_even marks table number [] evenest = EvenLines.none
lines_even marks table number (group ∷ groups) evenest =
    EvenLines.also {number = number} (levelled (lows_of table group) (highs_of table group) group.total)
    (evenest group (Memᴰ.head refl))
    (lines_even marks table (suc number) groups (λ other member. evenest other (Memᴰ.tail member)))

-- the group lines of a settled table
pub settled_lines : {marks : List ℕ} {groups : List Group} {table final : Table} {passes : ℕ} → ShutOpening marks groups table
    → settle (running_groups marks groups) table ≡ Outcome.settled final passes
    → EvenLines marks final 1 groups (group_lines marks 1 final groups)
settled_lines {marks} {groups} {table} {final} sound settles =
    lines_even marks final 1 groups (levelled_evenest (settled_opening sound settles) (settled_rest sound settles))

-- item 6 of 02 moved nothing in them but shares
lines_before_lem : (marks : List ℕ) (table : Table) (number : ℕ) (groups : List Group)
    → ((group : Group) → Memᴰ group groups
    → marked_figures (marks_of marks group) group.total (levelled (lows_of table group) (highs_of table group) group.total)
    ≡ marked_figures (marks_of marks group) group.total (evened (lows_of table group) (highs_of table group) group.total))
    → SameButShares (group_lines marks number table groups) (group_lines_before marks number table groups)
unfolding group_lines levelled_line group_lines_before
lines_before_lem marks table number [] same = SameButShares.none
lines_before_lem marks table number (group ∷ groups) same =
    let shares : List ℕ = levelled (lows_of table group) (highs_of table group) group.total in
    let were : List ℕ = evened (lows_of table group) (highs_of table group) group.total in
    let figures : Figures = marked_figures (marks_of marks group) group.total shares in
    let rest = lines_before_lem marks table (suc number) groups (λ other member. same other (Memᴰ.tail member)) in
    subst (λ (f : Figures). SameButShares (group_line number (level_in table group) figures shares ∷ group_lines marks (suc number) table groups)
    (group_line number (level_in table group) f were ∷ group_lines_before marks (suc number) table groups))
    (same group (Memᴰ.head refl))
    (SameButShares.also number (level_in table group) figures shares were rest)

-- so it is for every settled table
pub settled_before : {marks : List ℕ} {groups : List Group} {table final : Table} {passes : ℕ} → ShutOpening marks groups table
    → settle (running_groups marks groups) table ≡ Outcome.settled final passes
    → SameButShares (group_lines marks 1 final groups) (group_lines_before marks 1 final groups)
settled_before {marks} {groups} {table} {final} sound settles =
    lines_before_lem marks final 1 groups (figures_before (settled_opening sound settles) (settled_rest sound settles))
