-- A group's turn by its parts: the running members' ranges gathered, narrowed and written back. Assumes nothing.
use Rattle.std.specs.Prelude.{ℕ, ◌≤◌, List, ◌++◌, ◌≡◌, length, take}
use Rattle.std.proofs.Common.{ap, ◌∙◌, arith}
use Rattle.narrow.specs.Inner.Turns.{Turned}
use Rattle.model.specs.Sound as one
use Rattle.model.proofs.Laws.Sound as laws
use Rattle.groups.specs.Memberships.{size}
use Rattle.model.specs.Groups.{Group}
use Rattle.model.proofs.Laws.Lists.{ranges_length}
use Rattle.model.specs.Shares.{most_units}
use Rattle.model.specs.declared.Turn.{Turn}
use Rattle.model.specs.declared.Turn.TheVariants.{Narrowed, NoPlan}
use Rattle.member_ranges.specs.Inner.Members.{Listed, RunningGathered, running_members}
use Rattle.works.specs.Inner.Asked.{Turning}
use Rattle.works.specs.Resting.{running_group}
use Rattle.works.specs.Settling.{revised_by, narrowed, revise}
use Rattle.member_ranges.specs.Tables.{Table, table_of, units, gather, scatter, lows_of, highs_of}
use Rattle.member_ranges.specs.Laws.Members.{gather_length}
use Rattle.works.proofs.Laws.Shut.{running_members_lem}
use Rattle.works.proofs.Laws.Sizes.{size_few}
use Rattle.works.proofs.Laws.Turns.{gathered}
use Rattle.member_ranges.specs.Laws.Writing.{scatter_front}

module _ {table : Table} {group : Group} (turning : Turning table group) where
  -- the members are at most 256
  pub count_few : size group ≤ most_units
  count_few = omega (arith, size_few turning.sound, turning.few)

  -- each has a mark and a range
  pub members_listed : {members marks : List ℕ} → members ≡ group.members → length marks ≡ units table
      → Listed members marks table.lows table.highs
  members_listed is_members many =
      rw is_members
      (record {
        few = count_few;
        for_marks = record { below = λ k h. omega (arith, turning.sound.below k h) };
        for_lows = record { below = turning.sound.below };
        for_highs = record { below = λ k h. omega (arith, turning.sound.below k h, ranges_length turning.valid) };
      })

  -- the running members' ranges are those of one group
  pub gathered_sound : (marks : List ℕ) {lows highs : List ℕ} → lows ≡ lows_of table (running_group marks group)
      → highs ≡ highs_of table (running_group marks group) → one.SoundRanges lows highs
  gathered_sound marks is_lows is_highs =
      let sound = running_members_lem marks group turning.sound in
      rw (is_lows, is_highs)
      (laws.sound (gathered table (running_group marks group) turning.valid sound)
      (omega (arith, size_few sound, turning.few, gather_length table.lows (running_group marks group).members)))

-- a group's turn on lists that hold its members' ranges: the narrowed ranges are written back; where there is no plan, it hands back the refusal
turn_taken : (table : Table) (group : Group) {lows highs : List ℕ} → lows ≡ lows_of table group → highs ≡ highs_of table group
    → (turn : Turn) {next_lows next_highs narrow_lows narrow_highs : List ℕ}
    → Turned lows highs group.total group.limits turn narrow_lows narrow_highs
    → next_lows ≡ scatter table.lows group.members narrow_lows → next_highs ≡ scatter table.highs group.members narrow_highs
    → revised_by turn (table_of next_lows next_highs) ≡ revise table group
unfolding revise narrowed
turn_taken table group is_lows is_highs Narrowed turned low_writes high_writes =
    rw (low_writes, high_writes, turned.lows_are, turned.highs_are, ← is_lows, ← is_highs, ← turned.answer)
turn_taken table group is_lows is_highs (NoPlan number) turned low_writes high_writes = rw (← is_lows, ← is_highs, ← turned.answer)

-- the lists handed on are the group's members and their marks
module _ (table : Table) (group : Group) (marks : List ℕ) {members listed : List ℕ} (is_members : members ≡ group.members) (is_marks : listed ≡ marks) where
  same_running : running_members listed members ≡ (running_group marks group).members
  same_running = rw (is_members, is_marks)

  module _ {member_lows member_highs : List ℕ} {count : ℕ}
      (held : RunningGathered members listed table.lows table.highs member_lows member_highs count) where
    -- the first numbers of the working lists are the running members' ranges
    pub lows_held : take count member_lows ≡ lows_of table (running_group marks group)
    lows_held = held.lows_are ∙ ap (gather table.lows) same_running

    pub highs_held : take count member_highs ≡ highs_of table (running_group marks group)
    highs_held = held.highs_are ∙ ap (gather table.highs) same_running

    -- narrowed, and written back from the front of the working lists
    pub turn_running : (turn : Turn) {next_lows next_highs narrow_lows narrow_highs : List ℕ} (rest_lows rest_highs : List ℕ)
        → Turned (take count member_lows) (take count member_highs) group.total group.limits turn narrow_lows narrow_highs
        → length narrow_lows ≡ length (take count member_lows) → length narrow_highs ≡ length (take count member_highs)
        → next_lows ≡ scatter table.lows (running_members listed members) (narrow_lows ++ rest_lows)
        → next_highs ≡ scatter table.highs (running_members listed members) (narrow_highs ++ rest_highs)
        → revised_by turn (table_of next_lows next_highs) ≡ revise table (running_group marks group)
    turn_running turn {narrow_lows = narrow_lows} {narrow_highs = narrow_highs} rest_lows rest_highs turned low_size high_size low_writes high_writes =
        turn_taken table (running_group marks group) lows_held highs_held turn turned
        (low_writes
        ∙ scatter_front table.lows (running_members listed members) narrow_lows rest_lows
        (low_size ∙ ap length held.lows_are ∙ gather_length table.lows (running_members listed members))
        ∙ ap (λ (ms : List ℕ). scatter table.lows ms narrow_lows) same_running)
        (high_writes
        ∙ scatter_front table.highs (running_members listed members) narrow_highs rest_highs
        (high_size ∙ ap length held.highs_are ∙ gather_length table.highs (running_members listed members))
        ∙ ap (λ (ms : List ℕ). scatter table.highs ms narrow_highs) same_running)
