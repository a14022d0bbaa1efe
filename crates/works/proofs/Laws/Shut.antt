-- Running members of a group, and the ranges of shut units. Assumes nothing.
use Prim.Native.Nat.{ℕ, zero, suc, ◌≤◌, ◌<◌}
use Rattle.std.specs.Prelude.{Bool, true, false, ◌⊎◌, ◌≡◌, length}
use mathlib.Core.List.Memᴰ
use mathlib.Core.List.{List, [], ◌∷◌}
use Rattle.std.proofs.Common.{inl, inr, sym, ◌∙◌, le_of_suc-le-suc, arith}
use Rattle.std.proofs.Math.Path.{refl, ap}
use Rattle.std.proofs.Math.Nat.{suc_inj}
use Rattle.std.proofs.Math.ListN.{get_or}
use Rattle.groups.specs.Memberships.{SoundMembers}
use Rattle.model.specs.Groups.{Group}
use Rattle.model.proofs.Laws.Marked.{Ranked, unranked, running_at}
use Rattle.model.proofs.Laws.Running.{running_run, running_skip, running_all}
use Rattle.model.specs.Running.{runs, running, Marked}
use Rattle.model.specs.Shares.{Ranges}
use Rattle.works.specs.Consistency.{SoundOpening}
use Rattle.works.specs.Resting.{marks_of, running_group, running_groups}
use Rattle.member_ranges.specs.Tables.{Table, Valid, Inside, Place, gather}
use Rattle.member_ranges.specs.Laws.Members.{gather_length}

-- the running members' entries are those that they have among all members
pub gather_running : (entries ms members : List ℕ) → gather entries (running ms members) ≡ running ms (gather entries members)
unfolding gather running
gather_running entries [] members = refl
gather_running entries (m ∷ ms) [] = refl
gather_running entries (m ∷ ms) (x ∷ members) = by (runs m) refl (gather_running entries ms members)
  where
    by : (b : Bool) → runs m ≡ b → gather entries (running ms members) ≡ running ms (gather entries members)
        → gather entries (running (m ∷ ms) (x ∷ members)) ≡ running (m ∷ ms) (get_or entries x 0 ∷ gather entries members)
    by true e rest =
        rw (running_run m e ms x members, running_run m e ms (get_or entries x 0) (gather entries members))
        (ap (λ (l : List ℕ). get_or entries x 0 ∷ l) rest)
    by false e rest = rw (running_skip m e ms x members, running_skip m e ms (get_or entries x 0) (gather entries members)) rest

-- one rank a member
same_rank : {ms : List ℕ} {i j k : ℕ} → Ranked ms i j → Ranked ms i k → j ≡ k
same_rank (Ranked.here p) (Ranked.here q) = refl
same_rank (Ranked.past p r) (Ranked.past q s) = ap suc (same_rank r s)
same_rank (Ranked.past p r) (Ranked.past_shut q s) = absurd (let z : ◌≡◌ {A = ℕ} 0 1 = cc in omega arith)
same_rank (Ranked.past_shut p r) (Ranked.past q s) = absurd (let z : ◌≡◌ {A = ℕ} 0 1 = cc in omega arith)
same_rank (Ranked.past_shut p r) (Ranked.past_shut q s) = same_rank r s

module _ (marks : List ℕ) (group : Group) where
  -- one mark a member
  pub one_mark : length group.members ≡ length (marks_of marks group)
  one_mark = sym (gather_length marks group.members)

  -- the running members of different units are different units
  pub running_members_lem : {count : ℕ} → SoundMembers count group → SoundMembers count (running_group marks group)
  running_members_lem sound = record {
    below = λ j h.
        let (i, r, among) = unranked (marks_of marks group) group.members one_mark j h in
        rw (running_at r group.members one_mark).0 (sound.below i (omega (arith, one_mark)));
    different = λ j k p q e.
        let (a, r, first) = unranked (marks_of marks group) group.members one_mark j p in
        let (b, s, second) = unranked (marks_of marks group) group.members one_mark k q in
        let same : a ≡ b =
        sound.different a b (omega (arith, one_mark)) (omega (arith, one_mark))
        (sym (running_at r group.members one_mark).0 ∙ e ∙ (running_at s group.members one_mark).0) in
        same_rank r (rw (← same) at s);
  }

  -- a running member is a member
  pub running_place : {unit : ℕ} → Place (running_group marks group).members unit → Place group.members unit
  running_place (j, h, e) =
      let (i, r, among) = unranked (marks_of marks group) group.members one_mark j h in
      (i, omega (arith, one_mark), sym (running_at r group.members one_mark).0 ∙ e)

  -- where no unit is shut, it is the group itself
  pub whole_group : ((unit : ℕ) → get_or marks unit 0 ≡ 0) → running_group marks group ≡ group
  unfolding gather
  whole_group all =
      ap (λ (members : List ℕ). record { total = group.total; limits = group.limits; pairs_there = group.pairs_there; members = members })
      (running_all (marks_of marks group) group.members one_mark (gather_zero group.members))
    where
      gather_zero : (members : List ℕ) (k : ℕ) → get_or (gather marks members) k 0 ≡ 0
      gather_zero [] k = refl
      gather_zero (m ∷ members) zero = all m
      gather_zero (m ∷ members) (suc k) = gather_zero members k

-- 02 changes no job without shut units: its groups are settled as they are
pub whole_groups : (marks : List ℕ) (groups : List Group) → ((unit : ℕ) → get_or marks unit 0 ≡ 0) → running_groups marks groups ≡ groups
whole_groups marks [] all = refl
whole_groups marks (group ∷ groups) all =
    ap (λ (g : Group). g ∷ running_groups marks groups) (whole_group marks group all)
    ∙ ap (λ (gs : List Group). group ∷ gs) (whole_groups marks groups all)

-- the running groups of sound ones are sound
pub running_opening : (marks : List ℕ) {groups : List Group} {table : Table} → SoundOpening groups table → SoundOpening (running_groups marks groups) table
running_opening marks {groups} sound = record {
  valid = sound.valid;
  each = λ group member.
      let (whole, among, same) = Memᴰ.of_map (running_group marks) groups member in
      rw (← same) (running_members_lem marks whole (sound.each whole among));
}

-- a unit runs, or is shut with the range 0 to 0
marked_at : {ms ls hs : List ℕ} → Marked ms ls hs → (i : ℕ) → i < length ms
    → (get_or ms i 0 ≡ 0) ⊎ ((get_or ms i 0 ≡ 1) × (get_or ls i 0 ≡ 0) × (get_or hs i 0 ≡ 0))
marked_at Marked.none i h = absurd (omega arith)
marked_at (Marked.run m) zero h = inl refl
marked_at (Marked.shut m) zero h = inr (refl, refl, refl)
marked_at (Marked.run m) (suc i) h = marked_at m i (le_of_suc-le-suc h)
marked_at (Marked.shut m) (suc i) h = marked_at m i (le_of_suc-le-suc h)

-- the marks of members are those of their ranges
pub gather_marked : {ms ls hs : List ℕ} → Marked ms ls hs → (members : List ℕ)
    → ((k : ℕ) → k < length members → get_or members k 0 < length ms) → Marked (gather ms members) (gather ls members) (gather hs members)
unfolding gather
gather_marked marked [] below = Marked.none
gather_marked {ms} {ls} {hs} marked (m ∷ members) below =
    by (marked_at marked m (below 0 (omega arith))) (gather_marked marked members (λ k h. below (suc k) (omega arith)))
  where
    by : (get_or ms m 0 ≡ 0) ⊎ ((get_or ms m 0 ≡ 1) × (get_or ls m 0 ≡ 0) × (get_or hs m 0 ≡ 0))
        → Marked (gather ms members) (gather ls members) (gather hs members)
        → Marked (get_or ms m 0 ∷ gather ms members) (get_or ls m 0 ∷ gather ls members) (get_or hs m 0 ∷ gather hs members)
    by (inl runs) rest = rw runs (Marked.run rest)
    by (inr (shut, low, high)) rest = rw (shut, low, high) (Marked.shut rest)

-- ranges below others have their shut units at 0 to 0 too
under_marked : {ms ls hs lows highs : List ℕ} → Marked ms ls hs → Ranges lows highs → length lows ≡ length ls
    → ((i : ℕ) → get_or highs i 0 ≤ get_or hs i 0) → Marked ms lows highs
under_marked Marked.none Ranges.none count under = Marked.none
under_marked Marked.none (Ranges.also p q r) count under = absurd (omega arith)
under_marked (Marked.run m) Ranges.none count under = absurd (omega arith)
under_marked (Marked.shut m) Ranges.none count under = absurd (omega arith)
under_marked (Marked.run m) (Ranges.also p q r) count under = Marked.run (under_marked m r (suc_inj count) (λ i. under (suc i)))
under_marked (Marked.shut m) (Ranges.also {l} {h} p q r) count under =
    let high : h ≡ 0 = omega (arith, under 0) in
    let low : l ≡ 0 = omega (arith, under 0) in
    rw (high, low) (Marked.shut (under_marked m r (suc_inj count) (λ i. under (suc i))))

-- a table of ranges inside another
pub inside_marked : {marks : List ℕ} {inner table : Table} → Marked marks table.lows table.highs → Valid inner → Inside inner table
    → Marked marks inner.lows inner.highs
inside_marked marked valid inside = under_marked marked valid inside.same_lows inside.below
