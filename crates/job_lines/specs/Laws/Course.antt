-- The group lines of a flat list in the course of being written. Assumes nothing.
use Rattle.std.specs.Prelude.{ℕ, ◌+◌, ◌≤◌, ◌<◌, ◌≡◌, refl, drop}
use mathlib.Core.List.{List, [], ◌∷◌, map, flatten}
use Rattle.std.proofs.Common.{arith}
use Rattle.groups.specs.Inner.Flat.{stored_at, group_in, groups_in, Holds}
use Rattle.groups.specs.Laws.Walk.{Walk, Next, walk_start, walk_end, walk_next}
use Rattle.groups.specs.declared.Stored.{Stored}
use Rattle.job.specs.Sound.{AcceptedGroup, AcceptedGroups}
use Rattle.model.specs.Groups.{Group}
use Rattle.model.specs.Shares.{most_units}
use Rattle.print.specs.Inner.Written.{Room, Wrote}
use Rattle.print.specs.Laws.Written.{Rest, begin, next, done}
use Rattle.member_ranges.specs.Tables.{Named}
use Rattle.job_lines.specs.Texts.{member_line}

-- groups accepted for fewer units are accepted for more
pub accepted_more : {few many : ℕ} {groups : List Group} → few ≤ many → AcceptedGroups few groups → AcceptedGroups many groups
accepted_more more AcceptedGroups.none = AcceptedGroups.none
accepted_more {many = many} more (AcceptedGroups.also {g} first others) =
    let again : AcceptedGroup many g = record {
      total_fits = first.total_fits;
      deviation_fits = first.deviation_fits;
      spread_fits = first.spread_fits;
      pairs_fits = first.pairs_fits;
      unsaid_any = first.unsaid_any;
      sound = record {
        some = first.sound.some;
        named = record { below = λ k h. omega (arith, first.sound.named.below k h); different = first.sound.named.different };
      };
    } in
    AcceptedGroups.also again (accepted_more more others)

-- the first of accepted groups, and those after it
first_accepted : {units : ℕ} {g : Group} {gs : List Group} → AcceptedGroups units (g ∷ gs) → AcceptedGroup units g
first_accepted (AcceptedGroups.also first others) = first

others_accepted : {units : ℕ} {g : Group} {gs : List Group} → AcceptedGroups units (g ∷ gs) → AcceptedGroups units gs
others_accepted (AcceptedGroups.also first others) = others

module _ (flat : List ℕ) (count : ℕ) (entry : List ℕ) (start : ℕ) where
  abbrev groups : List Group
  groups = groups_in count flat

  abbrev all : List ℕ
  all = flatten (map member_line groups)

  -- so many lines are written, and the group after them starts at an index: the lines that are left
  pub record Course (buffer : List ℕ) (at from number : ℕ) : Type 0 where
    pub walk : Walk flat count from number
    pub sound : AcceptedGroups most_units (drop number groups)
    pub rest : Rest all entry start (map member_line (drop number groups)) buffer at

  -- at first all lines are left
  pub course_start : Holds count flat → AcceptedGroups most_units groups → Room entry start all → Course entry start 0 0
  course_start holds sound room = record { walk = walk_start flat count holds; sound = sound; rest = begin _ refl room }

  -- at last none
  pub course_end : {buffer : List ℕ} {at from number : ℕ} → Course buffer at from number → count ≤ number → Wrote all entry start buffer at
  unfolding flatten
  course_end {number = number} course end =
      let none : flatten (map member_line (drop number groups)) ≡ [] = rw (walk_end flat count course.walk end) in
      done none course.rest

  -- a group's line comes
  module _ {buffer : List ℕ} {at from number : ℕ} (course : Course buffer at from number) (some : number < count)
      {stored : Stored} (read : stored ≡ stored_at flat from) where
    abbrev group : Group
    group = group_in flat stored

    pub coming : Next flat count number stored
    coming = walk_next flat count course.walk some read

    sound_next : AcceptedGroups most_units (group ∷ drop (number + 1) groups)
    sound_next = rw coming.first at course.sound

    -- its members are units
    pub named_next : Named most_units group.members
    named_next = record { below = (first_accepted sound_next).sound.named.below }

    -- it is the first of the lines left
    pub rest_next : Rest all entry start (member_line group ∷ map member_line (drop (number + 1) groups)) buffer at
    rest_next = rw coming.first at course.rest

    -- once it is written, those after it are left
    pub course_next : {exit : List ℕ} {to : ℕ} → Wrote (member_line group) buffer at exit to → Course exit to stored.next (number + 1)
    course_next wrote = record { walk = coming.onward; sound = others_accepted sound_next; rest = next rest_next wrote }
