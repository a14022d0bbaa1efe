-- The line up to the members, their numbers, and both closing brackets. Assumes nothing.
use Prim.Native.Nat.{ℕ, suc, ◌+◌, ◌-◌}
use mathlib.Core.List.{List, [], ◌∷◌, map, flatten}
use mathlib.Core.Path.{◌≡◌, refl}
use lib.ListN.{take, drop}
use Rattle.groups.specs.Inner.Flat.{group_in}
use Rattle.form.specs.Form.{group_ending}
use Rattle.model.specs.Groups.{Group}
use Rattle.print.specs.Inner.Written.{Room}
use Rattle.print.specs.Items.{items}
use Rattle.print.specs.Laws.Written.{Rest, begin, room_next, next, done}
use Rattle.member_ranges.specs.Laws.Parts.{part}
use Rattle.job_lines.specs.Inner.Pieces.{group_head}
use Rattle.job_lines.specs.Laws.Pieces.{group_printed}
use Rattle.job_lines.specs.Texts.{heading_of, member_line}
use Rattle.job_lines.proofs.put_member_line.Goals as goal
use Rattle.job_lines.proofs.put_member_line.Goals.{Start}

parts : (g : Group) {buffer : List ℕ} {at : ℕ} → Room buffer at (member_line g)
    → Rest (member_line g) buffer at
    (group_head (heading_of g.total g.limits g.pairs_there) ∷ items (map suc g.members) ∷ group_ending ∷ [])
    buffer at
parts g room = begin _ (group_printed g) room

module _ (start : Start) where
  abbrev group : Group
  group = group_in start.args.flat.now start.args.group

  -- the pieces of the line, at the start
  left : Rest (member_line group) start.args.page.now.bytes.now start.args.page.now.at
      (group_head (heading_of group.total group.limits group.pairs_there) ∷ items (map suc group.members) ∷ group_ending ∷ [])
      start.args.page.now.bytes.now start.args.page.now.at
  left = parts group start.requires.room

  -- the members lent are the group's
  members : take (start.args.group.from + start.args.group.count - start.args.group.from) (drop start.args.group.from start.args.flat.now)
      ≡ group.members
  members = part start.args.group.from start.args.group.count start.args.flat.now

pub put_head-requires : goal.put_head-requires
put_head-requires c = room_next (left (goal.at.put_head-requires c).Start)

pub put_members-requires : goal.put_members-requires
put_members-requires c =
    let here = (goal.at.put_members-requires c).Start in
    rw (members here) (record { named = c.requires.named; room = room_next (next (left here) c.put_head.ensures.wrote) })

pub word-requires : goal.word-requires
word-requires c =
    room_next (next (next (left (goal.at.word-requires c).Start) c.put_head.ensures.wrote) (rw (members (goal.at.word-requires c).Start) at c.put_members.ensures.wrote))

pub returns-clause-wrote : goal.returns-clause-wrote
unfolding flatten
returns-clause-wrote c =
    let opened = next (left (goal.at.returns-clause-wrote c).Start) c.put_head.ensures.wrote in
    let listed = next opened (rw (members (goal.at.returns-clause-wrote c).Start) at c.put_members.ensures.wrote) in
    done refl (next listed c.word.ensures.wrote)
