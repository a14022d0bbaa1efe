-- The head, the members, the ending; a line with no member is none. Assumes nothing.
use Rattle.std.proofs.Common.{sym}
use Rattle.text.specs.Parsed.{and_then, mapped}
use Rattle.text.specs.Laws.Parsed.{mapped_parsed, mapped_failed}
use Rattle.form.specs.Form.{head_as, members_as, group_as}
use Rattle.text.specs.Inner.Numbers.{held}
use Rattle.form.specs.Inner.Tally.{kept_head, tallied}
use Rattle.form.specs.Laws.Tally.{grouped_none, grouped_some}
use Rattle.form.proofs.group_line.Goals as goal

pub returns-in_err-head : goal.returns-in_err-head
unfolding group_as and_then mapped
returns-in_err-head c = rw (c.from_residual.ensures, mapped_failed kept_head (head_as held _) (sym c.in_err-head.ensures))

pub returns-in_err-next : goal.returns-in_err-next
unfolding group_as and_then mapped
returns-in_err-next c =
    let h = mapped_parsed kept_head (head_as held _) (sym c.in_ok-head.ensures) in
    let m = mapped_parsed (tallied c.args.units c.args.from c.args.flat.now) (members_as held _ _) (sym c.read_members-members.ensures) in
    rw (c.from_residual-in_err-next.ensures, h.1, m.1, ← c.in_err-next.ensures)

pub returns-then-members-eq0 : goal.returns-then-members-eq0
unfolding group_as and_then mapped
returns-then-members-eq0 c =
    let h = mapped_parsed kept_head (head_as held _) (sym c.in_ok-head.ensures) in
    let m = mapped_parsed (tallied c.args.units c.args.from c.args.flat.now) (members_as held _ _) (sym c.read_members-members.ensures) in
    rw (h.1, m.1, ← c.in_ok-next.ensures, grouped_none _ _ _ _ m.0 _ _ m.2 c.if-members-eq0.true)

pub returns : goal.returns
unfolding group_as and_then mapped
returns c =
    let h = mapped_parsed kept_head (head_as held _) (sym c.in_ok-head.ensures) in
    let m = mapped_parsed (tallied c.args.units c.args.from c.args.flat.now) (members_as held _ _) (sym c.read_members-members.ensures) in
    rw (h.1, m.1, ← c.in_ok-next.ensures) (sym (grouped_some _ _ _ h.0 h.2 m.0 _ _ m.2 c.if-members-eq0.false))
