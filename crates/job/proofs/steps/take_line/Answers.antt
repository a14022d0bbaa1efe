-- A line is tried as a unit line, then as a group line. Assumes nothing.
use Rattle.std.proofs.Common.{sym}
use Rattle.text.specs.Inner.Numbers.{held}
use Rattle.text.specs.Inner.Spots.{bytes_from}
use Rattle.text.specs.Laws.Parsed.{mapped_failed, mapped_parsed}
use Rattle.form.specs.Form.{unit_as}
use Rattle.form.specs.Inner.LinesRead.{kept_unit}
use Rattle.job.proofs.Laws.Taking.{line_is_group, line_is_unit}
use Rattle.job.proofs.steps.take_line.Goals as goal

pub returns-in_default : goal.returns-in_default
returns-in_default c = λ job lows₀ highs₀ flat₀ holds.
    let a = c.args in
    let none = mapped_failed kept_unit (unit_as held (bytes_from a.text.now a.spot)) (sym c.in_default.ensures) in
    rw (← line_is_group job a.progress _ holds _ none)
    (c.take_group.ensures job lows₀ highs₀ flat₀ a.lows.now a.highs.now holds)

pub returns : goal.returns
returns c = λ job lows₀ highs₀ flat₀ holds.
    let a = c.args in
    let m = mapped_parsed kept_unit (unit_as held (bytes_from a.text.now a.spot)) (sym c.in-Some.ensures) in
    rw (← line_is_unit job a.progress _ holds _ _ _ m.1)
    (c.take_unit.ensures a.text.now (bytes_from a.text.now a.spot) job lows₀ highs₀ flat₀ m.0 m.2 holds)
