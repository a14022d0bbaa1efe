-- What settling answers, and the table that it leaves. Assumes nothing.
use Rattle.std.specs.Prelude.{ℕ, Result, Ok, Err}
use Rattle.works.specs.Settling.{Outcome, settled, refused}
use Rattle.member_ranges.specs.Tables.{Table}
use Rattle.works.specs.declared.Unsettled.{Unsettled}
use Rattle.works.specs.declared.Unsettled.TheVariants.{NoPlan}

-- the answer that says an outcome's passes, or its refusal's number and place and the passes
abbrev pub answer_of : Outcome → Result ℕ Unsettled
answer_of (settled table passes) = Ok passes
answer_of (refused number place passes) = Err (NoPlan number place passes)

-- the settled table, or another where the settling is refused
abbrev pub table_after : Outcome → Table → Table
table_after (settled table passes) other = table
table_after (refused number place passes) other = other
