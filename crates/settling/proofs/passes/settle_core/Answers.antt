-- Where the passes end without a plan, the saved table is written back. Assumes nothing.
use Rattle.std.specs.Prelude.{ℕ, true, false, ◌≡◌, refl, is_err}
use Rattle.std.proofs.Common.{ap, sym, ◌∙◌, arith}
use Rattle.member_ranges.specs.Tables.{Table}
use Rattle.member_ranges.specs.Laws.Inside.{same_ranges}
use Rattle.member_ranges.specs.Laws.Parts.{first_restored, second_restored}
use Rattle.works.specs.Answers.{answer_of, table_after}
use Rattle.works.specs.Settling.{Outcome, settled, refused}
use Rattle.settling.proofs.passes.settle_core.Goals as goal

-- an error comes of an outcome that leaves the other table
refusal : (outcome : Outcome) → is_err (answer_of outcome) ≡ true → (other : Table) → other ≡ table_after outcome other
refusal (settled table passes) err other = absurd (let z : ◌≡◌ {A = ℕ} 0 1 = cc in omega arith)
refusal (refused number place passes) err other = refl

-- any other answer comes of one that leaves the table that it settles, whatever the other is
settled_any : (outcome : Outcome) → is_err (answer_of outcome) ≡ false → (a b : Table) → table_after outcome a ≡ table_after outcome b
settled_any (settled table passes) ok a b = refl
settled_any (refused number place passes) ok a b = absurd (let z : ◌≡◌ {A = ℕ} 0 1 = cc in omega arith)

pub returns-then-is_err-clause-highs_after : goal.returns-then-is_err-clause-highs_after
returns-then-is_err-clause-highs_after c =
    let lows = c.args.lows.now in
    let highs = c.args.highs.now in
    let answer = c.settle_in_place-answer in
    same_ranges
    (c.restore.ensures.lows_after ∙ first_restored lows highs _ c.save.ensures answer.auto.lows)
    (c.restore.ensures.highs_after ∙ second_restored lows highs _ c.save.ensures answer.auto.lows answer.auto.highs)
    ∙ refusal _ (ap is_err (sym answer.ensures.value) ∙ sym c.is_err.ensures.value ∙ c.if-is_err.true) _

pub returns-else-is_err-clause-highs_after : goal.returns-else-is_err-clause-highs_after
returns-else-is_err-clause-highs_after c =
    let answer = c.settle_in_place-answer in
    answer.ensures.highs_after
    ∙ settled_any _ (ap is_err (sym answer.ensures.value) ∙ sym c.is_err.ensures.value ∙ c.if-is_err.false) _ _
