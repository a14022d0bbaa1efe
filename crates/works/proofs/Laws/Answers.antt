-- Laws of what settling answers, and of the table that it leaves. Assumes nothing.
use Rattle.std.specs.Prelude.{ℕ, Ok, Err, ◌≡◌, refl}
use Rattle.std.proofs.Common.{arith}
use Rattle.works.specs.Settling.{Outcome, settled, refused}
use Rattle.member_ranges.specs.Tables.{Table}
use Rattle.works.specs.declared.Unsettled.TheVariants.{NoPlan}
use Rattle.works.specs.Answers.{answer_of, table_after}

-- what settling answers and leaves, from its outcome
pub settled_answer : {outcome : Outcome} {table : Table} {passes : ℕ} → outcome ≡ settled table passes
    → (Ok passes ≡ answer_of outcome) × (table ≡ table_after outcome table)
settled_answer is = rw is (refl, refl)

-- and from one that is refused
pub refused_answer : {outcome : Outcome} {number place passes : ℕ} → outcome ≡ refused number place passes
    → (table : Table) → (Err (NoPlan number place passes) ≡ answer_of outcome) × (table ≡ table_after outcome table)
refused_answer is table = rw is (refl, refl)

-- a settled outcome leaves its table, whatever the other is
pub settled_any : (outcome : Outcome) (passes : ℕ) → answer_of outcome ≡ Ok passes → (a b : Table) → table_after outcome a ≡ table_after outcome b
settled_any (settled table passes) count is a b = refl
settled_any (refused number place passes) count is a b = absurd (let z : ◌≡◌ {A = ℕ} 0 1 = cc in omega arith)
