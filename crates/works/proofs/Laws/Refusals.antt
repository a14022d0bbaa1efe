-- A settling that is refused for want of a plan says 11 or 12, and the place of one of its groups. Assumes nothing.
use Rattle.std.specs.Prelude.{ℕ, zero, suc, ◌+◌, ◌≤◌, ◌<◌, Bool, true, false, List, [], ◌∷◌, ◌≡◌, refl, length}
use Rattle.std.proofs.Common.{inl, inr, arith}
use Rattle.model.specs.Groups.{Group}
use Rattle.model.specs.Plans.{has_shares, has_plan, turn_of}
use Rattle.model.specs.Shares.{pick}
use Rattle.model.specs.declared.Turn.TheVariants.{Narrowed, NoPlan}
use Rattle.works.specs.Settling.{Revised, AfterPass, Outcome, revised_by, narrowed, revise, pass_from, pass, settle_from, settle}
use Rattle.member_ranges.specs.Tables.{Table, same_table, width, lows_of, highs_of}
use Rattle.works.specs.Calls.{WantOfPlan}

-- a turn says 11 or 12
turn_number : (table : Table) (group : Group) (number : ℕ) → revise table group ≡ Revised.no_plan number → WantOfPlan number
unfolding revise turn_of
turn_number table group number e =
    by_tests (has_shares (lows_of table group) (highs_of table group) group.total)
    (has_plan (lows_of table group) (highs_of table group) group.total group.limits) e
  where
    by_tests : (shares plan : Bool)
        → revised_by (pick shares (pick plan Narrowed (NoPlan 12)) (NoPlan 11)) (narrowed table group) ≡ Revised.no_plan number → WantOfPlan number
    by_tests true true e = absurd (let z : ◌≡◌ {A = ℕ} 0 1 = cc in omega arith)
    by_tests true false e = inr (cc)
    by_tests false plan e = inl (cc)

-- a refusal's number, and its place among groups of which the first has the given place
record StopsAt (from count number place : ℕ) : Type 0 where
  pub wants : WantOfPlan number
  pub least : from ≤ place
  pub most : place < from + count

-- a pass stops at one of its groups
pass_refusal : (from : ℕ) (groups : List Group) (table : Table) (number place : ℕ) → pass_from from groups table ≡ AfterPass.stopped number place
    → StopsAt from (length groups) number place
unfolding pass_from
pass_refusal from [] table number place e = absurd (let z : ◌≡◌ {A = ℕ} 0 1 = cc in omega arith)
pass_refusal from (group ∷ groups) table number place e =
    by_answer (λ next. pass_refusal (suc from) groups next number place) (revise table group) refl
  where
    by_answer : ((next : Table) → pass_from (suc from) groups next ≡ AfterPass.stopped number place → StopsAt (suc from) (length groups) number place)
        → (answer : Revised) → revise table group ≡ answer → StopsAt from (length (group ∷ groups)) number place
    by_answer rest (Revised.revised next) r =
        let later = rest next (rw (r, pass_from) at e) in
        record { wants = later.wants; least = omega (arith, later.least); most = omega (arith, later.most) }
    by_answer rest (Revised.no_plan refusal) r =
        let stops : AfterPass.stopped refusal from ≡ AfterPass.stopped number place = rw (r, pass_from) at e in
        let same : refusal ≡ number = cc in
        let here : from ≡ place = cc in
        record { wants = turn_number table group number (rw same at r); least = omega arith; most = omega arith }

-- so does a settling
settling_refusal : (more done : ℕ) (groups : List Group) (table : Table) (number place passes : ℕ)
    → settle_from more done groups table ≡ Outcome.refused number place passes → StopsAt 1 (length groups) number place
unfolding settle_from
settling_refusal zero done groups table number place passes e = absurd (let z : ◌≡◌ {A = ℕ} 0 1 = cc in omega arith)
settling_refusal (suc more) done groups table number place passes e =
    by_pass (λ next. settling_refusal more (suc done) groups next number place passes) (pass groups table) refl
  where
    by_pass : ((next : Table) → settle_from more (suc done) groups next ≡ Outcome.refused number place passes → StopsAt 1 (length groups) number place)
        → (answer : AfterPass) → pass groups table ≡ answer → StopsAt 1 (length groups) number place
    by_pass rest (AfterPass.stopped refusal at_place) p =
        let ends : Outcome.refused refusal at_place (suc done) ≡ Outcome.refused number place passes = rw (p, settle_from) at e in
        let same : refusal ≡ number = cc in
        let here : at_place ≡ place = cc in
        pass_refusal 1 groups table number place (rw (same, here) at p)
    by_pass rest (AfterPass.passed next) p = by_test (same_table next table) refl
      where
        by_test : (same : Bool) → same_table next table ≡ same → StopsAt 1 (length groups) number place
        by_test true t =
            absurd (let ends : Outcome.settled table (suc done) ≡ Outcome.refused number place passes = rw (p, settle_from, t) at e in
            let z : ◌≡◌ {A = ℕ} 0 1 = cc in omega arith)
        by_test false t = rest next (rw (p, settle_from, t) at e)

-- a settling that is refused for want of a plan says 11 or 12, and a place from 1 to the number of groups
pub settle_refusal : (groups : List Group) (table : Table) (number place passes : ℕ)
    → settle groups table ≡ Outcome.refused number place passes → WantOfPlan number × (1 ≤ place) × (place ≤ length groups)
unfolding settle
settle_refusal groups table number place passes e =
    let refusal = settling_refusal (suc (width table)) 0 groups table number place passes e in
    (refusal.wants, refusal.least, omega (arith, refusal.most))
