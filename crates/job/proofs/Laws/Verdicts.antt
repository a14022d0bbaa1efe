-- What a line without a refusal satisfies. Assumes nothing.
use Rattle.std.specs.Prelude.{ℕ, zero, suc, ◌+◌, ◌≤◌, ◌<◌, true, List, ◌≡◌, refl, leb, ltb, eqb, Ok}
use Rattle.std.proofs.Common.{arith, le-leb, lt-ltb, eq-eqb, leb-true, ltb-true, eqb-true}
use Rattle.model.specs.Figures.{greatest_deviation, greatest_spread, greatest_pairs, limit_within}
use Rattle.groups.specs.Inner.Flat.{limit_code}
use Rattle.model.proofs.Laws.Refusals.{unless_zero}
use Rattle.model.specs.Refusals.{unless}
use Rattle.model.specs.Shares.{greatest_share, greatest_total, most_units}
use Rattle.model.specs.declared.Limit.{Limit}
use Rattle.model.specs.declared.Limit.TheVariants.{Any, AtMost}
use Rattle.model.specs.declared.Limits.{Limits}
use Rattle.form.specs.Form.{UnitLine, shut, line_low, line_high}
use Rattle.job.specs.Job.{most_groups, most_memberships, distinct, unit_verdict, head_verdict, members_verdict, first_refusal}
use Rattle.form.specs.Named.{all_named}
use Rattle.job.specs.Inner.Verdicts.{verdict_answer}

-- a verdict that the code answers with no refusal is 0
pub no_refusal : (v place : ℕ) {u : Unit} → Ok u ≡ verdict_answer v place → v ≡ 0
no_refusal zero place e = refl
no_refusal (suc v) place e = cc

-- the first that is one is the verdict
pub first_some : {a : ℕ} (b : ℕ) → (a ≡ 0 → ⊥) → a ≡ first_refusal a b
first_some {a} b n = by_number a n
  where
    by_number : (a : ℕ) → (a ≡ 0 → ⊥) → a ≡ first_refusal a b
    by_number zero n = absurd (n refl)
    by_number (suc a) n = refl

-- where it is none, the other is
pub first_none : {a v b : ℕ} → a ≡ 0 → v ≡ b → v ≡ first_refusal a b
first_none z e = rw z e

-- neither refuses
pub first_zero : (a b : ℕ) → first_refusal a b ≡ 0 → (a ≡ 0) × (b ≡ 0)
first_zero zero b h = (refl, h)
first_zero (suc a) b h = absurd (omega arith)

-- a unit line without a refusal
pub record UnitGood (units groups : ℕ) (l : UnitLine) : Type 0 where
  pub low_fits : line_low l ≤ greatest_share
  pub high_fits : line_high l ≤ greatest_share
  pub no_group : groups ≡ 0
  pub room : units < most_units
  pub ordered : line_low l ≤ line_high l

-- so says the verdict 0 of a unit line
pub unit_good : (units groups : ℕ) (l : UnitLine) → unit_verdict units groups l ≡ 0 → UnitGood units groups l
unfolding unit_verdict
unit_good units groups l h =
    let a = unless_zero (leb (line_low l) greatest_share) 3 _ h in
    let b = unless_zero (leb (line_high l) greatest_share) 3 _ a.1 in
    let c = unless_zero (eqb groups 0) 4 _ b.1 in
    let d = unless_zero (ltb units most_units) 5 _ c.1 in
    let e = unless_zero (leb (line_low l) (line_high l)) 6 _ d.1 in
    record {
      low_fits = leb-true _ _ a.0;
      high_fits = leb-true _ _ b.0;
      no_group = eqb-true _ _ c.0;
      room = ltb-true _ _ d.0;
      ordered = leb-true _ _ e.0;
    }

-- and a unit line that satisfies it all has the verdict 0
pub good_unit : {units groups : ℕ} {l : UnitLine} → UnitGood units groups l → unit_verdict units groups l ≡ 0
unfolding unit_verdict
good_unit {units} {groups} {l} good =
    rw (
      le-leb (line_low l) greatest_share good.low_fits,
      le-leb (line_high l) greatest_share good.high_fits,
      eq-eqb groups 0 good.no_group,
      lt-ltb units most_units good.room,
      le-leb (line_low l) (line_high l) good.ordered,
    )

-- 02: `(shut)` "counts as a unit line .. with range 0 to 0": after a group line it is 5, as the 257th unit line 6, and never 4 or 7
pub shut_verdict : (units groups : ℕ) → unit_verdict units groups shut ≡ unless (eqb groups 0) 5 (unless (ltb units most_units) 6 0)
unfolding unit_verdict
shut_verdict units groups = refl

-- a group line's head without a refusal
pub record HeadGood (groups taken total : ℕ) (limits : Limits) (count : ℕ) : Type 0 where
  pub total_fits : total ≤ greatest_total
  pub deviation_fits : limit_within limits.deviation greatest_deviation ≡ true
  pub spread_fits : limit_within limits.spread greatest_spread ≡ true
  pub pairs_fits : limit_within limits.pairs greatest_pairs ≡ true
  pub room : groups < most_groups
  pub fits : taken + count ≤ most_memberships

-- so says the verdict 0 of a head
pub head_good : (groups taken total : ℕ) (limits : Limits) (count : ℕ) → head_verdict groups taken total limits count ≡ 0
    → HeadGood groups taken total limits count
unfolding head_verdict
head_good groups taken total limits count h =
    let a = unless_zero (leb total greatest_total) 3 _ h in
    let b = unless_zero (limit_within limits.deviation greatest_deviation) 3 _ a.1 in
    let c = unless_zero (limit_within limits.spread greatest_spread) 3 _ b.1 in
    let d = unless_zero (limit_within limits.pairs greatest_pairs) 3 _ c.1 in
    let e = unless_zero (ltb groups most_groups) 5 _ d.1 in
    let f = unless_zero (leb (taken + count) most_memberships) 5 _ e.1 in
    record {
      total_fits = leb-true _ _ a.0;
      deviation_fits = b.0;
      spread_fits = c.0;
      pairs_fits = d.0;
      room = ltb-true _ _ e.0;
      fits = leb-true _ _ f.0;
    }

-- and a head that satisfies it all has the verdict 0
pub good_head : {groups taken total : ℕ} {limits : Limits} {count : ℕ} → HeadGood groups taken total limits count
    → head_verdict groups taken total limits count ≡ 0
unfolding head_verdict
good_head {groups} {taken} {total} {limits} {count} h =
    rw (
      le-leb total greatest_total h.total_fits,
      h.deviation_fits,
      h.spread_fits,
      h.pairs_fits,
      lt-ltb groups most_groups h.room,
      le-leb (taken + count) most_memberships h.fits,
    )

-- members without a refusal
pub record MembersGood (units : ℕ) (ms : List ℕ) : Type 0 where
  pub all_named : all_named units ms ≡ true
  pub all_distinct : distinct ms ≡ true

-- so says the verdict 0 of members
pub members_good : (units : ℕ) (ms : List ℕ) → members_verdict units ms ≡ 0 → MembersGood units ms
unfolding members_verdict
members_good units ms h =
    let a = unless_zero (all_named units ms) 7 _ h in
    let b = unless_zero (distinct ms) 8 _ a.1 in
    record { all_named = a.0; all_distinct = b.0 }

-- the number that a limit in range is stored as
pub limit_coded : (most : ℕ) (l : Limit) → limit_within l most ≡ true → limit_code l ≤ most + 1
limit_coded most Any e = omega arith
limit_coded most (AtMost v) e = omega (arith, leb-true v most e)
