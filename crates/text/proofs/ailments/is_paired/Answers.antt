-- The brackets passed are counted, and closing ones were nowhere more. Assumes nothing.
use Rattle.std.proofs.Common.{ℕ, ◌+◌, ◌≤◌, ◌<◌, false, List, length, get_or, drop, ◌≡◌, refl, sym, ◌∙◌, add-one, arith, le-leb, ne_eqb, eqb, drop_of_length-le, drop-cons}
use Rattle.std.proofs.lemmas.Bool.{lt-leb}
use Rattle.text.specs.Kinds.{is_opening, is_closing}
use Rattle.text.specs.Ailments.{front_line, openings, closings, paired}
use Rattle.text.specs.Laws.Walking.{bracket_few}
use Rattle.text.specs.declared.Kind.{Kind}
use Rattle.text.specs.declared.Kind.TheVariants.{Opening, Closing, Space, Digit, Letter, Foreign}
use Rattle.text.proofs.ailments.is_paired.Goals as goal
use Rattle.text.proofs.ailments.is_paired.Goals.{Joined-kind_of, in-Opening, in-Closing, in_default, else-loop-byte-test, then-loop-byte-test+then-byte-eq10}

no_bracket : (kind : Kind) → (kind ≡ Opening → ⊥) → (kind ≡ Closing → ⊥) → (is_opening kind ≡ false) × (is_closing kind ≡ false)
no_bracket Opening n m = absurd (n refl)
no_bracket Closing n m = absurd (m refl)
no_bracket Space n m = (refl, refl)
no_bracket Digit n m = (refl, refl)
no_bracket Letter n m = (refl, refl)
no_bracket Foreign n m = (refl, refl)

-- each bracket is counted
counted : (c : Joined-kind_of) → let byte = get_or c.rest_from-byte-items.result.now c.loop-byte.byte-index 0 in
    (c.match-kind_of.opened ≡ c.loop-byte.opened + openings byte) × (c.match-kind_of.closed ≡ c.loop-byte.closed + closings byte)
counted c =
    elim c.match-kind_of.branch [
      | in-Opening w ↦ rw (← c.kind_of.ensures, w.in-Opening.is) (omega (arith, w.opened-is), omega (arith, w.closed-is))
      | in-Closing w ↦ rw (← c.kind_of.ensures, w.in-Closing.is) (omega (arith, w.opened-is), omega (arith, w.closed-is))
      | in_default w ↦
          let none = no_bracket c.kind_of.result w.in_default.not-Opening w.in_default.not-Closing in
          rw (← c.kind_of.ensures, none.0, none.1) (omega (arith, w.opened-is), omega (arith, w.closed-is))
    ]

module _ (text : List ℕ) (at : ℕ) (inside : at < length text) (opened closed : ℕ) where
  -- byte 10 ends the line
  ends : get_or text at 0 ≡ 10 → closed ≤ opened → eqb opened closed ≡ paired opened closed (front_line (drop at text))
  unfolding front_line paired
  ends e few =
      let p : opened + 0 ≡ opened = omega arith in
      let q : closed + 0 ≡ closed = omega arith in
      rw (drop-cons text at 0 inside, e, p, q, le-leb closed opened few)

  module _ {p q : ℕ} (other : get_or text at 0 ≡ 10 → ⊥) (opens : p ≡ opened + openings (get_or text at 0)) (closes : q ≡ closed + closings (get_or text at 0)) where
    -- at this byte closing ones are more
    crossed : p < q → paired opened closed (front_line (drop at text)) ≡ false
    unfolding front_line paired
    crossed more = rw (drop-cons text at 0 inside, ← opens, ← closes, lt-leb q p more)

    -- they are not, and the rest of the line decides
    goes_on : q ≤ p → paired opened closed (front_line (drop at text)) ≡ paired p q (front_line (drop (at + 1) text))
    unfolding front_line paired
    goes_on few = rw (add-one, drop-cons text at 0 inside, ← opens, ← closes, le-leb q p few, ne_eqb (get_or text at 0) 10 other)

pub returns-then-opened-closed : goal.returns-then-opened-closed
returns-then-opened-closed c =
    let (opens, closes) = counted (goal.at.returns-then-opened-closed c).Joined-kind_of in
    sym (crossed _ _ c.loop-byte-test.true _ _ c.if-byte-eq10.false opens closes c.if-opened-closed.true) ∙ c.loop-byte.invariant.told

pub loop-byte-preserved : goal.loop-byte-preserved
loop-byte-preserved c =
    let l = c.loop-byte in
    let (opens, closes) = counted (goal.at.loop-byte-preserved c).Joined-kind_of in
    let few : c.match-kind_of.closed ≤ c.match-kind_of.opened = c.if-opened-closed.false in
    record {
      told = sym (goes_on _ _ c.loop-byte-test.true _ _ c.if-byte-eq10.false opens closes few) ∙ l.invariant.told;
      few = few;
      passed = omega (arith, opens, (bracket_few (get_or c.rest_from-byte-items.result.now l.byte-index 0)).0, l.invariant.passed);
    }

pub returns : goal.returns
unfolding front_line paired
returns c =
    let l = c.loop-byte in
    elim c.loop-byte-test.branch [
      | else-loop-byte-test w ↦ rw (drop_of_length-le c.rest_from-byte-items.result.now w.loop-byte-test.false) at l.invariant.told
      | then-loop-byte-test+then-byte-eq10 w ↦ ends _ _ w.loop-byte-test.true _ _ w.if-byte-eq10.true l.invariant.few ∙ l.invariant.told
    ]
