-- Settling a table that a text's unit lines filled and writing what that leaves gives what is handed on. Assumes nothing.
use Rattle.std.specs.Prelude.{ℕ, Result, Ok, Err, IsOk, ◌≤◌, List, ◌++◌, length, drop}
use Rattle.std.proofs.Math.Path.{◌≡◌, refl, sym, ap}
use Rattle.std.proofs.Common.{◌∙◌, arith}
use Rattle.form.specs.Form.{most_bytes}
use Rattle.model.specs.declared.Refusal.{Refusal}
use Rattle.report.specs.Inner.Printed.{Opened}
use Rattle.report.specs.Lines.{refusal_line}
use Rattle.works.specs.Called.{Cleared, groups, marks, opening, called}
use Rattle.works.specs.Calls.{Settlement, settlement, settle_text}
use Rattle.works.proofs.Laws.Called.{CallEnds, ends, says, called_settled}
use Rattle.works.proofs.Laws.Repeated.{settled_cleared}
use Rattle.works.specs.Resting.{running_groups}
use Rattle.works.specs.Settling.{Outcome, settle}
use Rattle.works.specs.declared.Unsettled.{Unsettled}
use Rattle.works.specs.declared.Unsettled.TheVariants.{NoPlan, Refused}
use Rattle.writer.specs.Calls.{WrittenText, written_text, write_text}
use Rattle.writer.specs.Handing.{handed_after, handed_on}
use Rattle.writer.specs.Inner.Asked.{LetThrough}
use Rattle.writer.proofs.Laws.Answers.{let_through}
use Rattle.writer.proofs.Laws.Handing.{handed_settles}
use Rattle.writer.proofs.Laws.Promises.{always_written, written_size, written_holds}

-- a text and a table that are let through are written into a buffer of 65,536 bytes
pub never_short : {text lows highs : List ℕ} (buffer : List ℕ) {exit : List ℕ} {answer : Result ℕ Refusal} → LetThrough text lows highs
    → most_bytes ≤ length buffer → written_text answer exit ≡ write_text text lows highs buffer → IsOk answer
never_short buffer through long is =
    rw (ap (λ (w : WrittenText). w.answer) is, always_written through.cleared buffer (omega arith)) refl

-- settling over the table that a text's unit lines filled
module _ {text lows highs : List ℕ} {scratch : ℕ} (opened : Opened text lows highs scratch) {answer : Result ℕ Unsettled} {next_lows next_highs : List ℕ}
    (is : settlement answer next_lows next_highs ≡ settle_text text lows highs scratch) where
  abbrev cleared : Cleared text lows highs scratch
  cleared = opened.cleared

  -- what is handed on is of its outcome
  handed_opening : {outcome : Outcome} → settle (running_groups (marks cleared) (groups cleared)) (opening cleared) ≡ outcome
      → handed_on text ≡ handed_after (marks cleared) (groups cleared) outcome
  handed_opening settles =
      handed_settles text cleared.found cleared.reads
      (ap (settle (running_groups (marks cleared) (groups cleared))) (sym opened.opens) ∙ settles)

  answered : (called cleared).answer ≡ answer
  answered = ap (λ (s : Settlement). s.answer) (sym is)

  -- no refusal comes ahead of the first pass
  pub opened_through : {reason : Refusal} → answer ≡ Err (Refused reason) → ⊥
  opened_through refuses = let_through cleared (answered ∙ refuses)

  -- for want of a plan the refusal's line is handed on
  pub refused_hands : {number place passes : ℕ} → answer ≡ Err (NoPlan number place passes) → handed_on text ≡ refusal_line number place
  unfolding handed_after
  refused_hands {number} {place} {passes} refuses = by (ends cleared)
    where
      by : CallEnds cleared → handed_on text ≡ refusal_line number place
      by (CallEnds.settled count settles said) =
          let differ : Ok count ≡ Err (NoPlan number place passes) = sym (says said) ∙ answered ∙ refuses in
          absurd (let z : ◌≡◌ {A = ℕ} 0 1 = cc in omega arith)
      by (CallEnds.refused other there count settles said) =
          let same : Err (NoPlan other there count) ≡ Err (NoPlan number place passes) = sym (says said) ∙ answered ∙ refuses in
          let at_number : other ≡ number = cc in
          let at_place : there ≡ place = cc in
          handed_opening settles ∙ ap (λ (n : ℕ). refusal_line n there) at_number ∙ ap (refusal_line number) at_place

  module _ {passes : ℕ} (settles : answer ≡ Ok passes) where
    lows_are : (called cleared).lows ≡ next_lows
    lows_are = ap (λ (s : Settlement). s.lows) (sym is)

    highs_are : (called cleared).highs ≡ next_highs
    highs_are = ap (λ (s : Settlement). s.highs) (sym is)

    -- the settled table is let through
    pub settled_through : LetThrough text next_lows next_highs
    settled_through = rw (← lows_are, ← highs_are) (record { scratch = scratch; cleared = settled_cleared cleared (answered ∙ settles) })

    -- and what is written of it is handed on
    pub settled_hands : (buffer : List ℕ) {size : ℕ} {exit : List ℕ} → written_text (Ok size) exit ≡ write_text text next_lows next_highs buffer
        → (size ≡ length (handed_on text)) × (exit ≡ handed_on text ++ drop size buffer)
    unfolding handed_after
    settled_hands buffer {size} {exit} wrote =
        let same : write_text text (called cleared).lows (called cleared).highs buffer ≡ written_text (Ok size) exit =
        (λ i. write_text text (lows_are i) (highs_are i) buffer) ∙ sym wrote in
        let answers : (write_text text (called cleared).lows (called cleared).highs buffer).answer ≡ Ok size =
        ap (λ (w : WrittenText). w.answer) same in
        let again = settled_cleared cleared (answered ∙ settles) in
        let handed = handed_opening (called_settled cleared (answered ∙ settles)) in
        rw handed
        (written_size again buffer answers, ap (λ (w : WrittenText). w.buffer) (sym same ∙ written_holds again buffer answers))
