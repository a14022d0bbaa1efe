-- When writing answers a length, and when a refusal. Assumes nothing.
use Prim.Native.Nat.{ℕ, ◌*◌, ◌≤◌, ◌<◌}
use Rattle.std.specs.Prelude.{Result, Ok, Err, List, ◌++◌, ◌↔◌, ◌≡◌, drop}
use Rattle.std.proofs.Math.Path.{refl}
use Rattle.std.proofs.Common.{sym, ap, ◌∙◌, arith, le-leb}
use Rattle.std.proofs.Math.Decide.{dec_le}
use Rattle.std.proofs.Math.ListN.{length}
use Rattle.job.specs.Job.{Job, JobOrRefusal, accepted, refused, read_job}
use Rattle.job.proofs.Laws.Sound.{accepted_sound}
use Rattle.job.specs.Sound.{SoundJob}
use Rattle.model.specs.Refusals.{refusal}
use Rattle.model.specs.declared.Refusal.{Refusal}
use Rattle.works.specs.Called.{Cleared, groups, marks, count}
use Rattle.works.specs.Calls.{check_table, settle_job, settle_text}
use Rattle.works.proofs.Laws.Called as works
use Rattle.works.proofs.Laws.Checked.{passed_room}
use Rattle.works.specs.declared.Unsettled.TheVariants as settling
use Rattle.writer.specs.Calls.{WrittenText, written_text, write_job, write_text}
use Rattle.writer.proofs.Laws.Held.{over_sound}
use Rattle.writer.proofs.Laws.Writes.{text_refused, text_written, over_failed, over_passed}
use Rattle.writer.specs.Promises.{lent_job, most_scratch, WritesText, RefusesText}
use Rattle.job_lines.specs.Texts.{job_text}

-- a scratch that is long enough changes no check
check_any : (marks : List ℕ) (units : ℕ) (lows highs : List ℕ) (scratch other : ℕ) → 8 * units ≤ scratch → 8 * units ≤ other
    → check_table marks units lows highs scratch ≡ check_table marks units lows highs other
unfolding check_table
check_any marks units lows highs scratch other long wide = rw (le-leb (8 * units) scratch long, le-leb (8 * units) other wide)

-- what a call answers
answers : {w : WrittenText} {answer : Result ℕ Refusal} {buffer : List ℕ} → w ≡ written_text answer buffer → w.answer ≡ answer
answers is = ap (λ (w : WrittenText). w.answer) is

-- a text and a table that the checks let through
module _ {text lows highs : List ℕ} {scratch : ℕ} (cleared : Cleared text lows highs scratch) where
  -- the job with the lent ranges is sound
  pub lent_sound : SoundJob (lent_job cleared)
  lent_sound =
      over_sound lows highs scratch cleared.found (accepted_sound text cleared.found cleared.reads) refl refl refl cleared.passes

  -- it is what is written
  pub write_lent : (buffer : List ℕ) → write_text text lows highs buffer ≡ write_job (lent_job cleared) buffer
  unfolding write_text
  write_lent buffer =
      let units : ℕ = count cleared in
      let long = (passed_room (marks cleared) units lows highs scratch cleared.passes).for_scratch in
      let passes : check_table (marks cleared) units lows highs (8 * units) ≡ Ok tt =
      check_any (marks cleared) units lows highs (8 * units) scratch (omega arith) long ∙ cleared.passes in
      rw (write_text, cleared.reads) (sym (over_passed (marks cleared) (groups cleared) units lows highs buffer passes))

  -- it is written where it fits the buffer
  pub write_fits : (buffer : List ℕ) → length (job_text (lent_job cleared)) ≤ length buffer
      → write_text text lows highs buffer
      ≡ written_text (Ok (length (job_text (lent_job cleared)))) (job_text (lent_job cleared) ++ drop (length (job_text (lent_job cleared))) buffer)
  write_fits buffer fits = write_lent buffer ∙ sym (text_written (lent_job cleared) buffer fits)

  -- and refused where it does not
  pub write_short : (buffer : List ℕ) → length buffer < length (job_text (lent_job cleared))
      → write_text text lows highs buffer ≡ written_text (Err (refusal 1 0)) buffer
  write_short buffer short = write_lent buffer ∙ sym (text_refused (lent_job cleared) buffer short)

  -- a length that is answered is the text's, which fits the buffer
  pub lent_sized : (buffer : List ℕ) {size : ℕ} → (write_text text lows highs buffer).answer ≡ Ok size
      → (size ≡ length (job_text (lent_job cleared))) × (size ≤ length buffer)
  lent_sized buffer {size} is =
      elim (dec_le (length (job_text (lent_job cleared))) (length buffer)) [
        | yes fits ↦
            let same : Ok (length (job_text (lent_job cleared))) ≡ Ok size = sym (answers (write_fits buffer fits)) ∙ is in
            let counted : length (job_text (lent_job cleared)) ≡ size = cc in (sym counted, omega arith)
        | no long ↦
            let short : length buffer < length (job_text (lent_job cleared)) = omega arith in
            absurd (let z : ◌≡◌ {A = ℕ} 0 1 = cc (answers (write_short buffer short)) in omega arith)
      ]

  -- settling refuses nothing ahead of 11
  pub let_through : {reason : Refusal} → (settle_text text lows highs scratch).answer ≡ Err (settling.Refused reason) → ⊥
  let_through refuses = by (works.ends cleared)
    where
      by : works.CallEnds cleared → ⊥
      by (works.CallEnds.settled passes settles said) = let z : ◌≡◌ {A = ℕ} 0 1 = cc (works.says said) in omega arith
      by (works.CallEnds.refused number place passes settles said) = let z : ◌≡◌ {A = ℕ} 0 1 = cc (works.says said) in omega arith

module _ (text lows highs buffer : List ℕ) where
  -- how a call ends
  data WriteEnds : Type 0 where
    written : (cleared : Cleared text lows highs most_scratch) → length (job_text (lent_job cleared)) ≤ length buffer → WriteEnds
    short : (cleared : Cleared text lows highs most_scratch) → length buffer < length (job_text (lent_job cleared)) → WriteEnds
    ahead : (reason : Refusal) → (settle_text text lows highs most_scratch).answer ≡ Err (settling.Refused reason)
        → write_text text lows highs buffer ≡ written_text (Err reason) buffer → WriteEnds

  by_room : Cleared text lows highs most_scratch → WriteEnds
  by_room cleared =
      elim (dec_le (length (job_text (lent_job cleared))) (length buffer))
      [ yes fits ↦ WriteEnds.written cleared fits | no long ↦ WriteEnds.short cleared (omega arith) ]

  by_check : (found : Job) → read_job text ≡ accepted found → (check : Result (Unit {0}) Refusal)
      → check_table found.marks (length found.lows) lows highs most_scratch ≡ check → WriteEnds
  unfolding write_text settle_text settle_job
  by_check found reads (Ok tt) passes = by_room (record { found = found; reads = reads; passes = passes })
  by_check found reads (Err reason) fails =
      let few = (accepted_sound text found reads).built.few_units in
      let same = check_any found.marks (length found.lows) lows highs (8 * length found.lows) most_scratch (omega arith) (omega arith) in
      WriteEnds.ahead reason
      (rw (settle_text, reads, fails) refl)
      (rw (write_text, reads) (sym (over_failed found.marks found.groups (length found.lows) lows highs buffer reason (same ∙ fails))))

  by_text : (o : JobOrRefusal) → read_job text ≡ o → WriteEnds
  unfolding write_text settle_text
  by_text (accepted found) reads = by_check found reads (check_table found.marks (length found.lows) lows highs most_scratch) refl
  by_text (refused reason) refuses = WriteEnds.ahead reason (rw (settle_text, refuses) refl) (rw (write_text, refuses) refl)

  write_ends : WriteEnds
  write_ends = by_text (read_job text) refl

  -- a length is answered exactly where the text is written
  pub write_exactly : (size : ℕ) → ((write_text text lows highs buffer).answer ≡ Ok size) ↔ WritesText text lows highs buffer size
  write_exactly size = (forth write_ends, back)
    where
      of_cleared : Cleared text lows highs most_scratch → (write_text text lows highs buffer).answer ≡ Ok size → WritesText text lows highs buffer size
      of_cleared cleared is = let (counted, fits) = lent_sized cleared buffer is in record { cleared = cleared; counted = counted; fits = fits }

      forth : WriteEnds → (write_text text lows highs buffer).answer ≡ Ok size → WritesText text lows highs buffer size
      forth (WriteEnds.written cleared fits) is = of_cleared cleared is
      forth (WriteEnds.short cleared long) is = of_cleared cleared is
      forth (WriteEnds.ahead reason settles ends) is = absurd (let z : ◌≡◌ {A = ℕ} 0 1 = cc (answers ends) in omega arith)

      back : WritesText text lows highs buffer size → (write_text text lows highs buffer).answer ≡ Ok size
      back w = answers (write_fits w.cleared buffer (omega (arith, w.counted, w.fits))) ∙ ap Ok (sym w.counted)

  -- a refusal is answered exactly where its words hold
  pub write_refused : (reason : Refusal) → ((write_text text lows highs buffer).answer ≡ Err reason) ↔ RefusesText text lows highs buffer reason
  write_refused reason = (forth write_ends, back write_ends reason)
    where
      forth : WriteEnds → (write_text text lows highs buffer).answer ≡ Err reason → RefusesText text lows highs buffer reason
      forth (WriteEnds.written cleared fits) is =
          absurd (let z : ◌≡◌ {A = ℕ} 0 1 = cc (answers (write_fits cleared buffer fits)) in omega arith)
      forth (WriteEnds.short cleared long) is =
          let same : Err (refusal 1 0) ≡ Err reason = sym (answers (write_short cleared buffer long)) ∙ is in
          let one : refusal 1 0 ≡ reason = cc in
          rw (← one) (RefusesText.short cleared long)
      forth (WriteEnds.ahead other settles ends) is =
          let same : Err other ≡ Err reason = sym (answers ends) ∙ is in
          let one : other ≡ reason = cc in
          RefusesText.as_settling (settles ∙ ap (λ (r : Refusal). Err (settling.Refused r)) one)

      back : WriteEnds → (reason : Refusal) → RefusesText text lows highs buffer reason → (write_text text lows highs buffer).answer ≡ Err reason
      back ends reason (RefusesText.short cleared long) = answers (write_short cleared buffer long)
      back (WriteEnds.written cleared fits) reason (RefusesText.as_settling refuses) = absurd (let_through cleared refuses)
      back (WriteEnds.short cleared long) reason (RefusesText.as_settling refuses) = absurd (let_through cleared refuses)
      back (WriteEnds.ahead other settles ends) reason (RefusesText.as_settling refuses) =
          let same : Err (settling.Refused other) ≡ Err (settling.Refused reason) = sym settles ∙ refuses in
          let one : other ≡ reason = cc in
          answers ends ∙ ap Err one

  -- the buffer then holds what it held
  pub write_unchanged : (reason : Refusal) → (write_text text lows highs buffer).answer ≡ Err reason → (write_text text lows highs buffer).buffer ≡ buffer
  write_unchanged reason is = by write_ends
    where
      by : WriteEnds → (write_text text lows highs buffer).buffer ≡ buffer
      by (WriteEnds.written cleared fits) = absurd (let z : ◌≡◌ {A = ℕ} 0 1 = cc (answers (write_fits cleared buffer fits)) in omega arith)
      by (WriteEnds.short cleared long) = ap (λ (w : WrittenText). w.buffer) (write_short cleared buffer long)
      by (WriteEnds.ahead other settles ends) = ap (λ (w : WrittenText). w.buffer) ends
