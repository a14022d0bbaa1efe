-- A job has at most 256 units: settling, reporting, reading and writing look at the first 256 entries of a table alone. Assumes nothing.
use Prim.Native.Nat.{ℕ, zero, suc, ◌*◌, ◌≤◌, min}
use Rattle.std.specs.Prelude.{Result, Ok, Err, Bool, true, false, ◌&&◌, ◌≡◌, leb, length}
use Rattle.std.proofs.Math.Path.{refl, ap}
use Rattle.std.proofs.Common.{sym, ◌∙◌, le_of_suc-le-suc, not-suc-le-zero, arith, le-leb, length-take}
use mathlib.Core.List.{List, [], ◌∷◌, ◌++◌, append_assoc, append-nil}
use Rattle.std.proofs.Math.Decide.{dec_le}
use Rattle.std.proofs.Math.Nat.{suc_inj}
use Rattle.std.proofs.lemmas.Bool.{lt-leb}
use Rattle.std.proofs.Math.ListN.{take, drop, take-append-drop}
use Rattle.std.proofs.lemmas.List.{length-map}
use Rattle.std.proofs.Math.Seq.{take-take}
use Rattle.job.specs.Job.{Job, JobOrRefusal, accepted, refused, read_job}
use Rattle.form.specs.Form.{most_bytes}
use Rattle.job.specs.Reading.{read_table, fit_table, lows_after, highs_after, ReadInto, reading_of}
use Rattle.job.proofs.Laws.Sound.{accepted_sound}
use Rattle.model.specs.Groups.{Group}
use Rattle.model.specs.Shares.{pick, most_units}
use Rattle.report.specs.Calls.{Reported, reported, job_of, report_by, report_settled, report_text}
use Rattle.report.specs.declared.Written.{Written}
use Rattle.job.specs.declared.Counts.{Counts}
use Rattle.model.specs.declared.Refusal.{Refusal}
use Rattle.works.specs.Answers.{answer_of, table_after}
use Rattle.works.specs.Calls.{Settlement, settlement, check_table, settled_after, leaving, settle_job, settle_text}
use Rattle.works.specs.Resting.{running_groups}
use Rattle.works.specs.Settling as works
use Rattle.member_ranges.specs.Tables.{Table, table_of}
use Rattle.works.specs.declared.Unsettled.{Unsettled}
use Rattle.works.specs.declared.Unsettled.TheVariants.{NoPlan, Refused}
use Rattle.writer.specs.Calls.{write_over, write_text}
use Rattle.table.specs.declared.Bounds.{Bounds}
use Rattle.table.specs.declared.Range.{Range}
use Rattle.table.specs.Tables.{lows_in, highs_in}
use Rattle.table.specs.Inner.Tables.{over, ranges, bounds_of, after_settling, after_reporting, buffer_after, after_reading, after_writing}
use Rattle.table.proofs.Laws.Lists.{bounds_hold, front_length, put_table}
use Rattle.model.specs.Refusals.{refusal}

-- what is past u entries, from the first m and from past them
drop_front : (u m : ℕ) (xs : List ℕ) → u ≤ m → drop u (take m xs) ++ drop m xs ≡ drop u xs
drop_front zero m xs h = take-append-drop m xs
drop_front (suc u) zero xs h = absurd (not-suc-le-zero h)
drop_front (suc u) (suc m) [] h = refl
drop_front (suc u) (suc m) (x ∷ xs) h = drop_front u m xs (le_of_suc-le-suc h)

-- u entries are there if they are among the first m
room_front : (u m : ℕ) (xs : List ℕ) → u ≤ m → leb u (length (take m xs)) ≡ leb u (length xs)
room_front u m xs h =
    rw (length-take m xs)
    (elim (dec_le u (length xs)) [
      | yes p ↦ le-leb u (min m (length xs)) (omega (arith, p, h)) ∙ sym (le-leb u (length xs) p)
      | no p ↦ lt-leb u (min m (length xs)) (omega (arith, p)) ∙ sym (lt-leb u (length xs) (omega (arith, p)))
    ])

-- what is written before the entries past u
write_front : (u m : ℕ) (ws xs : List ℕ) → u ≤ m → (ws ++ drop u (take m xs)) ++ drop m xs ≡ ws ++ drop u xs
write_front u m ws xs h = append_assoc ws (drop u (take m xs)) (drop m xs) ∙ ap (λ (zs : List ℕ). ws ++ zs) (drop_front u m xs h)

-- the first u of a list as long as the first m entries do not change by the entries past those
take_front : (u m : ℕ) (ls xs : List ℕ) → u ≤ m → length ls ≡ length (take m xs) → take u (ls ++ drop m xs) ≡ take u ls
take_front zero m ls xs h e = refl
take_front (suc u) zero ls xs h e = absurd (not-suc-le-zero h)
take_front (suc u) (suc m) [] [] h e = refl
take_front (suc u) (suc m) [] (x ∷ xs) h e = absurd (omega (arith, e))
take_front (suc u) (suc m) (l ∷ ls) [] h e = ap (λ (zs : List ℕ). take (suc u) zs) (append-nil (l ∷ ls))
take_front (suc u) (suc m) (l ∷ ls) (x ∷ xs) h e = ap (λ (zs : List ℕ). l ∷ zs) (take_front u m ls xs (le_of_suc-le-suc h) (suc_inj e))

-- an accepted job has at most m units
abbrev FewIn : ℕ → JobOrRefusal → Type 0
FewIn m (accepted job) = length job.lows ≤ m
FewIn m (refused r) = Unit {0}

few_units : (text : List ℕ) → FewIn most_units (read_job text)
few_units text = by_outcome (read_job text) refl
  where
    by_outcome : (o : JobOrRefusal) → read_job text ≡ o → FewIn most_units o
    by_outcome (accepted job) e = (accepted_sound text job e).built.few_units
    by_outcome (refused r) e = tt

fit_few : (m a b : ℕ) (o : JobOrRefusal) → FewIn m o → FewIn m (fit_table a b o)
unfolding fit_table
fit_few m a b (refused r) few = tt
fit_few m a b (accepted job) few = by_test (leb (length job.lows) a && leb (length job.lows) b)
  where
    by_test : (fits : Bool) → FewIn m (pick fits (accepted job) (refused (refusal 1 0)))
    by_test true = few
    by_test false = tt

module _ (m : ℕ) (lows highs : List ℕ) where
  -- a settlement of the first m entries, with the entries past them
  abbrev longer : Settlement → Settlement
  longer s = settlement s.answer (s.lows ++ drop m lows) (s.highs ++ drop m highs)

  after_front : (check : Result (Unit {0}) Refusal) (outcome : works.Outcome) (units : ℕ) → units ≤ m
      → longer (settled_after check (take m lows) (take m highs) (leaving outcome units (take m lows) (take m highs))) ≡ settled_after check lows highs (leaving outcome units lows highs)
  after_front (Err refusal) outcome units h = rw (take-append-drop m lows, take-append-drop m highs) refl
  after_front (Ok tt) outcome units h = λ i.
      let left : Table = table_after outcome (table_of (take-take units m lows h i) (take-take units m highs h i)) in
      settlement (answer_of outcome) (write_front units m left.lows lows h i) (write_front units m left.highs highs h i)

  check_front : (marks : List ℕ) (units scratch : ℕ) → units ≤ m → check_table marks units (take m lows) (take m highs) scratch ≡ check_table marks units lows highs scratch
  unfolding check_table
  check_front marks units scratch h = rw (room_front units m lows h, room_front units m highs h, take-take units m lows h, take-take units m highs h) refl

  job_front : (marks : List ℕ) (groups : List Group) (units scratch : ℕ) → units ≤ m → longer (settle_job marks groups units (take m lows) (take m highs) scratch) ≡ settle_job marks groups units lows highs scratch
  unfolding settle_job
  job_front marks groups units scratch h =
      (λ i. longer (settled_after (check_front marks units scratch h i) (take m lows) (take m highs)
      (leaving (works.settle (running_groups marks groups) (table_of (take-take units m lows h i) (take-take units m highs h i))) units (take m lows) (take m highs))))
      ∙ after_front (check_table marks units lows highs scratch) (works.settle (running_groups marks groups) (table_of (take units lows) (take units highs))) units h

  -- settling a text looks at the first m entries alone
  text_front : (text : List ℕ) (scratch : ℕ) → FewIn m (read_job text) → longer (settle_text text (take m lows) (take m highs) scratch) ≡ settle_text text lows highs scratch
  unfolding settle_text
  text_front text scratch few = by_outcome (read_job text) refl few
    where
      by_outcome : (o : JobOrRefusal) → read_job text ≡ o → FewIn m o → longer (settle_text text (take m lows) (take m highs) scratch) ≡ settle_text text lows highs scratch
      by_outcome (accepted job) e few = rw (settle_text, e) (job_front job.marks job.groups (length job.lows) scratch few)
      by_outcome (refused r) e few = rw (settle_text, e, take-append-drop m lows, take-append-drop m highs) refl

  -- a report on the first m entries, with the entries past them
  abbrev wider : Reported → Reported
  wider r = reported r.answer (r.lows ++ drop m lows) (r.highs ++ drop m highs) r.buffer

  by_front : (marks : List ℕ) (groups : List Group) (units : ℕ) (answer : Result ℕ Unsettled) (ls hs buffer : List ℕ) → units ≤ m → let r : Reported = report_by marks groups units answer ls hs buffer in
      length r.lows ≡ length (take m lows) → length r.highs ≡ length (take m highs) → wider r ≡ report_by marks groups units answer (ls ++ drop m lows) (hs ++ drop m highs) buffer
  by_front marks groups units (Ok passes) ls hs buffer h p q = rw (take_front units m ls lows h p, take_front units m hs highs h q) refl
  by_front marks groups units (Err (NoPlan number place passes)) ls hs buffer h p q = refl
  by_front marks groups units (Err (Refused refusal)) ls hs buffer h p q = refl

  -- reporting a text looks at the first m entries alone, if it leaves as many
  report_front : (text : List ℕ) (scratch : ℕ) (buffer : List ℕ) → FewIn m (read_job text) → let r : Reported = report_text text (take m lows) (take m highs) scratch buffer in
      length r.lows ≡ length (take m lows) → length r.highs ≡ length (take m highs) → wider r ≡ report_text text lows highs scratch buffer
  unfolding report_text report_settled
  report_front text scratch buffer few = by_room (leb most_bytes (length buffer))
    where
      found : Job
      found = job_of (read_job text)

      few_found : (o : JobOrRefusal) → FewIn m o → length (job_of o).lows ≤ m
      few_found (accepted job) few = few
      few_found (refused r) few = omega arith

      short : List ℕ → List ℕ → Reported
      short ls hs = reported (Err (Refused (refusal 1 0))) ls hs buffer

      settled : List ℕ → List ℕ → Reported
      settled ls hs = report_settled found.marks found.groups (length found.lows) (settle_text text ls hs scratch) buffer

      by_room : (fits : Bool) → let r : Reported = pick fits (settled (take m lows) (take m highs)) (short (take m lows) (take m highs)) in
          length r.lows ≡ length (take m lows) → length r.highs ≡ length (take m highs) → wider r ≡ pick fits (settled lows highs) (short lows highs)
      by_room true p q =
          let s : Settlement = settle_text text (take m lows) (take m highs) scratch in
          by_front found.marks found.groups (length found.lows) s.answer s.lows s.highs buffer (few_found (read_job text) few) p q
          ∙ ap (λ (z : Settlement). report_settled found.marks found.groups (length found.lows) z buffer) (text_front text scratch few)
      by_room false p q = rw (take-append-drop m lows, take-append-drop m highs) refl

  -- and so does reading one
  fit_front : (o : JobOrRefusal) → FewIn m o → fit_table (length (take m lows)) (length (take m highs)) o ≡ fit_table (length lows) (length highs) o
  unfolding fit_table
  fit_front (accepted job) few = rw (room_front (length job.lows) m lows few, room_front (length job.lows) m highs few) refl
  fit_front (refused r) few = refl

  lows_front : (o : JobOrRefusal) → FewIn m o → lows_after o (take m lows) ++ drop m lows ≡ lows_after o lows
  lows_front (accepted job) few = write_front (length job.lows) m job.lows lows few
  lows_front (refused r) few = take-append-drop m lows

  highs_front : (o : JobOrRefusal) → FewIn m o → highs_after o (take m highs) ++ drop m highs ≡ highs_after o highs
  highs_front (accepted job) few = write_front (length job.lows) m job.highs highs few
  highs_front (refused r) few = take-append-drop m highs

  -- and so does writing one
  over_front : (marks : List ℕ) (groups : List Group) (units : ℕ) (buffer : List ℕ) → units ≤ m → write_over marks groups units (take m lows) (take m highs) buffer ≡ write_over marks groups units lows highs buffer
  unfolding write_over
  over_front marks groups units buffer h = rw (check_front marks units (8 * units) h, take-take units m lows h, take-take units m highs h) refl

  written_front : (text buffer : List ℕ) → FewIn m (read_job text) → write_text text (take m lows) (take m highs) buffer ≡ write_text text lows highs buffer
  unfolding write_text
  written_front text buffer few = by_outcome (read_job text) refl few
    where
      by_outcome : (o : JobOrRefusal) → read_job text ≡ o → FewIn m o → write_text text (take m lows) (take m highs) buffer ≡ write_text text lows highs buffer
      by_outcome (accepted job) e few = rw (write_text, e) (over_front job.marks job.groups (length job.lows) buffer few)
      by_outcome (refused r) e few = rw (write_text, e) refl

-- the table that bounds leave
abbrev pub put_back : Bounds → List Range → List Range
put_back c t = over c.count (ranges c.lows c.highs) t

module _ (text : List ℕ) (t : List Range) where
  -- settling over a table's bounds is settling over its lows and highs
  pub settled_table_lem : (scratch : ℕ) → let r : Bounds × Result ℕ Unsettled = after_settling text (bounds_of t) scratch in
      length r.0.lows ≡ most_units → length r.0.highs ≡ most_units
      → settlement r.1 (lows_in (put_back r.0 t)) (highs_in (put_back r.0 t)) ≡ settle_text text (lows_in t) (highs_in t) scratch
  settled_table_lem scratch p q =
      let n : ℕ = min (length t) most_units in
      let s : Settlement = settle_text text (take n (bounds_of t).lows) (take n (bounds_of t).highs) scratch in
      let back = put_table t s.lows s.highs p q in
      (λ i. settlement s.answer (back.0 i) (back.1 i))
      ∙ (λ i. longer most_units (lows_in t) (highs_in t) (settle_text text (bounds_hold (λ r. r.low) t i) (bounds_hold (λ r. r.high) t i) scratch))
      ∙ text_front most_units (lows_in t) (highs_in t) text scratch (few_units text)

  -- reporting over a table's bounds is reporting over its lows and highs
  pub reported_table : (scratch : ℕ) (buffer : List ℕ) → let r : Bounds × Result Written Unsettled = after_reporting text (bounds_of t) scratch buffer in
      length r.0.lows ≡ most_units → length r.0.highs ≡ most_units
      → reported r.1 (lows_in (put_back r.0 t)) (highs_in (put_back r.0 t)) (buffer_after text (bounds_of t) scratch buffer) ≡ report_text text (lows_in t) (highs_in t) scratch buffer
  reported_table scratch buffer p q =
      let n : ℕ = min (length t) most_units in
      let s : Reported = report_text text (take n (bounds_of t).lows) (take n (bounds_of t).highs) scratch buffer in
      let held : s ≡ report_text text (take most_units (lows_in t)) (take most_units (highs_in t)) scratch buffer =
      (λ i. report_text text (bounds_hold (λ r. r.low) t i) (bounds_hold (λ r. r.high) t i) scratch buffer) in
      let back = put_table t s.lows s.highs p q in
      (λ i. reported s.answer (back.0 i) (back.1 i) s.buffer)
      ∙ (λ i. wider most_units (lows_in t) (highs_in t) (held i))
      ∙ report_front most_units (lows_in t) (highs_in t) text scratch buffer (few_units text)
      (ap (λ (z : Reported). length z.lows) (sym held) ∙ front_length (λ r. r.low) t s.lows p ∙ sym (rw (length-take, length-map) (omega arith)))
      (ap (λ (z : Reported). length z.highs) (sym held) ∙ front_length (λ r. r.high) t s.highs q ∙ sym (rw (length-take, length-map) (omega arith)))

  -- reading into a table's bounds is reading into its lows and highs
  pub read_table_lem : let r : Bounds × Result Counts Refusal = after_reading text (bounds_of t) in
      length r.0.lows ≡ most_units → length r.0.highs ≡ most_units
      → ReadInto text (lows_in t) (highs_in t) (lows_in (put_back r.0 t)) (highs_in (put_back r.0 t)) r.1
  unfolding read_table
  read_table_lem p q =
      let lows : List ℕ = take (bounds_of t).count (bounds_of t).lows in
      let highs : List ℕ = take (bounds_of t).count (bounds_of t).highs in
      let held : JobOrRefusal = read_table text (length lows) (length highs) in
      let whole : JobOrRefusal = read_table text (length (lows_in t)) (length (highs_in t)) in
      let few : FewIn most_units whole = fit_few most_units (length (lows_in t)) (length (highs_in t)) (read_job text) (few_units text) in
      let found : held ≡ whole =
      (λ i. read_table text (length (bounds_hold (λ r. r.low) t i)) (length (bounds_hold (λ r. r.high) t i)))
      ∙ fit_front most_units (lows_in t) (highs_in t) (read_job text) (few_units text) in
      let back = put_table t (lows_after held lows) (highs_after held highs) p q in
      record {
        answer = ap reading_of found;
        lows_are =
            back.0
            ∙ (λ i. lows_after (found i) (bounds_hold (λ r. r.low) t i) ++ drop most_units (lows_in t))
            ∙ lows_front most_units (lows_in t) (highs_in t) whole few;
        highs_are =
            back.1
            ∙ (λ i. highs_after (found i) (bounds_hold (λ r. r.high) t i) ++ drop most_units (highs_in t))
            ∙ highs_front most_units (lows_in t) (highs_in t) whole few;
      }

  -- writing with a table's bounds is writing with its lows and highs
  pub written_table : (buffer : List ℕ) → after_writing text (bounds_of t) buffer ≡ write_text text (lows_in t) (highs_in t) buffer
  written_table buffer =
      (λ i. write_text text (bounds_hold (λ r. r.low) t i) (bounds_hold (λ r. r.high) t i) buffer)
      ∙ written_front most_units (lows_in t) (highs_in t) text buffer (few_units text)
