-- A text is accepted exactly if each of its lines is taken in turn. Assumes nothing.
use Rattle.std.specs.Prelude.{ℕ, zero, suc, ◌≤◌, ◌<◌, Bool, true, false, ◌≡◌, refl, leb, eqb, length}
use mathlib.Core.List.{List, [], ◌∷◌, ◌++◌, flatten as joined}
use Rattle.std.proofs.Common.{sym, ap, subst, ◌∙◌, arith, le-leb, leb-true, ne_eqb, length-append}
use Rattle.model.specs.Shares.{pick}
use Rattle.text.specs.Parsed.{Parsed, parsed, failed}
use Rattle.form.specs.Form.{Line, print_line, line}
use Rattle.job.specs.Job.{Job, verdict, add, place_of, judged, next, step_on, JobOrRefusal, accepted, refused, onward, read_lines}
use Rattle.form.specs.Form.{most_bytes}
use Rattle.job.specs.Job.{no_lines, some_unit, read_job}
use Rattle.job.proofs.Laws.Reading.{line_long, read_next, read_end}
use Rattle.job.proofs.Laws.Sound.{accepted_sound}
use Rattle.form.specs.Laws.Spelling.{line_printed, printed_line_lem}
use Rattle.job.specs.TextLines.{lines_of}
use Rattle.job.proofs.Laws.TextLines.{lines_next, printed_one}
use Rattle.job.specs.Accepting.{Takes, Accepts}
use Rattle.model.specs.Refusals.{refusal}

-- where reading goes on after a line, the line has no refusal
judged_on : (number : ℕ) (job : Job) (s : List ℕ) (place : ℕ) (k : Job → List ℕ → JobOrRefusal) (final : Job)
    → onward k (judged number job s place) ≡ accepted final → (number ≡ 0) × (k job s ≡ accepted final)
unfolding onward
judged_on zero job s place k final h = (refl, h)
judged_on (suc number) job s place k final h = absurd (let z : ◌≡◌ {A = ℕ} 0 1 = cc in omega arith)

-- the lines of a text that is read are taken
read_takes : (n : ℕ) (job : Job) (s : List ℕ) (final : Job) → length s ≤ n → read_lines n job s ≡ accepted final → Takes job (lines_of s) final
unfolding read_lines lines_of step_on onward
read_takes zero job [] final short h = let same : job ≡ final = cc in Takes.none same
read_takes (suc n) job [] final short h = let same : job ≡ final = cc in Takes.none same
read_takes zero job (b ∷ s) final short h = absurd (omega arith)
read_takes (suc n) job (b ∷ s) final short h =
    by_line (line (b ∷ s)) refl h (λ job r below again. read_takes n job r final below again)
  where
    by_line : (p : Parsed Line) → line (b ∷ s) ≡ p → onward (λ job s. read_lines n job s) (step_on job (b ∷ s) p) ≡ accepted final
        → ((job : Job) (r : List ℕ) → length r ≤ n → read_lines n job r ≡ accepted final → Takes job (lines_of r) final)
        → Takes job (lines_of (b ∷ s)) final
    by_line (parsed l r) reads goes_on again =
        let spelled : b ∷ s ≡ print_line l ++ r = printed_line_lem (b ∷ s) reads in
        let (good, rest) = judged_on (verdict job l) (add job l) r (place_of job) (λ job s. read_lines n job s) final goes_on in
        let shorter : length r ≤ n = omega (arith, ap length spelled, length-append (print_line l) r, line_long l) in
        let cut : print_line l ∷ lines_of r ≡ lines_of (b ∷ s) = sym (ap lines_of spelled ∙ lines_next (printed_one l) r) in
        subst (λ lines. Takes job lines final) cut (Takes.also l refl good (again (add job l) r shorter rest))
    by_line failed reads goes_on again = absurd (let z : ◌≡◌ {A = ℕ} 0 1 = cc in omega arith)

-- lines that are taken read so
takes_reads : (n : ℕ) {job final : Job} {lines : List (List ℕ)} → Takes job lines final → length (joined lines) ≤ n
    → read_lines n job (joined lines) ≡ accepted final
unfolding joined step_on
takes_reads n (Takes.none same) short = rw same (read_end n _)
takes_reads n {job} {final} (Takes.also {lines = lines} l is good rest) short =
    let steps : step_on job (print_line l ++ joined lines) (line (print_line l ++ joined lines)) ≡ next (add job l) (joined lines) = rw (line_printed l (joined lines), good) in
    let long : 0 < length (print_line l ++ joined lines) = omega (arith, length-append (print_line l) (joined lines), line_long l) in
    let (m, fits, shorter, reads) = read_next n job (print_line l ++ joined lines) (add job l) (joined lines) long (rw is at short) steps in
    rw is (reads ∙ takes_reads m rest fits)

-- what is accepted with a unit line is accepted
some_unit_of : (o : JobOrRefusal) (found : Job) → some_unit o ≡ accepted found → o ≡ accepted found
unfolding some_unit
some_unit_of (accepted job) found h = by_count (eqb (length job.lows) 0) h
  where
    by_count : (t : Bool) → pick t (refused (refusal 10 0)) (accepted job) ≡ accepted found → accepted job ≡ accepted found
    by_count true h = absurd (let z : ◌≡◌ {A = ℕ} 0 1 = cc in omega arith)
    by_count false h = h
some_unit_of (refused r) found h = h

-- every accepted text is such
pub accepted_takes : (text : List ℕ) (found : Job) → read_job text ≡ accepted found → Accepts text found
unfolding read_job
accepted_takes text found h = by_length (leb (length text) most_bytes) refl h
  where
    by_length : (t : Bool) → leb (length text) most_bytes ≡ t
        → pick t (some_unit (read_lines (length text) no_lines text)) (refused (refusal 2 0)) ≡ accepted found → Accepts text found
    by_length true fits reads = record {
      short = leb-true (length text) most_bytes fits;
      some_unit = (accepted_sound text found h).some_unit;
      takes = read_takes (length text) no_lines text found (omega arith) (some_unit_of (read_lines (length text) no_lines text) found reads);
    }
    by_length false fits reads = absurd (let z : ◌≡◌ {A = ℕ} 0 1 = cc in omega arith)

-- and every such text is accepted
pub takes_accepted : (found : Job) (lines : List (List ℕ)) → length (joined lines) ≤ most_bytes → 1 ≤ length found.lows
    → Takes no_lines lines found → read_job (joined lines) ≡ accepted found
unfolding read_job some_unit
takes_accepted found lines short some takes =
    rw (
      le-leb (length (joined lines)) most_bytes short,
      takes_reads (length (joined lines)) takes (omega arith),
      ne_eqb (length found.lows) 0 (λ e. omega arith),
    )
