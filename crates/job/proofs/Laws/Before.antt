-- What 02's item 3 moved, and that nothing else did. Assumes nothing.
use Rattle.std.specs.Prelude.{ℕ, zero, suc, ◌+◌, ◌≤◌, Bool, true, false, List, [], ◌∷◌, ◌⊎◌, ◌↔◌, ◌≡◌, refl, leb, ltb, eqb, length}
use Rattle.std.proofs.Common.{inl, inr, sym, ap, ◌∙◌, arith, ne_eqb}
use Rattle.std.proofs.lemmas.Bool.{lt-leb}
use Rattle.text.specs.Ailments.{front_line, ended, paired, is_named, ailment_of}
use Rattle.groups.specs.Memberships.{memberships}
use Rattle.model.specs.Refusals.{refusal, unless}
use Rattle.model.specs.Figures.{greatest_deviation, greatest_spread, greatest_pairs, limit_within}
use Rattle.model.specs.Shares.{pick, greatest_share, greatest_total, most_units}
use Rattle.model.specs.declared.Limits.{Limits}
use Rattle.text.specs.Parsed.{Parsed, parsed, failed}
use Rattle.form.specs.Form.{line_low, line_high, limits_said, Line, unit, group, line}
use Rattle.job.specs.Job.{Job, unit_verdict, head_verdict, members_verdict, first_refusal, verdict, add, place_of, judged, step_on}
use Rattle.form.specs.Form.{most_bytes}
use Rattle.job.specs.Job.{most_groups, most_memberships, distinct, JobOrRefusal, accepted, refused, onward, read_lines, no_lines, some_unit, read_job}
use Rattle.form.specs.Named.{all_named}
use Rattle.job.specs.Before.{step_before, lines_before, read_before, of_form, as_before}

-- none, or one from 4 to 9
abbrev LineVerdict : ℕ → Type 0
LineVerdict v = (v ≡ 0) ⊎ ((4 ≤ v) × (v ≤ 9))

unless_verdict : (t : Bool) (n : ℕ) {r : ℕ} → 4 ≤ n → n ≤ 9 → LineVerdict r → LineVerdict (unless t n r)
unless_verdict true n least most rest = rest
unless_verdict false n least most rest = inr (least, most)

first_verdict : (a b : ℕ) → LineVerdict a → LineVerdict b → LineVerdict (first_refusal a b)
first_verdict zero b one other = other
first_verdict (suc a) b one other = one

-- the refusal of a line in the form
pub line_verdict : (job : Job) (l : Line) → LineVerdict (verdict job l)
unfolding verdict unit_verdict head_verdict members_verdict
line_verdict job (unit l) =
    unless_verdict (leb (line_low l) greatest_share) 4 (omega arith) (omega arith)
    (unless_verdict (leb (line_high l) greatest_share) 4 (omega arith) (omega arith)
    (unless_verdict (eqb (length job.groups) 0) 5 (omega arith) (omega arith)
    (unless_verdict (ltb (length job.lows) most_units) 6 (omega arith) (omega arith)
    (unless_verdict (leb (line_low l) (line_high l)) 7 (omega arith) (omega arith) (inl refl)))))
line_verdict job (group g) =
    let ms : List ℕ = g.first ∷ g.others in
    let limits : Limits = limits_said g.heading in
    first_verdict (head_verdict (length job.groups) (memberships job.groups) g.heading.total limits (length ms))
    (members_verdict (length job.lows) ms)
    (unless_verdict (leb g.heading.total greatest_total) 4 (omega arith) (omega arith)
    (unless_verdict (limit_within limits.deviation greatest_deviation) 4 (omega arith) (omega arith)
    (unless_verdict (limit_within limits.spread greatest_spread) 4 (omega arith) (omega arith)
    (unless_verdict (limit_within limits.pairs greatest_pairs) 4 (omega arith) (omega arith)
    (unless_verdict (ltb (length job.groups) most_groups) 6 (omega arith) (omega arith)
    (unless_verdict (leb (memberships job.groups + length ms) most_memberships) 6 (omega arith) (omega arith) (inl refl)))))))
    (unless_verdict (all_named (length job.lows) ms) 8 (omega arith) (omega arith)
    (unless_verdict (distinct ms) 9 (omega arith) (omega arith) (inl refl)))

-- is no number of a line not in the form
pub verdict_apart : {v : ℕ} → LineVerdict v → of_form v ≡ false
unfolding of_form
verdict_apart {v} (inl e) = rw e
verdict_apart {v} (inr h) = rw (ne_eqb v 3 (λ e. omega arith), lt-leb 13 v (omega arith))

-- what ails a line is one
pub ailment_form : (bytes : List ℕ) → of_form (ailment_of bytes) ≡ true
unfolding ailment_of of_form
ailment_form bytes = by_tests (ended bytes) (paired 0 0 bytes) (is_named bytes)
  where
    by_tests : (e p o : Bool) → of_form (unless e 13 (unless p 14 (unless o 15 3))) ≡ true
    by_tests false p o = refl
    by_tests true false o = refl
    by_tests true true false = refl
    by_tests true true true = refl

-- line by line
lines_before_lem : (n : ℕ) (job : Job) (s : List ℕ) → lines_before n job s ≡ as_before (read_lines n job s)
unfolding lines_before read_lines step_before step_on onward as_before
lines_before_lem zero job s = refl
lines_before_lem (suc n) job [] = refl
lines_before_lem (suc n) job (b ∷ s) = by_line (line (b ∷ s)) (λ k r. lines_before_lem n k r)
  where
    by_number : (v : ℕ) → of_form v ≡ false → (k : Job) (r : List ℕ) → lines_before n k r ≡ as_before (read_lines n k r)
        → onward (λ j r. lines_before n j r) (judged v k r (place_of job)) ≡ as_before (onward (λ j r. read_lines n j r) (judged v k r (place_of job)))
    by_number zero apart k r again = again
    by_number (suc v) apart k r again = rw apart

    by_line : (p : Parsed Line) → ((k : Job) (r : List ℕ) → lines_before n k r ≡ as_before (read_lines n k r))
        → onward (λ j r. lines_before n j r) (step_before job p) ≡ as_before (onward (λ j r. read_lines n j r) (step_on job (b ∷ s) p))
    by_line (parsed l r) again = by_number (verdict job l) (verdict_apart (line_verdict job l)) (add job l) r (again (add job l) r)
    by_line failed again = rw (ailment_form (front_line (b ∷ s)))

some_before : (o : JobOrRefusal) → some_unit (as_before o) ≡ as_before (some_unit o)
unfolding some_unit as_before of_form
some_before (accepted job) = by_count (eqb (length job.lows) 0)
  where
    by_count : (t : Bool) → pick t (refused (refusal 10 0)) (accepted job) ≡ as_before (pick t (refused (refusal 10 0)) (accepted job))
    by_count true = refl
    by_count false = refl
some_before (refused r) = refl

-- every text is read as it was but for the numbers of lines that are not in the form: accepted alike, or refused at the same place, with
-- the same number, except that some 3 are 13, 14 or 15 now
pub read_before_lem : (text : List ℕ) → read_before text ≡ as_before (read_job text)
unfolding read_before read_job as_before of_form
read_before_lem text = by_length (leb (length text) most_bytes)
  where
    by_length : (t : Bool) → pick t (some_unit (lines_before (length text) no_lines text)) (refused (refusal 2 0))
        ≡ as_before (pick t (some_unit (read_lines (length text) no_lines text)) (refused (refusal 2 0)))
    by_length true = ap some_unit (lines_before_lem (length text) no_lines text) ∙ some_before (read_lines (length text) no_lines text)
    by_length false = refl

-- a text is accepted exactly if it was, as the same job
pub accepted_before : (text : List ℕ) (job : Job) → (read_job text ≡ accepted job) ↔ (read_before text ≡ accepted job)
unfolding as_before
accepted_before text job = (λ e. read_before_lem text ∙ ap as_before e, λ e. by_outcome (read_job text) (sym (read_before_lem text) ∙ e))
  where
    by_outcome : (o : JobOrRefusal) → as_before o ≡ accepted job → o ≡ accepted job
    by_outcome (accepted k) e = e
    by_outcome (refused r) e = absurd (let z : ◌≡◌ {A = ℕ} 0 1 = cc in omega arith)
