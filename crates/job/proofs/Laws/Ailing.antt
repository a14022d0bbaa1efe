-- A text is refused with 13, 14, 15 or 3 exactly if its first bad line is not in the form and has that number. Assumes nothing.
use Rattle.std.specs.Prelude.{ℕ, zero, suc, ◌≤◌, Bool, true, false, List, [], ◌∷◌, ◌++◌, ◌↔◌, ◌≡◌, refl, leb, eqb, length}
use Rattle.std.proofs.Common.{sym, ap, subst, ◌∙◌, arith, le-leb, leb-true, length-append}
use Rattle.text.specs.Ailments.{front_line, ended, ailment_of}
use Rattle.text.specs.Laws.Sentences.{none_ended, ails_exactly}
use Rattle.text.specs.Laws.Walking.{ended_front, whole_line}
use Rattle.text.specs.Sentences.{Unended}
use Rattle.model.proofs.Laws.Tests.{clash}
use Rattle.model.specs.Refusals.{refusal}
use Rattle.model.specs.Shares.{pick}
use Rattle.model.specs.declared.Refusal.{Refusal}
use Rattle.text.specs.Parsed.{Parsed, parsed, failed}
use Rattle.form.specs.Form.{Line, print_line, line}
use Rattle.job.specs.Job.{Job, verdict, add, next, place_of, judged, step_on, JobOrRefusal, accepted, refused, onward, read_lines, no_lines, some_unit}
use Rattle.form.specs.Form.{most_bytes}
use Rattle.job.specs.Job.{read_job}
use Rattle.job.proofs.Laws.Reading.{line_long, read_next, read_stop}
use Rattle.form.specs.Laws.Spelling.{line_printed, printed_line_lem}
use Rattle.job.proofs.Laws.TextLines.{first_line_of, lines_next, printed_one}
use Rattle.job.specs.TextLines.{lines_of}
use Rattle.job.specs.Before.{of_form}
use Rattle.job.proofs.Laws.Before.{line_verdict, verdict_apart}
use Rattle.job.specs.Ailing.{Ailing, AilingText}

-- the first line of a text that begins with a line in the form
front_printed : (l : Line) (b : ℕ) (s rest : List ℕ) → b ∷ s ≡ print_line l ++ rest → front_line (b ∷ s) ≡ print_line l
front_printed l b s rest spelled =
    let (after, cut, lines) = first_line_of b s in
    let two : front_line (b ∷ s) ∷ lines_of after ≡ print_line l ∷ lines_of rest = sym lines ∙ ap lines_of spelled ∙ lines_next (printed_one l) rest in
    cc

-- a line that does not read is not in the form
strange_of : (b : ℕ) (s : List ℕ) → line (b ∷ s) ≡ failed → (l : Line) → front_line (b ∷ s) ≡ print_line l → ⊥
strange_of b s none l is =
    let (rest, cut, lines) = first_line_of b s in
    let reads : line (b ∷ s) ≡ parsed l rest = ap line (cut ∙ ap (λ w. w ++ rest) is) ∙ line_printed l rest in
    let apart : parsed l rest ≡ failed = sym reads ∙ none in
    let z : ◌≡◌ {A = ℕ} 0 1 = cc in
    omega arith

-- one that is not in the form does not read
strange_fails : (b : ℕ) (s : List ℕ) → ((l : Line) → front_line (b ∷ s) ≡ print_line l → ⊥) → line (b ∷ s) ≡ failed
strange_fails b s strange = by_line (line (b ∷ s)) refl
  where
    by_line : (p : Parsed Line) → line (b ∷ s) ≡ p → p ≡ failed
    by_line (parsed l rest) reads = absurd (strange l (front_printed l b s rest (printed_line_lem (b ∷ s) reads)))
    by_line failed reads = refl

-- equal refusals have one number and one place
same_refusal : {a b p q : ℕ} → refused (refusal a p) ≡ refused (refusal b q) → (a ≡ b) × (p ≡ q)
same_refusal {a} {b} {p} {q} h =
    let same : refusal a p ≡ refusal b q = cc in
    (ap (λ (r : Refusal). r.number) same, ap (λ (r : Refusal). r.place) same)

-- the lines of shorter texts, at most so long
abbrev Again : ℕ → ℕ → ℕ → Type 0
Again n number place =
    (job : Job) (s : List ℕ) → length s ≤ n → read_lines n job s ≡ refused (refusal number place) → Ailing job (lines_of s) number place

-- a refusal with such a number is that of a line not in the form
read_ails : (n : ℕ) (job : Job) (s : List ℕ) (number place : ℕ) → length s ≤ n → of_form number ≡ true
    → read_lines n job s ≡ refused (refusal number place) → Ailing job (lines_of s) number place
unfolding read_lines step_on onward
read_ails zero job s number place short form h = absurd (let z : ◌≡◌ {A = ℕ} 0 1 = cc in omega arith)
read_ails (suc n) job [] number place short form h = absurd (let z : ◌≡◌ {A = ℕ} 0 1 = cc in omega arith)
read_ails (suc n) job (b ∷ s) number place short form h =
    by_line (line (b ∷ s)) refl h (λ k r below again. read_ails n k r number place below form again)
  where
    by_number : (v : ℕ) (l : Line) (r : List ℕ) → verdict job l ≡ v → b ∷ s ≡ print_line l ++ r
        → onward (λ k r. read_lines n k r) (judged v (add job l) r (place_of job)) ≡ refused (refusal number place) → Again n number place
        → Ailing job (lines_of (b ∷ s)) number place
    by_number zero l r good spelled goes_on again =
        let shorter : length r ≤ n = omega (arith, ap length spelled, length-append (print_line l) r, line_long l) in
        let cut : print_line l ∷ lines_of r ≡ lines_of (b ∷ s) = sym (ap lines_of spelled ∙ lines_next (printed_one l) r) in
        subst (λ lines. Ailing job lines number place) cut (Ailing.later l refl good (again (add job l) r shorter goes_on))
    by_number (suc v) l r bad spelled stops again =
        absurd (clash (rw (← (same_refusal stops).0) at form) (rw bad at (verdict_apart (line_verdict job l))))

    by_line : (p : Parsed Line) → line (b ∷ s) ≡ p → onward (λ k r. read_lines n k r) (step_on job (b ∷ s) p) ≡ refused (refusal number place)
        → Again n number place → Ailing job (lines_of (b ∷ s)) number place
    by_line (parsed l r) reads h again = by_number (verdict job l) l r refl (printed_line_lem (b ∷ s) reads) h again
    by_line failed reads h again =
        let (first, at) = same_refusal h in
        let ails = (ails_exactly (front_line (b ∷ s)) number).0 first in
        subst (λ lines. Ailing job lines number place) (sym (first_line_of b s).2) (Ailing.here (strange_of b s reads) ails (sym at))

-- no bytes
nothing : (s : List ℕ) → length s ≡ 0 → s ≡ []
nothing [] h = refl
nothing (b ∷ s) h = absurd (omega arith)

-- equal lists of lines
heads : {a b : List ℕ} {xs ys : List (List ℕ)} → a ∷ xs ≡ b ∷ ys → a ≡ b
heads h = cc

tails : {a b : List ℕ} {xs ys : List (List ℕ)} → a ∷ xs ≡ b ∷ ys → xs ≡ ys
tails h = cc

-- and of a line not in the form is such a refusal
ails_read : (n : ℕ) {job : Job} {lines : List (List ℕ)} {number place : ℕ} → Ailing job lines number place → (s : List ℕ) → lines ≡ lines_of s
    → length s ≤ n → read_lines n job s ≡ refused (refusal number place)
unfolding step_on lines_of
ails_read n (Ailing.here strange ails at) [] are short = absurd (let z : ◌≡◌ {A = ℕ} 0 1 = cc in omega arith)
ails_read n {job} {number = number} {place = place} (Ailing.here {bytes = bytes} {lines = lines} strange ails at) (b ∷ s) are short =
    let (rest, cut, others) = first_line_of b s in
    let first : bytes ≡ front_line (b ∷ s) = heads (are ∙ others) in
    let none = strange_fails b s (λ l is. strange l (first ∙ is)) in
    let number_is : ailment_of (front_line (b ∷ s)) ≡ number = ap ailment_of (sym first) ∙ (ails_exactly bytes number).1 ails in
    read_stop n job (b ∷ s) (refusal number place) (omega arith) short (rw (none, number_is, at))
ails_read n (Ailing.later l is good behind) [] are short = absurd (let z : ◌≡◌ {A = ℕ} 0 1 = cc in omega arith)
ails_read n {job} (Ailing.later l is good behind) (b ∷ s) are short =
    let (rest, cut, others) = first_line_of b s in
    let first = heads (are ∙ others) in
    let spelled : b ∷ s ≡ print_line l ++ rest = cut ∙ ap (λ w. w ++ rest) (sym first ∙ is) in
    let steps : step_on job (b ∷ s) (line (b ∷ s)) ≡ next (add job l) rest = rw (ap line spelled ∙ line_printed l rest, good) in
    let (m, fits, shorter, reads) = read_next n job (b ∷ s) (add job l) rest (omega arith) short steps in
    reads ∙ ails_read m behind rest (tails (are ∙ others)) fits

-- a line of a text without byte 10 is its last
pub last_line : (s : List ℕ) (front : List (List ℕ)) {bytes : List ℕ} {rest : List (List ℕ)} → lines_of s ≡ front ++ bytes ∷ rest → Unended bytes → rest ≡ []
unfolding lines_of
last_line [] [] are none = absurd (let z : ◌≡◌ {A = ℕ} 0 1 = cc in omega arith)
last_line [] (f ∷ front) are none = absurd (let z : ◌≡◌ {A = ℕ} 0 1 = cc in omega arith)
last_line (b ∷ s) [] {bytes} are none =
    let (after, cut, lines) = first_line_of b s in
    let first : bytes ≡ front_line (b ∷ s) = heads (sym are ∙ lines) in
    let whole = whole_line (b ∷ s) (sym (ended_front (b ∷ s)) ∙ ap ended (sym first) ∙ none_ended bytes none) in
    let past : after ≡ [] = nothing after (omega (arith, ap length cut, ap length whole, length-append (front_line (b ∷ s)) after)) in
    tails (sym are ∙ lines) ∙ ap lines_of past
last_line (b ∷ s) (f ∷ front) are none =
    let (after, cut, lines) = first_line_of b s in
    last_line after front (tails (sym lines ∙ are)) none

-- such a refusal is none of those that no line causes
line_refused : (o : JobOrRefusal) (number place : ℕ) → of_form number ≡ true → some_unit o ≡ refused (refusal number place)
    → o ≡ refused (refusal number place)
unfolding some_unit of_form
line_refused (accepted job) number place form h = by_count (eqb (length job.lows) 0) h
  where
    by_count : (t : Bool) → pick t (refused (refusal 10 0)) (accepted job) ≡ refused (refusal number place) → accepted job ≡ refused (refusal number place)
    by_count true h = absurd (clash form (ap of_form (sym (same_refusal h).0)))
    by_count false h = h
line_refused (refused r) number place form h = h

-- a text is refused with 13, 14, 15 or 3 exactly if its first bad line is not in the form and 02's words for that number hold of its bytes
pub ailing_exactly : (text : List ℕ) (number place : ℕ) → of_form number ≡ true
    → (read_job text ≡ refused (refusal number place)) ↔ AilingText text number place
unfolding read_job some_unit of_form
ailing_exactly text number place form = (by_length (leb (length text) most_bytes) refl, given)
  where
    by_length : (t : Bool) → leb (length text) most_bytes ≡ t
        → pick t (some_unit (read_lines (length text) no_lines text)) (refused (refusal 2 0)) ≡ refused (refusal number place)
        → AilingText text number place
    by_length true fits h = record {
      short = leb-true (length text) most_bytes fits;
      ailing = read_ails (length text) no_lines text number place (omega arith) form (line_refused (read_lines (length text) no_lines text) number place form h);
    }
    by_length false fits h = absurd (clash form (ap of_form (sym (same_refusal h).0)))

    given : AilingText text number place → read_job text ≡ refused (refusal number place)
    given ails = rw (le-leb (length text) most_bytes ails.short, ails_read (length text) ails.ailing text refl (omega arith))
