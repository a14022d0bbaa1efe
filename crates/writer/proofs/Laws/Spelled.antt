-- A text that is accepted is the text of its job. Assumes nothing.
use Rattle.std.specs.Prelude.{ℕ, suc, true, ◌≡◌, refl, leb, length}
use mathlib.Core.List.{List, [], ◌∷◌, ◌++◌, map, flatten, append_assoc, append-nil}
use Rattle.std.proofs.Common.{sym, ap, ◌∙◌, arith, leb-true, length-append}
use Rattle.groups.specs.Memberships.{memberships}
use Rattle.job.specs.Accepting.{Takes}
use Rattle.form.specs.Form.{Line, UnitLine, range, shut, line_low, line_high, line_mark, unit, group, print_unit_line, print_line}
use Rattle.form.specs.Form.{PairsLimit, unsaid, said, pairs_limit, is_said, limits_said}
use Rattle.job.specs.Job.{Job, group_of, head_verdict, members_verdict, verdict, add, accepted, read_job}
use Rattle.form.specs.Named.{named, all_named, member_of}
use Rattle.job.proofs.Laws.Accepting.{accepted_takes, takes_accepted}
use Rattle.job.proofs.Laws.TextLines.{joined_lines}
use Rattle.job.proofs.Laws.Verdicts.{unit_good, first_zero, members_good}
use Rattle.job.specs.Sound.{SoundJob}
use Rattle.model.specs.Groups.{Group}
use Rattle.model.proofs.Laws.Tests.{both_left, both_right}
use Rattle.writer.proofs.Laws.Lengths.{text_fits}
use Rattle.writer.proofs.Laws.Taken.{takes_job}
use Rattle.job_lines.specs.Texts.{range_line, range_lines, pairs_written, member_line, job_lines, job_text}

-- named unit numbers are those of their members
numbers_again : (units : ℕ) (ms : List ℕ) → all_named units ms ≡ true → map suc (map member_of ms) ≡ ms
unfolding all_named
numbers_again units [] held = refl
numbers_again units (m ∷ ms) held =
    let some = leb-true 1 m (both_left (leb 1 m) (leb m units) (both_left (named units m) (all_named units ms) held)) in
    let same : suc (member_of m) ≡ m = omega arith in
    rw (same, numbers_again units ms (both_right (named units m) (all_named units ms) held))

-- a unit line is that of its mark and its range
line_again : (l : UnitLine) → range_line (line_mark l) (line_low l) (line_high l) ≡ print_unit_line l
line_again (range low high) = refl
line_again shut = refl

-- a pairs limit is that of what is kept of it
pairs_again : (p : PairsLimit) → pairs_written (is_said p) (pairs_limit p) ≡ p
pairs_again unsaid = refl
pairs_again (said limit) = refl

-- one unit more is one line more
ranges_snoc : (marks lows highs : List ℕ) (mark low high : ℕ) → length highs ≡ length lows → length marks ≡ length lows
    → range_lines (marks ++ mark ∷ []) (lows ++ low ∷ []) (highs ++ high ∷ []) ≡ range_lines marks lows highs ++ range_line mark low high ∷ []
unfolding range_lines
ranges_snoc [] [] [] mark low high paired many = refl
ranges_snoc [] [] (h ∷ highs) mark low high paired many = absurd (omega arith)
ranges_snoc [] (l ∷ lows) highs mark low high paired many = absurd (omega arith)
ranges_snoc (m ∷ marks) [] highs mark low high paired many = absurd (omega arith)
ranges_snoc (m ∷ marks) (l ∷ lows) [] mark low high paired many = absurd (omega arith)
ranges_snoc (m ∷ marks) (l ∷ lows) (h ∷ highs) mark low high paired many =
    ap (λ (lines : List (List ℕ)). range_line m l h ∷ lines) (ranges_snoc marks lows highs mark low high (omega arith) (omega arith))

-- one group more is one line more
groups_snoc : (groups : List Group) (g : Group) → map member_line (groups ++ g ∷ []) ≡ map member_line groups ++ member_line g ∷ []
groups_snoc [] g = refl
groups_snoc (h ∷ groups) g = ap (λ (ls : List (List ℕ)). member_line h ∷ ls) (groups_snoc groups g)

-- no groups have no lines
no_lines_lem : (groups : List Group) → length groups ≡ 0 → map member_line groups ≡ []
no_lines_lem [] none = refl
no_lines_lem (g ∷ groups) none = absurd (omega arith)

-- each unit of a job has a low, a high and a mark
record Paired (job : Job) : Type 0 where
  highs : length job.highs ≡ length job.lows
  marks : length job.marks ≡ length job.lows

-- a line that is taken is one line more of the job
line_more : (job : Job) (l : Line) → Paired job → verdict job l ≡ 0
    → job_lines (add job l) ≡ job_lines job ++ print_line l ∷ []
unfolding add verdict print_line member_line
line_more job (unit u) paired good =
    let none = no_lines_lem job.groups (unit_good _ _ u good).no_group in
    rw (
      none,
      ranges_snoc job.marks job.lows job.highs (line_mark u) (line_low u) (line_high u) paired.highs paired.marks,
      line_again u,
      append-nil (range_lines job.marks job.lows job.highs),
    )
    (append-nil _)
line_more job (group g) paired good =
    let numbers : List ℕ = g.first ∷ g.others in
    let head : ℕ = head_verdict (length job.groups) (memberships job.groups) g.heading.total (limits_said g.heading) (length numbers) in
    let no_refusal = first_zero head (members_verdict (length job.lows) numbers) good in
    let named_all = (members_good (length job.lows) numbers no_refusal.1).all_named in
    let printed : member_line (group_of g) ≡ print_line (group g) =
    rw (numbers_again (length job.lows) numbers named_all, pairs_again g.heading.pairs) in
    rw (groups_snoc job.groups (group_of g), printed)
    (sym (append_assoc (range_lines job.marks job.lows job.highs) (map member_line job.groups) (print_line (group g) ∷ [])))

-- it keeps them so
still_paired : (job : Job) (l : Line) → Paired job → Paired (add job l)
unfolding add
still_paired job (unit u) paired = record {
  highs = omega (arith, length-append job.lows (line_low u ∷ []), length-append job.highs (line_high u ∷ []), paired.highs);
  marks = omega (arith, length-append job.lows (line_low u ∷ []), length-append job.marks (line_mark u ∷ []), paired.marks);
}
still_paired job (group g) paired = record { highs = paired.highs; marks = paired.marks }

-- the lines that are taken are those by which the job grows
takes_lines : {job final : Job} {lines : List (List ℕ)} → Paired job → Takes job lines final
    → job_lines final ≡ job_lines job ++ lines
takes_lines {job} paired (Takes.none same) = ap job_lines (sym same) ∙ sym (append-nil (job_lines job))
takes_lines {job} paired (Takes.also {lines = lines} l is good rest) =
    takes_lines (still_paired job l paired) rest
    ∙ ap (λ (ls : List (List ℕ)). ls ++ lines) (line_more job l paired good)
    ∙ append_assoc (job_lines job) (print_line l ∷ []) lines
    ∙ ap (λ (bytes : List ℕ). job_lines job ++ bytes ∷ lines) (sym is)

-- what is accepted as a job is that job's text
pub accepted_text : (text : List ℕ) {found : Job} → read_job text ≡ accepted found → job_text found ≡ text
unfolding job_text range_lines
accepted_text text {found} reads =
    ap flatten (takes_lines (record { highs = refl; marks = refl }) (accepted_takes text found reads).takes) ∙ joined_lines text

-- the text of a sound job is accepted as that job
pub text_accepted : (job : Job) → SoundJob job → read_job (job_text job) ≡ accepted job
unfolding job_text
text_accepted job sound =
    takes_accepted job (job_lines job) (omega (arith, text_fits job sound)) sound.some_unit (takes_job job sound)
