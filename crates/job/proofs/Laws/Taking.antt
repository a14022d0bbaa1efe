-- Taking a line: the code's tests and stores do to its lists what the line does to the job. Assumes nothing.
use Rattle.std.specs.Prelude.{ℕ, zero, suc, ◌+◌, ◌≤◌, ◌<◌, Bool, List, [], ◌∷◌, ◌++◌, map, ◌≡◌, refl, length, drop, set, Err}
use Rattle.std.proofs.Common.{sym, ◌∙◌, arith, length-append, length-drop}
use Rattle.std.proofs.Math.Path.{ap}
use Rattle.std.proofs.Math.ListN.{length-map}
use Rattle.std.proofs.lemmas.List.Edits.{sets}
use Rattle.model.specs.declared.Limits.{Limits}
use Rattle.text.specs.Parsed.{parsed, failed, mapped, or_else}
use Rattle.text.specs.Inner.Numbers.{held}
use Rattle.form.specs.Form.{UnitLine, range, line_low, line_high, line_mark, is_said, Heading, limits_said, GroupLine, unit, group, unit_as, group_as, line_as, line}
use Rattle.job.proofs.Laws.HeldAlike.{step_held}
use Rattle.groups.specs.Inner.Flat.{most_flat, marks_from, marks_in, head_length, head_of, flat_group, flatten, flat_length}
use Rattle.groups.specs.Laws.Marks.{marks_behind, mark_behind, sets_snoc, marks_more}
use Rattle.groups.specs.Laws.Storing.{flatten_snoc, length_flatten, memberships_snoc, stored, put_behind}
use Rattle.job.specs.Job.{Job, unit_verdict, head_verdict, members_verdict, verdict, first_refusal, group_of, add, place_of}
use Rattle.form.specs.Named.{member_of}
use Rattle.job.specs.Job.{judged, next, stop, step_on}
use Rattle.form.specs.Laws.Tally.{numbers_of}
use Rattle.job.proofs.Laws.Verdicts.{unit_good, head_good}
use Rattle.job.specs.Inner.Verdicts.{verdict_answer}
use Rattle.job.specs.Inner.Steps.{Lists, ReadSoFar}
use Rattle.form.specs.Inner.LinesRead.{kept_unit}
use Rattle.form.specs.declared.Unit.{Unit}
use Rattle.job.specs.declared.steps.Progress.{Progress}
use Rattle.job.specs.Inner.Taking.{place_at}
use Rattle.model.specs.Shares.{most_units}
use Rattle.text.specs.Ailments.{front_line, ailment_of}
use Rattle.model.specs.Refusals.{refusal}
use Rattle.model.specs.declared.Refusal.{Refusal}

judged_stop : (v : ℕ) (job : Job) (s : List ℕ) (place : ℕ) → (v ≡ 0 → ⊥) → judged v job s place ≡ stop (refusal v place)
judged_stop zero job s place n = absurd (n refl)
judged_stop (suc v) job s place n = refl

-- a verdict that the code answers with a refusal stops the reading with it
judged_err : (v : ℕ) (job : Job) (s : List ℕ) (place : ℕ) {r : Refusal} → Err r ≡ verdict_answer v place → judged v job s place ≡ stop r
judged_err zero job s place e = cc
judged_err (suc v) job s place e = cc

-- the verdict on a unit line is that on its low and high as the code keeps them
pub verdict_kept : (p : Progress) (l : UnitLine) (u : Unit) → kept_unit l ≡ u
    → unit_verdict p.units p.groups (range u.low u.high) ≡ unit_verdict p.units p.groups l
unfolding unit_verdict
verdict_kept p l u is = rw (← is)

module _ (job : Job) (p : Progress) (l : Lists) (holds : ReadSoFar job p l) where
  place_held : place_of job ≡ place_at p
  place_held = rw (holds.units, holds.groups)

  -- a line that is not in the form
  pub not_in_form : (s : List ℕ) → step_on job s failed ≡ stop (refusal (ailment_of (front_line s)) (place_at p))
  unfolding step_on
  not_in_form s = rw place_held

  unit_verdict_lem : (u : UnitLine) → verdict job (unit u) ≡ unit_verdict p.units p.groups u
  unfolding verdict
  unit_verdict_lem u = rw (holds.units, holds.groups)

  -- a unit line with a refusal
  pub unit_refused : (u : UnitLine) (from s : List ℕ) (v : ℕ) → v ≡ unit_verdict p.units p.groups u → (v ≡ 0 → ⊥)
      → step_on job from (parsed (unit u) s) ≡ stop (refusal v (place_at p))
  unfolding step_on
  unit_refused u from s v e n = rw (unit_verdict_lem u, ← e, judged_stop v (add job (unit u)) s (place_of job) n, place_held)

  -- a unit line that the code answers with a refusal
  pub unit_err : (u : UnitLine) (from s : List ℕ) {r : Refusal} → Err r ≡ verdict_answer (unit_verdict p.units p.groups u) (place_at p)
      → step_on job from (parsed (unit u) s) ≡ stop r
  unfolding step_on
  unit_err u from s e = rw (unit_verdict_lem u, place_held) (judged_err _ (add job (unit u)) s (place_at p) e)

  -- a unit line without one
  pub unit_next : (u : UnitLine) (from s : List ℕ) → unit_verdict p.units p.groups u ≡ 0 → step_on job from (parsed (unit u) s) ≡ next (add job (unit u)) s
  unfolding step_on
  unit_next u from s e = rw (unit_verdict_lem u, e)

  room : (xs d ys : List ℕ) → length xs ≡ p.units → ys ≡ xs ++ drop p.units d → p.units < length ys → p.units < length d
  room xs d ys e f h =
      omega (arith, ap length f, length-append xs (drop p.units d), length-drop p.units d)

  -- the flat list with its mark
  flat_marked : (mark : ℕ) → set l.flat (marks_from + p.units) mark
      ≡ flatten job.groups ++ drop (flat_length p.groups p.memberships) (sets l.flat₀ marks_from (job.marks ++ mark ∷ []))
  flat_marked mark =
      let start : ℕ = flat_length p.groups p.memberships in
      let groups : length (flatten job.groups) ≡ start = length_flatten job.groups ∙ rw (holds.groups, holds.taken) in
      ap (λ f. set f (marks_from + p.units) mark) holds.flat
      ∙ mark_behind (flatten job.groups) (sets l.flat₀ marks_from job.marks) start (marks_from + p.units) mark groups
      (omega (arith, holds.bounded.groups, holds.bounded.memberships))
      ∙ ap (λ n. flatten job.groups ++ drop start (set (sets l.flat₀ marks_from job.marks) (marks_from + n) mark)) (sym holds.marks)
      ∙ ap (λ f. flatten job.groups ++ drop start f) (sets_snoc l.flat₀ marks_from job.marks mark)

  -- the lists with a unit more hold the job with it
  pub unit_holds : (u : UnitLine) → unit_verdict p.units p.groups u ≡ 0 → most_units ≤ length l.lows → most_units ≤ length l.highs
      → most_flat ≤ length l.flat
      → ReadSoFar (add job (unit u)) (record { units = p.units + 1; groups = p.groups; memberships = p.memberships })
      (record {
        lows₀ = l.lows₀;
        highs₀ = l.highs₀;
        flat₀ = l.flat₀;
        lows = set l.lows p.units (line_low u);
        highs = set l.highs p.units (line_high u);
        flat = set l.flat (marks_from + p.units) (line_mark u);
      })
  unfolding add
  unit_holds u e a b c =
      let g = unit_good p.units p.groups u e in
      record {
        bounded = record { units = omega (arith, g.room); groups = holds.bounded.groups; memberships = holds.bounded.memberships };
        units = rw (length-append, holds.units);
        pairs = rw (length-append, holds.pairs);
        marks = rw (length-append, holds.marks);
        groups = holds.groups;
        taken = holds.taken;
        lows = rw holds.lows (put_behind job.lows l.lows₀ p.units (line_low u) holds.units
            (room job.lows l.lows₀ l.lows holds.units holds.lows (omega (arith, g.room))));
        highs = rw holds.highs (put_behind job.highs l.highs₀ p.units (line_high u) holds.pairs
            (room job.highs l.highs₀ l.highs holds.pairs holds.highs (omega (arith, g.room))));
        flat = flat_marked (line_mark u);
        kept = marks_more p.units l.flat (line_mark u) (omega (arith, g.room)) ∙ ap (λ ms. ms ++ line_mark u ∷ []) holds.kept;
      }

module _ (job : Job) (p : Progress) (l : Lists) (holds : ReadSoFar job p l) (g : GroupLine) where
  abbrev head_number : ℕ
  head_number = head_verdict p.groups p.memberships g.heading.total (limits_said g.heading) (length (numbers_of g))

  abbrev group_verdict : ℕ
  group_verdict = first_refusal head_number (members_verdict p.units (numbers_of g))

  group_verdict_lem : verdict job (group g) ≡ group_verdict
  unfolding verdict
  group_verdict_lem = rw (holds.units, holds.groups, holds.taken)

  -- a group line with a refusal
  pub group_refused : (from s : List ℕ) (v : ℕ) → v ≡ group_verdict → (v ≡ 0 → ⊥) → step_on job from (parsed (group g) s) ≡ stop (refusal v (place_at p))
  unfolding step_on
  group_refused from s v e n = rw (group_verdict_lem, ← e, judged_stop v (add job (group g)) s (place_of job) n, place_held job p l holds)

  -- a group line that the code answers with a refusal
  pub group_err : (from s : List ℕ) {r : Refusal} → Err r ≡ verdict_answer group_verdict (place_at p) → step_on job from (parsed (group g) s) ≡ stop r
  unfolding step_on
  group_err from s e = rw (group_verdict_lem, place_held job p l holds) (judged_err _ (add job (group g)) s (place_at p) e)

  -- a group line without one
  pub group_next : (from s : List ℕ) → group_verdict ≡ 0 → step_on job from (parsed (group g) s) ≡ next (add job (group g)) s
  unfolding step_on
  group_next from s e = rw (group_verdict_lem, e)

  -- where the line's numbers begin in the flat list
  abbrev start : ℕ
  start = flat_length p.groups p.memberships

  -- what the flat list held before the reading, with the marks
  abbrev marked : List ℕ
  marked = sets l.flat₀ marks_from job.marks

  fits : head_number ≡ 0 → most_flat ≤ length l.flat → start + head_length + length (numbers_of g) ≤ length marked
  fits e h =
      let k = head_good _ _ g.heading.total (limits_said g.heading) _ e in
      omega (
        arith,
        k.room,
        k.fits,
        ap length holds.flat,
        length-append (flatten job.groups) (drop start marked),
        length-drop start marked,
        length_flatten job.groups,
        holds.groups,
        holds.taken,
      )

  -- the numbers of a group before its members
  abbrev pub head_numbers : List ℕ
  head_numbers = head_of g.heading.total (limits_said g.heading) (is_said g.heading.pairs) (length (numbers_of g))

  flat_stored : head_number ≡ 0 → most_flat ≤ length l.flat
      → sets (sets l.flat (start + head_length) (map member_of (numbers_of g))) start head_numbers
      ≡ flatten (job.groups ++ group_of g ∷ []) ++ drop (flat_length (p.groups + 1) (p.memberships + length (numbers_of g))) marked
  flat_stored e room =
      let h : Heading = g.heading in
      let ms : List ℕ = map member_of (numbers_of g) in
      let n : length ms ≡ length (numbers_of g) = length-map (numbers_of g) member_of in
      let before : length (flatten job.groups) ≡ start = length_flatten job.groups ∙ rw (holds.groups, holds.taken) in
      let whole : flatten job.groups ++ flat_group (group_of g) ≡ flatten (job.groups ++ group_of g ∷ []) =
      sym (flatten_snoc job.groups (group_of g)) in
      let end : start + head_length + length ms ≡ flat_length (p.groups + 1) (p.memberships + length (numbers_of g)) = omega arith in
      ap (λ f. sets (sets f (start + head_length) ms) start head_numbers) holds.flat
      ∙ ap (λ k. sets (sets (flatten job.groups ++ drop start marked) (start + head_length) ms) start (head_of h.total (limits_said h) (is_said h.pairs) k)) (sym n)
      ∙ stored h.total (limits_said h) (is_said h.pairs) (length ms) ms (flatten job.groups) marked start before (omega (arith, fits e room))
      ∙ ap (λ f. f ++ drop (start + head_length + length ms) marked) whole
      ∙ ap (λ k. flatten (job.groups ++ group_of g ∷ []) ++ drop k marked) end

  -- the marks stay
  marks_stored : head_number ≡ 0 → most_flat ≤ length l.flat
      → marks_in p.units (sets (sets l.flat (start + head_length) (map member_of (numbers_of g))) start head_numbers) ≡ job.marks
  marks_stored e h =
      let k = head_good _ _ g.heading.total (limits_said g.heading) _ e in
      let n : length (map member_of (numbers_of g)) ≡ length (numbers_of g) = length-map (numbers_of g) member_of in
      let before : length (flatten job.groups) ≡ start = length_flatten job.groups ∙ rw (holds.groups, holds.taken) in
      let after : length (flatten (job.groups ++ group_of g ∷ [])) ≡ flat_length (p.groups + 1) (p.memberships + length (numbers_of g)) =
      length_flatten (job.groups ++ group_of g ∷ [])
      ∙ rw (length-append, memberships_snoc job.groups (group_of g), holds.groups, holds.taken, n) in
      ap (marks_in p.units) (flat_stored e h)
      ∙ marks_behind p.units (flatten (job.groups ++ group_of g ∷ [])) marked _ after (omega (arith, k.room, k.fits))
      ∙ sym (marks_behind p.units (flatten job.groups) marked start before (omega (arith, holds.bounded.groups, holds.bounded.memberships)))
      ∙ ap (marks_in p.units) (sym holds.flat)
      ∙ holds.kept

  -- the lists with a group more hold the job with it
  pub group_holds : (count : ℕ) (flat : List ℕ) → head_number ≡ 0 → most_flat ≤ length l.flat → length (numbers_of g) ≡ count
      → flat ≡ sets (sets l.flat (start + head_length) (map member_of (numbers_of g))) start head_numbers
      → ReadSoFar (add job (group g)) (record { units = p.units; groups = p.groups + 1; memberships = p.memberships + count })
      (record { lows₀ = l.lows₀; highs₀ = l.highs₀; flat₀ = l.flat₀; lows = l.lows; highs = l.highs; flat = flat })
  unfolding add
  group_holds count flat e h n s =
      let k = head_good _ _ g.heading.total (limits_said g.heading) _ e in
      record {
        bounded = record { units = holds.bounded.units; groups = omega (arith, k.room); memberships = omega (arith, k.fits) };
        units = holds.units;
        pairs = holds.pairs;
        marks = holds.marks;
        groups = rw (length-append, holds.groups);
        taken = rw (memberships_snoc job.groups (group_of g), holds.taken, length-map, ← n);
        lows = holds.lows;
        highs = holds.highs;
        flat = rw (s, ← n) (flat_stored e h);
        kept = ap (marks_in p.units) s ∙ marks_stored e h;
      }

-- equal heads are stored alike
pub heads_alike : (d : List ℕ) (at : ℕ) {t u : ℕ} {l k : Limits} {a b : Bool} {n m : ℕ} → t ≡ u → l ≡ k → a ≡ b → n ≡ m
    → sets d at (head_of t l a n) ≡ sets d at (head_of u k b m)
heads_alike d at e f g h = rw (e, f, g, h)

-- a line that is no unit line is taken as a group line
pub line_is_group : (job : Job) (p : Progress) (l : Lists) → ReadSoFar job p l → (s : List ℕ) → unit_as held s ≡ failed
    → step_on job s (mapped group (group_as held s)) ≡ step_on job s (line s)
unfolding line_as mapped or_else
line_is_group job p l holds s h =
    sym (ap (λ p. step_on job s (or_else (mapped unit p) (mapped group (group_as held s)))) h)
    ∙ step_held job s (omega (arith, holds.units, holds.bounded.units))

-- a unit line is taken as one
pub line_is_unit : (job : Job) (p : Progress) (l : Lists) → ReadSoFar job p l → (s : List ℕ) (u : UnitLine) (r : List ℕ) → unit_as held s ≡ parsed u r
    → step_on job s (parsed (unit u) r) ≡ step_on job s (line s)
unfolding line_as mapped or_else
line_is_unit job p l holds s u r h =
    sym (ap (λ p. step_on job s (or_else (mapped unit p) (mapped group (group_as held s)))) h)
    ∙ step_held job s (omega (arith, holds.units, holds.bounded.units))
