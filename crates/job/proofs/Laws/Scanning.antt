-- Scanning a text line by line: what holds at each line, and what that says at the end. Assumes nothing.
use Rattle.std.specs.Prelude.{ℕ, ◌≤◌, ◌<◌, List, ◌≡◌, refl, length, drop, Ok, Err}
use Rattle.std.proofs.Common.{sym, ap, ◌∙◌, arith, le-leb, eq-eqb, ne_eqb, length-drop, drop_of_length-le}
use Rattle.std.proofs.Math.Decide.{ℕ_discrete}
use Rattle.std.proofs.lemmas.Bool.{lt-leb}
use Rattle.model.specs.declared.Refusal.{Refusal}
use Rattle.form.specs.Form.{line}
use Rattle.groups.specs.Memberships.{memberships}
use Rattle.groups.specs.Inner.Flat.{flatten}
use Rattle.groups.specs.Laws.Storing.{length_flatten}
use Rattle.job.specs.Job.{Job, no_lines, stop, step_on, JobOrRefusal, accepted, refused, read_lines, some_unit, read_job}
use Rattle.form.specs.Form.{most_bytes}
use Rattle.job.specs.Inner.Steps.{lists, ReadSoFar, Answers}
use Rattle.text.specs.declared.Spot.{Spot}
use Rattle.job.specs.Inner.Reading.{Scanned, counts_of}
use Rattle.job.proofs.Laws.Reading.{read_next, read_stop, read_end}
use Rattle.job.specs.declared.steps.Progress.{Progress}
use Rattle.model.specs.Refusals.{refusal}

-- at a spot before a line: a job is held, and the lines from there on are those of the text after the job's
pub record Going (text lows₀ highs₀ flat₀ lows highs flat : List ℕ) (at : ℕ) (p : Progress) : Type 0 where
  pub job : Job
  pub lines : ℕ
  pub holds : ReadSoFar job p (lists lows₀ highs₀ flat₀ lows highs flat)
  pub enough : length (drop at text) ≤ lines
  pub same : read_lines lines job (drop at text) ≡ read_lines (length text) no_lines text
  pub lows_long : length lows ≡ length lows₀
  pub highs_long : length highs ≡ length highs₀
  pub flat_long : length flat ≡ length flat₀

-- at the start
pub start : (text lows highs flat : List ℕ) → Going text lows highs flat lows highs flat 0 (record { units = 0; groups = 0; memberships = 0 })
unfolding memberships flatten
start text lows highs flat =
    record {
      job = no_lines;
      lines = length text;
      holds =
          record {
            bounded = record { units = omega arith; groups = omega arith; memberships = omega arith };
            units = refl;
            pairs = refl;
            marks = refl;
            groups = refl;
            taken = refl;
            lows = refl;
            highs = refl;
            flat = refl;
            kept = refl;
          };
      enough = omega arith;
      same = refl;
      lows_long = refl;
      highs_long = refl;
      flat_long = refl;
    }

-- bytes are left
pub left : (text : List ℕ) (at : ℕ) → at < length text → 0 < length (drop at text)
left text at h = rw length-drop (omega arith)

module _ (text : List ℕ) (short : length text ≤ most_bytes) where
  by_lines : (o : JobOrRefusal) → read_lines (length text) no_lines text ≡ o → read_job text ≡ some_unit o
  unfolding read_job
  by_lines o e = rw (le-leb (length text) most_bytes short, e)

  -- a line was refused
  pub line_refused : (r : Refusal) → read_lines (length text) no_lines text ≡ refused r → read_job text ≡ refused r
  unfolding some_unit
  line_refused r e = by_lines (refused r) e

  -- no unit line
  pub no_unit : (job : Job) → read_lines (length text) no_lines text ≡ accepted job → length job.lows ≡ 0 → read_job text ≡ refused (refusal 10 0)
  unfolding some_unit
  no_unit job e z = by_lines (accepted job) e ∙ rw (eq-eqb (length job.lows) 0 z)

  -- some unit line
  pub some_unit_lem : (job : Job) → read_lines (length text) no_lines text ≡ accepted job → (length job.lows ≡ 0 → ⊥) → read_job text ≡ accepted job
  unfolding some_unit
  some_unit_lem job e n = by_lines (accepted job) e ∙ rw (ne_eqb (length job.lows) 0 n)

-- a text too long
pub too_long : (text : List ℕ) → most_bytes < length text → read_job text ≡ refused (refusal 2 0)
unfolding read_job
too_long text h = rw (lt-leb (length text) most_bytes h)

-- the lines are done
pub done : (text : List ℕ) (at : ℕ) (job : Job) (n : ℕ) → length text ≤ at → read_lines n job (drop at text) ≡ read_lines (length text) no_lines text
    → read_lines (length text) no_lines text ≡ accepted job
done text at job n h e = sym e ∙ ap (read_lines n job) (drop_of_length-le text h) ∙ read_end n job

never : {job : Job} {r : Refusal} {o : JobOrRefusal} → o ≡ refused r → o ≡ accepted job → ⊥
never e f = let z : ◌≡◌ {A = ℕ} 0 1 = cc in omega arith

module _ (text lows₀ highs₀ flat₀ lows highs flat : List ℕ) where
  -- a refusal says nothing of the lists
  pub scanned_refused : (r : Refusal) → read_job text ≡ refused r → Scanned text lows₀ highs₀ flat₀ lows highs flat (Err r)
  scanned_refused r e =
      record {
        groups = record { answer = rw e; found_flat = λ job f. absurd (never e f); found_marks = λ job f. absurd (never e f) };
        found_lows = λ job f. absurd (never e f);
        found_highs = λ job f. absurd (never e f);
        pairs = λ job f. absurd (never e f);
      }

  -- an accepted text is held in the lists
  pub scanned_accepted : (job : Job) (p : Progress) → read_job text ≡ accepted job → ReadSoFar job p (lists lows₀ highs₀ flat₀ lows highs flat)
      → Scanned text lows₀ highs₀ flat₀ lows highs flat (Ok (record { units = p.units; groups = p.groups }))
  scanned_accepted job p e holds =
      let held : (k : Job) → read_job text ≡ accepted k → job ≡ k = λ k f. cc in
      record {
        groups = record {
          answer = rw (e, holds.units, holds.groups);
          found_flat = λ k f. rw (← held k f, length_flatten job.groups, holds.groups, holds.taken) holds.flat;
          found_marks = λ k f. rw (← held k f, holds.units) holds.kept;
        };
        found_lows = λ k f. rw (← held k f, holds.units) holds.lows;
        found_highs = λ k f. rw (← held k f, holds.units) holds.highs;
        pairs = λ k f. rw (← held k f, holds.units) holds.pairs;
      }

-- a line more
pub on_line : {text lows₀ highs₀ flat₀ lows highs flat lows' highs' flat' : List ℕ} {at : ℕ} {p : Progress}
    (g : Going text lows₀ highs₀ flat₀ lows highs flat at p) (q : Progress) (spot : Spot) → at < length text
    → Answers text (lists lows₀ highs₀ flat₀ lows' highs' flat') (Ok (q, spot)) (step_on g.job (drop at text) (line (drop at text)))
    → length lows' ≡ length lows → length highs' ≡ length highs → length flat' ≡ length flat
    → (length (drop spot.at text) < length (drop at text)) × Going text lows₀ highs₀ flat₀ lows' highs' flat' spot.at q
on_line {text} {at = at} g q spot h a ll hl fl =
    let n = read_next g.lines g.job (drop at text) a.0 (drop spot.at text) (left text at h) g.enough a.1 in (
      n.2,
      record {
        job = a.0;
        lines = n.0;
        holds = a.2;
        enough = n.1;
        same = sym n.3 ∙ g.same;
        lows_long = ll ∙ g.lows_long;
        highs_long = hl ∙ g.highs_long;
        flat_long = fl ∙ g.flat_long;
      },
    )

-- a line refused
pub off_line : {text lows₀ highs₀ flat₀ lows highs flat : List ℕ} {at : ℕ} {p : Progress} (g : Going text lows₀ highs₀ flat₀ lows highs flat at p)
    (r : Refusal) → at < length text → step_on g.job (drop at text) (line (drop at text)) ≡ stop r → read_lines (length text) no_lines text ≡ refused r
off_line {text} {at = at} g r h a = sym g.same ∙ read_stop g.lines g.job (drop at text) r (left text at h) g.enough a

module _ {text lows₀ highs₀ flat₀ lows highs flat : List ℕ} {at : ℕ} {p : Progress} (short : length text ≤ most_bytes)
    (g : Going text lows₀ highs₀ flat₀ lows highs flat at p) where
  -- the lines are done, and the counts are the answer
  pub scanned_counts : length text ≤ at → Scanned text lows₀ highs₀ flat₀ lows highs flat (counts_of p)
  unfolding counts_of
  scanned_counts h =
      let all = done text at g.job g.lines h g.same in
      elim (ℕ_discrete p.units 0) [
        | yes z ↦ rw (eq-eqb p.units 0 z) (scanned_refused _ _ _ _ _ _ _ _ (no_unit _ short g.job all (g.holds.units ∙ z)))
        | no n ↦ rw (ne_eqb p.units 0 n) (scanned_accepted _ _ _ _ _ _ _ g.job p
            (some_unit_lem _ short g.job all (λ z. n (sym g.holds.units ∙ z))) g.holds)
      ]

  -- a line is refused, and its refusal is the answer, whatever the lists hold
  pub scanned_stop : (lows' highs' flat' : List ℕ) (r : Refusal) → at < length text → step_on g.job (drop at text) (line (drop at text)) ≡ stop r
      → Scanned text lows₀ highs₀ flat₀ lows' highs' flat' (Err r)
  scanned_stop lows' highs' flat' r h a = scanned_refused _ _ _ _ _ _ _ r (line_refused _ short r (off_line g r h a))

-- a moment of the reading: the spot before a line, and what was read up to it
pub record Moment (text lows₀ highs₀ flat₀ : List ℕ) : Type 0 where
  pub at : ℕ
  pub progress : Progress
  pub lows : List ℕ
  pub highs : List ℕ
  pub flat : List ℕ
  pub going : Going text lows₀ highs₀ flat₀ lows highs flat at progress
