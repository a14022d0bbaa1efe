-- Laws of the answers of reading, and of what it leaves in the lists. Assumes nothing.
use Rattle.std.specs.Prelude.{ℕ, zero, suc, ◌≤◌, ◌<◌, Bool, ◌&&◌, List, [], ◌∷◌, ◌++◌, refl, leb, length, take, drop, Ok, Err}
use Rattle.std.proofs.Math.Bool.{true, false}
use Rattle.std.proofs.Math.Path.{◌≡◌}
use Rattle.std.proofs.Common.{ap, arith, length-append, take_at}
use borrow.Author.Tests.{le-leb, lt-leb}
use Rattle.model.specs.Shares.{pick}
use Rattle.model.specs.declared.Refusal.{Refusal}
use Rattle.text.specs.Parsed.{Parsed, parsed, failed}
use Rattle.form.specs.Form.{range, shut, Line, unit, group, print_line, line}
use Rattle.form.specs.Laws.Spelling.{printed_line_lem}
use Rattle.job.specs.Job.{Job, next, stop, step_on, verdict, judged, add, place_of, JobOrRefusal, accepted, refused, onward, read_lines}
use Rattle.job.specs.Job.{read_job}
use Rattle.job.specs.declared.Counts.{Counts}
use Rattle.job.specs.Inner.Reading.{Fronts}
use Rattle.job.specs.Reading.{reading_of, fit_table, read_table, ReadInto}
use Rattle.model.specs.Refusals.{refusal}

-- a line has at least one byte
pub line_long : (l : Line) → 0 < length (print_line l)
unfolding print_line
line_long (unit (range low high)) = omega arith
line_long (unit shut) = omega arith
line_long (group g) = omega arith

judged_next : (v : ℕ) (j k : Job) (s r : List ℕ) (place : ℕ) → judged v j s place ≡ next k r → s ≡ r
judged_next zero j k s r place h = cc
judged_next (suc v) j k s r place h = absurd (let z : ◌≡◌ {A = ℕ} 0 1 = cc in omega arith)

-- a line that is taken has at least one byte
step_shorter : (job : Job) (s : List ℕ) (p : Parsed Line) → line s ≡ p → (k : Job) (r : List ℕ) → step_on job s p ≡ next k r → length r < length s
unfolding step_on
step_shorter job s failed e k r h = absurd (let z : ◌≡◌ {A = ℕ} 0 1 = cc in omega arith)
step_shorter job s (parsed l t) e k r h =
    let n : t ≡ r = judged_next (verdict job l) (add job l) k t r (place_of job) h in
    omega (arith, ap length (printed_line_lem s e), length-append (print_line l) t, line_long l, ap length n)

-- the next line is taken
pub read_next : (n : ℕ) (job : Job) (s : List ℕ) (k : Job) (r : List ℕ) → 0 < length s → length s ≤ n → step_on job s (line s) ≡ next k r
    → (m : ℕ) × (length r ≤ m) × (length r < length s) × (read_lines n job s ≡ read_lines m k r)
unfolding read_lines onward
read_next zero job s k r p l h = absurd (omega arith)
read_next (suc n) job [] k r p l h = absurd (omega arith)
read_next (suc n) job (b ∷ s) k r p l h =
    let d = step_shorter job (b ∷ s) (line (b ∷ s)) refl k r h in
    (n, omega arith, d, rw h)

-- the next line is refused
pub read_stop : (n : ℕ) (job : Job) (s : List ℕ) (r : Refusal) → 0 < length s → length s ≤ n → step_on job s (line s) ≡ stop r
    → read_lines n job s ≡ refused r
unfolding read_lines onward
read_stop zero job s r p l h = absurd (omega arith)
read_stop (suc n) job [] r p l h = absurd (omega arith)
read_stop (suc n) job (b ∷ s) r p l h = rw h

-- the lines are done
pub read_end : (n : ℕ) (job : Job) → read_lines n job [] ≡ accepted job
unfolding read_lines
read_end zero job = refl
read_end (suc n) job = refl

-- a text refused leaves the table
pub filled_refused : (text lows highs : List ℕ) (r : Refusal) → read_table text (length lows) (length highs) ≡ refused r
    → ReadInto text lows highs lows highs (Err r)
filled_refused text lows highs r e = record { answer = rw e; lows_are = rw e; highs_are = rw e }

-- a text accepted fills it from the front of the lists that hold the job
pub filled_accepted : (text lows₀ highs₀ : List ℕ) {lows highs least greatest : List ℕ} {job : Job} {units groups : ℕ}
    → read_table text (length lows₀) (length highs₀) ≡ accepted job → Fronts least greatest units groups job
    → lows ≡ take units least ++ drop units lows₀ → highs ≡ take units greatest ++ drop units highs₀
    → ReadInto text lows₀ highs₀ lows highs (Ok (record { units = units; groups = groups }))
filled_accepted text lows₀ highs₀ {job = job} {units = units} e f a b =
    record {
      answer = rw (e, f.units_are, f.groups_are);
      lows_are = rw (e, a, f.lows, f.units_are, take_at job.lows f.rest units f.units_are);
      highs_are = rw (e, b, f.highs, f.units_are, take_at job.highs f.past units f.pairs);
    }

-- which are long enough for them
pub fronts_long : {least greatest : List ℕ} {units groups : ℕ} {job : Job} → Fronts least greatest units groups job
    → (units ≤ length least) × (units ≤ length greatest)
fronts_long {job = job} f = (
  omega (arith, ap length f.lows, length-append job.lows f.rest, f.units_are),
  omega (arith, ap length f.highs, length-append job.highs f.past, f.pairs),
)

-- the outcome behind an answer
pub accepted_by : (o : JobOrRefusal) (units groups : ℕ) → Ok (record { units = units; groups = groups }) ≡ reading_of o
    → (job : Job) × (o ≡ accepted job) × (length job.lows ≡ units) × (length job.groups ≡ groups)
accepted_by (accepted job) units groups h =
    let same : ◌≡◌ {A = Counts} (record { units = length job.lows; groups = length job.groups }) (record { units = units; groups = groups }) = cc in
    (job, refl, ap (λ (c : Counts). c.units) same, ap (λ (c : Counts). c.groups) same)
accepted_by (refused r) units groups h = absurd (let z : ◌≡◌ {A = ℕ} 0 1 = cc in omega arith)

-- the refusal behind an answer
pub refused_by_lem : (o : JobOrRefusal) (r : Refusal) → Err r ≡ reading_of o → o ≡ refused r
refused_by_lem (accepted job) r h = absurd (let z : ◌≡◌ {A = ℕ} 0 1 = cc in omega arith)
refused_by_lem (refused q) r h = cc

module _ (text : List ℕ) (a b : ℕ) where
  -- a refusal of the text comes first
  pub table_refused : (r : Refusal) → read_job text ≡ refused r → read_table text a b ≡ refused r
  unfolding read_table fit_table
  table_refused r e = rw e

  -- too few lows
  pub table_short : (job : Job) → read_job text ≡ accepted job → a < length job.lows → read_table text a b ≡ refused (refusal 1 0)
  unfolding read_table fit_table
  table_short job e h = rw (e, lt-leb (length job.lows) a h)

  -- a table long enough
  pub table_fits : (job : Job) → read_job text ≡ accepted job → length job.lows ≤ a → length job.lows ≤ b → read_table text a b ≡ accepted job
  unfolding read_table fit_table
  table_fits job e h k = rw (e, le-leb (length job.lows) a h, le-leb (length job.lows) b k)

  -- too few highs
  pub table_short_highs : (job : Job) → read_job text ≡ accepted job → length job.lows ≤ a → b < length job.lows
      → read_table text a b ≡ refused (refusal 1 0)
  unfolding read_table fit_table
  table_short_highs job e h k = rw (e, le-leb (length job.lows) a h, lt-leb (length job.lows) b k)

  -- what is read into a table is read
  pub table_accepted : (job : Job) → read_table text a b ≡ accepted job → read_job text ≡ accepted job
  unfolding read_table fit_table
  table_accepted job e = by_outcome (read_job text) e
    where
      by_room : (fits : Bool) (found : Job) → pick fits (accepted found) (refused (refusal 1 0)) ≡ accepted job → accepted found ≡ accepted job
      by_room true found e = e
      by_room false found e = absurd (let z : ◌≡◌ {A = ℕ} 0 1 = cc in omega arith)

      by_outcome : (o : JobOrRefusal) → fit_table a b o ≡ accepted job → o ≡ accepted job
      by_outcome (accepted found) e = by_room (leb (length found.lows) a && leb (length found.lows) b) found e
      by_outcome (refused r) e = e
