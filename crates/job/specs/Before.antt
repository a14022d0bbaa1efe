-- Reading as it was ahead of 02's item 3: every line not in the form is 3. Assumes nothing.
use Rattle.std.specs.Prelude.{ℕ, zero, suc, Bool, ◌&&◌, ◌||◌, List, [], ◌∷◌, leb, eqb, length}
use Rattle.model.specs.Refusals.{refusal}
use Rattle.model.specs.Shares.{pick}
use Rattle.text.specs.Parsed.{Parsed, parsed, failed}
use Rattle.form.specs.Form.{Line, line}
use Rattle.job.specs.Job.{Job, verdict, add, LineStep, stop, place_of, judged, JobOrRefusal, accepted, refused, onward, no_lines, some_unit}
use Rattle.form.specs.Form.{most_bytes}

-- 01: 3 for a line not in the form
unfoldable pub step_before : Job → Parsed Line → LineStep
step_before job (parsed l s) = judged (verdict job l) (add job l) s (place_of job)
step_before job failed = stop (refusal 3 (place_of job))

-- the lines of a text, at most n, after a job's lines
unfoldable pub lines_before : ℕ → Job → List ℕ → JobOrRefusal
lines_before zero job s = accepted job
lines_before (suc n) job [] = accepted job
lines_before (suc n) job (b ∷ s) = onward (λ job s. lines_before n job s) (step_before job (line (b ∷ s)))

-- 01: 2 first, "then the first bad line with the lowest of 3 to 9, then 10"
unfoldable pub read_before : List ℕ → JobOrRefusal
read_before text =
    pick (leb (length text) most_bytes) (some_unit (lines_before (length text) no_lines text)) (refused (refusal 2 0))

-- the numbers of a line not in the form, 13 to 15 and 3
unfoldable pub of_form : ℕ → Bool
of_form number = eqb number 3 || (leb 13 number && leb number 15)

-- an outcome of now as it was: the same job, or a refusal with the same place, whose number is 3 where it is 13, 14 or 15 now
unfoldable pub as_before : JobOrRefusal → JobOrRefusal
as_before (accepted job) = accepted job
as_before (refused r) = refused (refusal (pick (of_form r.number) 3 r.number) r.place)
