-- Reading a job text: a fold over its lines, with the refusals 2 to 10 and 13 to 15. Assumes nothing.
use Rattle.std.specs.Prelude.{ℕ, zero, suc, ◌+◌, Bool, true, false, not, ◌&&◌, ◌||◌, List, [], ◌∷◌, ◌++◌, map, leb, ltb, eqb, length}
use Rattle.text.specs.Ailments.{front_line, ailment_of}
use Rattle.groups.specs.Memberships.{memberships}
use Rattle.model.specs.Shares.{pick, greatest_share, greatest_total, most_units}
use Rattle.model.specs.Refusals.{refusal, unless}
use Rattle.model.specs.Figures.{greatest_deviation, greatest_spread, greatest_pairs, limit_within}
use Rattle.model.specs.Groups.{Group}
use Rattle.model.specs.declared.Limits.{Limits}
use Rattle.model.specs.declared.Refusal.{Refusal}
use Rattle.text.specs.Parsed.{Parsed, parsed, failed}
use Rattle.form.specs.Form.{most_bytes, UnitLine, line_low, line_high, line_mark, is_said, limits_said, GroupLine, Line, unit, group, line}
use Rattle.form.specs.Named.{all_named, member_of}

-- a job: the ranges of its units, their marks (02: "0 running, 1 shut"), and its groups
pub record Job : Type 0 where
  pub lows : List ℕ
  pub highs : List ℕ
  pub marks : List ℕ
  pub groups : List Group

-- 01: "0 to 64 groups"
abbrev pub most_groups : ℕ
most_groups = 64

-- 01: "at most 4,096 memberships"
abbrev pub most_memberships : ℕ
most_memberships = 4096

-- a number is in a list
unfoldable pub contains : ℕ → List ℕ → Bool
contains x [] = false
contains x (y ∷ ys) = eqb x y || contains x ys

-- no number is twice in a list
unfoldable pub distinct : List ℕ → Bool
distinct [] = true
distinct (x ∷ xs) = not (contains x xs) && distinct xs

-- 01: the refusal of a unit line in the form, 0 where there is none
unfoldable pub unit_verdict : ℕ → ℕ → UnitLine → ℕ
unit_verdict units groups l =
    unless (leb (line_low l) greatest_share) 4
    (unless (leb (line_high l) greatest_share) 4
    (unless (eqb groups 0) 5
    (unless (ltb units most_units) 6
    (unless (leb (line_low l) (line_high l)) 7 0))))

-- 01: the refusal of a group line by its head and the number of its members, 0 where there is none
unfoldable pub head_verdict : ℕ → ℕ → ℕ → Limits → ℕ → ℕ
head_verdict groups taken total limits count =
    unless (leb total greatest_total) 4
    (unless (limit_within limits.deviation greatest_deviation) 4
    (unless (limit_within limits.spread greatest_spread) 4
    (unless (limit_within limits.pairs greatest_pairs) 4
    (unless (ltb groups most_groups) 6
    (unless (leb (taken + count) most_memberships) 6 0)))))

-- 01: and by its members
unfoldable pub members_verdict : ℕ → List ℕ → ℕ
members_verdict units ms = unless (all_named units ms) 8 (unless (distinct ms) 9 0)

-- the first of two refusals
abbrev pub first_refusal : ℕ → ℕ → ℕ
first_refusal zero b = b
first_refusal (suc a) b = suc a

-- 01: the lowest of 4 to 9 that applies to a line in the form, 0 where none does
unfoldable pub verdict : Job → Line → ℕ
verdict job (unit l) = unit_verdict (length job.lows) (length job.groups) l
verdict job (group g) =
    let ms : List ℕ = g.first ∷ g.others in
    first_refusal (head_verdict (length job.groups) (memberships job.groups) g.heading.total (limits_said g.heading) (length ms))
    (members_verdict (length job.lows) ms)

-- the group of a group line
abbrev pub group_of : GroupLine → Group
group_of g =
    record {
      total = g.heading.total;
      limits = limits_said g.heading;
      pairs_there = is_said g.heading.pairs;
      members = map member_of (g.first ∷ g.others);
    }

-- the job with one line more
unfoldable pub add : Job → Line → Job
add job (unit l) =
    record {
      lows = job.lows ++ line_low l ∷ [];
      highs = job.highs ++ line_high l ∷ [];
      marks = job.marks ++ line_mark l ∷ [];
      groups = job.groups;
    }
add job (group g) = record { lows = job.lows; highs = job.highs; marks = job.marks; groups = job.groups ++ group_of g ∷ [] }

-- what one line does: the job with it and the rest of the text, or a refusal
pub data LineStep : Type 0 where
  next : Job → List ℕ → LineStep
  stop : Refusal → LineStep

-- the number of the line after a job's lines
abbrev pub place_of : Job → ℕ
place_of job = length job.lows + length job.groups + 1

-- a line without a refusal is added; one with it stops the reading there
abbrev pub judged : ℕ → Job → List ℕ → ℕ → LineStep
judged zero job s place = next job s
judged (suc number) job s place = stop (refusal (suc number) place)

-- the line at the front of a text, as it was read; 01: 3 for one not in the form; 02: 13, 14 and 15 "just ahead of 3"
unfoldable pub step_on : Job → List ℕ → Parsed Line → LineStep
step_on job text (parsed l s) = judged (verdict job l) (add job l) s (place_of job)
step_on job text failed = stop (refusal (ailment_of (front_line text)) (place_of job))

-- what reading a text gives
pub data JobOrRefusal : Type 0 where
  accepted : Job → JobOrRefusal
  refused : Refusal → JobOrRefusal

-- goes on with the job and the rest, or stops
unfoldable pub onward : (Job → List ℕ → JobOrRefusal) → LineStep → JobOrRefusal
onward k (next job s) = k job s
onward k (stop r) = refused r

-- the lines of a text, at most n, after a job's lines
unfoldable pub read_lines : ℕ → Job → List ℕ → JobOrRefusal
read_lines zero job s = accepted job
read_lines (suc n) job [] = accepted job
read_lines (suc n) job (b ∷ s) = onward (λ job s. read_lines n job s) (step_on job (b ∷ s) (line (b ∷ s)))

-- the job of no line
abbrev pub no_lines : Job
no_lines = record { lows = []; highs = []; marks = []; groups = [] }

-- 01: 10 "no unit line"
unfoldable pub some_unit : JobOrRefusal → JobOrRefusal
some_unit (accepted job) = pick (eqb (length job.lows) 0) (refused (refusal 10 0)) (accepted job)
some_unit (refused r) = refused r

-- 01: 2 first, "then the first bad line with the lowest of 3 to 9, then 10"; 02: on it 13, 14, 15 ahead of 3
unfoldable pub read_job : List ℕ → JobOrRefusal
read_job text =
    pick (leb (length text) most_bytes) (some_unit (read_lines (length text) no_lines text)) (refused (refusal 2 0))
