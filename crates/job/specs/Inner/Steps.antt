-- What the code holds of a job while it reads, and what taking a line does to it. Assumes nothing.
use Rattle.std.specs.Prelude.{ℕ, ◌≤◌, List, ◌++◌, ◌≡◌, length, drop, Result, Ok, Err}
use Rattle.std.proofs.lemmas.List.Edits.{sets}
use Rattle.text.specs.Parsed.{mapped, parsed}
use Rattle.text.specs.Inner.Numbers.{held}
use Rattle.form.specs.Form.{UnitLine, unit, group, group_as, line}
use Rattle.groups.specs.Memberships.{memberships}
use Rattle.groups.specs.Inner.Flat.{flatten, flat_length, marks_from, marks_in}
use Rattle.job.specs.Job.{Job, most_groups, most_memberships, LineStep, next, stop, step_on}
use Rattle.form.specs.declared.Unit.{Unit}
use Rattle.job.specs.declared.steps.Progress.{Progress}
use Rattle.form.specs.Inner.LinesRead.{kept_unit}
use Rattle.model.specs.Shares.{most_units}
use Rattle.text.specs.declared.Spot.{Spot}
use Rattle.model.specs.declared.Refusal.{Refusal}

-- the counts are within 01's limits
pub record Bounded (p : Progress) : Type 0 where
  pub units : p.units ≤ most_units
  pub groups : p.groups ≤ most_groups
  pub memberships : p.memberships ≤ most_memberships

-- the table and the flat list: what they held before the reading, and what they hold
pub record Lists : Type 0 where
  pub lows₀ : List ℕ
  pub highs₀ : List ℕ
  pub flat₀ : List ℕ
  pub lows : List ℕ
  pub highs : List ℕ
  pub flat : List ℕ

-- the counts are a job's, and the lists begin with what the job holds
pub record ReadSoFar (job : Job) (p : Progress) (l : Lists) : Type 0 where
  pub bounded : Bounded p
  pub units : length job.lows ≡ p.units
  pub pairs : length job.highs ≡ p.units
  pub marks : length job.marks ≡ p.units
  pub groups : length job.groups ≡ p.groups
  pub taken : memberships job.groups ≡ p.memberships
  pub lows : l.lows ≡ job.lows ++ drop p.units l.lows₀
  pub highs : l.highs ≡ job.highs ++ drop p.units l.highs₀
  pub flat : l.flat ≡ flatten job.groups ++ drop (flat_length p.groups p.memberships) (sets l.flat₀ marks_from job.marks)
  pub kept : marks_in p.units l.flat ≡ job.marks

-- what taking a line answers: what was read with it and the spot after it, or its refusal
abbrev pub LineAnswer : Type 0
LineAnswer = Result (Progress × Spot) Refusal

-- an answer says what a line did
abbrev pub Answers : List ℕ → Lists → LineAnswer → LineStep → Type 0
Answers text l (Ok (p, spot)) stepped = (job : Job) × (stepped ≡ next job (drop spot.at text)) × ReadSoFar job p l
Answers text l (Err r) stepped = stepped ≡ stop r

-- the lists, given one by one
abbrev pub lists : List ℕ → List ℕ → List ℕ → List ℕ → List ℕ → List ℕ → Lists
lists lows₀ highs₀ flat₀ lows highs flat =
    record { lows₀ = lows₀; highs₀ = highs₀; flat₀ = flat₀; lows = lows; highs = highs; flat = flat }

-- taking a unit line that the code keeps so, whatever the job so far
abbrev pub UnitTaken : Progress → Unit → ℕ → List ℕ → List ℕ → List ℕ → List ℕ → List ℕ → List ℕ → LineAnswer → Type 0
UnitTaken p u at lows highs flat lows' highs' flat' r =
    (text from : List ℕ) (job : Job) (lows₀ highs₀ flat₀ : List ℕ) (l : UnitLine) → kept_unit l ≡ u
    → ReadSoFar job p (lists lows₀ highs₀ flat₀ lows highs flat)
    → Answers text (lists lows₀ highs₀ flat₀ lows' highs' flat') r (step_on job from (parsed (unit l) (drop at text)))

-- taking a group line
abbrev pub GroupTaken : List ℕ → Progress → ℕ → List ℕ → List ℕ → LineAnswer → Type 0
GroupTaken text p at flat flat' r =
    (job : Job) (lows₀ highs₀ flat₀ lows highs : List ℕ)
    → ReadSoFar job p (lists lows₀ highs₀ flat₀ lows highs flat)
    → Answers text (lists lows₀ highs₀ flat₀ lows highs flat') r (step_on job (drop at text) (mapped group (group_as held (drop at text))))

-- taking a line
abbrev pub LineTaken : List ℕ → Progress → ℕ → List ℕ → List ℕ → List ℕ → List ℕ → List ℕ → List ℕ → LineAnswer → Type 0
LineTaken text p at lows highs flat lows' highs' flat' r =
    (job : Job) (lows₀ highs₀ flat₀ : List ℕ)
    → ReadSoFar job p (lists lows₀ highs₀ flat₀ lows highs flat)
    → Answers text (lists lows₀ highs₀ flat₀ lows' highs' flat') r (step_on job (drop at text) (line (drop at text)))
