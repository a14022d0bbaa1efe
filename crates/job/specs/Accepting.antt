-- A text whose lines are taken in turn. Assumes nothing.
use Rattle.std.specs.Prelude.{ℕ, ◌≤◌, List, [], ◌∷◌, ◌≡◌, length}
use Rattle.form.specs.Form.{Line, print_line}
use Rattle.job.specs.Job.{Job, verdict, add, no_lines}
use Rattle.form.specs.Form.{most_bytes}
use Rattle.job.specs.TextLines.{lines_of}

-- these lines after a job's lines give a job: each is in the form and has no refusal
pub data Takes : Job → List (List ℕ) → Job → Type 0 where
  none : {job final : Job} → job ≡ final → Takes job [] final
  also : {job final : Job} {bytes : List ℕ} {lines : List (List ℕ)} (l : Line) → bytes ≡ print_line l → verdict job l ≡ 0
      → Takes (add job l) lines final → Takes job (bytes ∷ lines) final

-- a text of few enough bytes with some unit line, each line of which is taken in turn
pub record Accepts (text : List ℕ) (found : Job) : Type 0 where
  pub short : length text ≤ most_bytes
  pub some_unit : 1 ≤ length found.lows
  pub takes : Takes no_lines (lines_of text) found
