-- A text whose first bad line is not in the form. Assumes nothing.
use Rattle.std.specs.Prelude.{ℕ, ◌≤◌, List, ◌∷◌, ◌≡◌, length}
use Rattle.text.specs.Sentences.{Ails}
use Rattle.form.specs.Form.{Line, print_line}
use Rattle.job.specs.Job.{Job, verdict, add, place_of, no_lines}
use Rattle.form.specs.Form.{most_bytes}
use Rattle.job.specs.TextLines.{lines_of}

-- of these lines after a job's lines the first that is not taken is not in the form; its number and its place
pub data Ailing : Job → List (List ℕ) → ℕ → ℕ → Type 0 where
  here : {job : Job} {bytes : List ℕ} {lines : List (List ℕ)} {number place : ℕ} → ((l : Line) → bytes ≡ print_line l → ⊥) → Ails bytes number
      → place ≡ place_of job → Ailing job (bytes ∷ lines) number place
  later : {job : Job} {bytes : List ℕ} {lines : List (List ℕ)} {number place : ℕ} (l : Line) → bytes ≡ print_line l → verdict job l ≡ 0
      → Ailing (add job l) lines number place → Ailing job (bytes ∷ lines) number place

-- a text of few enough bytes with such lines
pub record AilingText (text : List ℕ) (number place : ℕ) : Type 0 where
  pub short : length text ≤ most_bytes
  pub ailing : Ailing no_lines (lines_of text) number place
