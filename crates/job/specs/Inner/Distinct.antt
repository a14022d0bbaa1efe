-- Whether a number was met before, by marks. Assumes nothing.
use Rattle.std.specs.Prelude.{ℕ, Bool, true, ◌&&◌, List, [], ◌∷◌, eqb, get_or, set}

-- no number of the list is met marked, where each is marked when met
unfoldable pub fresh_by : List ℕ → List ℕ → Bool
fresh_by marks [] = true
fresh_by marks (x ∷ xs) = eqb (get_or marks x 0) 0 && fresh_by (set marks x 1) xs
