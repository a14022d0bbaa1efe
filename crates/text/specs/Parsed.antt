-- What reading an item of a text gives: its value and the bytes after it, or nothing. Assumes nothing.
use Rattle.std.specs.Prelude.{ℕ, List, [], ◌∷◌, eqb}
use Rattle.model.specs.Shares.{pick}

-- 01: "reading an item gives the spot after it": here the bytes from that spot on
pub data Parsed (A : Type 0) : Type 0 where
  parsed : A → List ℕ → Parsed A
  failed : Parsed A

-- reads on, with the value and from the spot after it
unfoldable pub and_then : {A B : Type 0} → Parsed A → (A → List ℕ → Parsed B) → Parsed B
and_then (parsed a s) k = k a s
and_then failed k = failed

-- the value by a function of it
unfoldable pub mapped : {A B : Type 0} → (A → B) → Parsed A → Parsed B
mapped f (parsed a s) = parsed (f a) s
mapped f failed = failed

-- the first that can be read
unfoldable pub or_else : {A : Type 0} → Parsed A → Parsed A → Parsed A
or_else (parsed a s) q = parsed a s
or_else failed q = q

-- the bytes of a word, exactly
unfoldable pub word : List ℕ → List ℕ → Parsed (Unit {0})
word [] s = parsed tt s
word (w ∷ ws) [] = failed
word (w ∷ ws) (b ∷ s) = pick (eqb w b) (word ws s) failed
