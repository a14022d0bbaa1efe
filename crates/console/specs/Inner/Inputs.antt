-- What reading the input gives. Assumes nothing.
use Rattle.std.specs.Prelude.{ℕ, ◌<◌, List, length, take, Option, Some, None, ⊤}
use Rattle.std.specs.Io.KnownBytes.{Consumes, IsAtEnd}

-- the bytes that reading the input gives; a failed read gives none
abbrev pub bytes_read : Option ℕ → ℕ
bytes_read (Some count) = count
bytes_read None = 0

-- what is read is all that an input has left, or as much of it as the list holds; where it is known, before and after
abbrev pub IsRead : Option (List ℕ) → Option (List ℕ) → Option ℕ → List ℕ → Type 0
IsRead before after (Some count) text = Consumes before after (take count text) × (count < length text → IsAtEnd after)
IsRead before after None text = ⊤
