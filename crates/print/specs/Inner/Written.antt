-- Bytes written one after another into a buffer. Assumes nothing.
use Rattle.std.specs.Prelude.{ℕ, ◌+◌, ◌≤◌, List, ◌≡◌, length}
use Rattle.std.proofs.lemmas.List.Edits.{sets}

-- the buffer with the bytes in place from an index on
unfoldable pub written : List ℕ → ℕ → List ℕ → List ℕ
written buffer at bytes = sets buffer at bytes

-- the bytes fit between the index and the buffer's end
pub record Room (buffer : List ℕ) (at : ℕ) (bytes : List ℕ) : Type 0 where
  pub fits : at + length bytes ≤ length buffer

-- the buffer and the index after the bytes have been written
pub record Wrote (bytes entry : List ℕ) (at : ℕ) (exit : List ℕ) (next : ℕ) : Type 0 where
  pub moved : next ≡ at + length bytes
  pub holds : exit ≡ written entry at bytes
