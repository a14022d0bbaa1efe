-- Numbers written over a list: the first ones one after another by a loop, or a part as a whole. Assumes nothing.
use Rattle.std.specs.Prelude.{ℕ, zero, suc, ◌+◌, ◌≤◌, ◌<◌, List, [], ◌∷◌, ◌++◌, ◌≡◌, refl, length, get_or, set, take, drop}
use borrow.Rule.Slice.PartMut.{put_mid}
use Rattle.std.proofs.Common.{append-nil, append_assoc, sym, ◌∙◌, ap, le_of_suc-le-suc, add-one, arith, length-set, drop_of_length-le}
use Rattle.std.proofs.Math.Seq.{take-length}
use Rattle.std.proofs.lemmas.List.Edits.{sets, sets-eq, paste_all}
use Rattle.std.proofs.lemmas.Slice.{put_mid-paste}

-- the first k of the values are written over the first numbers of a list
pub record Filled (values was out : List ℕ) (k : ℕ) : Type 0 where
  pub size : length out ≡ length was
  pub written : out ≡ take k values ++ drop k was

-- none is written yet
pub filled_none : (values was : List ℕ) → Filled values was was 0
filled_none values was = record { size = refl; written = refl }

-- the next value is written
next_written : (k : ℕ) (values was : List ℕ) → k < length values → k < length was
    → set (take k values ++ drop k was) k (get_or values k 0) ≡ take (suc k) values ++ drop (suc k) was
next_written k [] was p q = absurd (omega arith)
next_written k (v ∷ values) [] p q = absurd (omega arith)
next_written zero (v ∷ values) (w ∷ was) p q = refl
next_written (suc k) (v ∷ values) (w ∷ was) p q =
    ap (λ (out : List ℕ). v ∷ out) (next_written k values was (le_of_suc-le-suc p) (le_of_suc-le-suc q))

-- the value at k is written
pub filled_more : {values was out : List ℕ} {k : ℕ} → Filled values was out k → k < length values → k < length was
    → (v : ℕ) → v ≡ get_or values k 0 → Filled values was (set out k v) (k + 1)
filled_more {values} {was} {out} {k} held p q v e = record {
  size = rw length-set held.size;
  written = rw (held.written, e, add-one k) (next_written k values was p q);
}

-- all are written over a list of as many numbers
pub filled_all : {values was out : List ℕ} {k : ℕ} → Filled values was out k → length was ≡ length values → k ≡ length values → out ≡ values
filled_all {values} {was} held sizes end =
    rw (held.written, end, take-length values, drop_of_length-le was {i = length values} (omega arith), append-nil values)

-- a part of a list that is written over as a whole has its numbers written one after another
pub part_written : (xs : List ℕ) (at size : ℕ) (part values : List ℕ) → part ≡ values → size ≡ length values → at + length values ≤ length xs
    → put_mid at size xs part ≡ sets xs at values
part_written xs at size part values same counted fits =
    put_mid-paste at size xs part values (length values) same (sym counted) refl
    ∙ paste_all xs at values (length values) refl
    ∙ sym (append_assoc (take at xs) values (drop (at + length values) xs))
    ∙ sym (sets-eq values xs at fits)
