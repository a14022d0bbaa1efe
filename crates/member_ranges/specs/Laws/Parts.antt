-- Parts of lists; two lists saved in a third, one after the other, and read back. Assumes nothing.
use Rattle.std.specs.Prelude.{ℕ, ◌+◌, ◌-◌, List, ◌++◌, ◌≡◌, length, take, drop}
use Rattle.std.proofs.Common.{arith, drop-drop}
use Rattle.std.proofs.Math.Seq.{take-append_seam, drop-append_seam}

-- n numbers from a number on
pub part : (at n : ℕ) (list : List ℕ) → take (at + n - at) (drop at list) ≡ take n (drop at list)
part at n list =
    let count : at + n - at ≡ n = omega arith in
    rw count

module _ (first second : List ℕ) where
  -- the first is written at the start of a list, the second after it
  pub saved : (was : List ℕ) {a b : List ℕ} → a ≡ first → b ≡ second
      → take (length first) (a ++ drop (length first) was)
      ++ (b ++ drop (length first + length second - length first) (drop (length first) (a ++ drop (length first) was)))
      ≡ first ++ (second ++ drop (length first + length second) was)
  saved was is_first is_second =
      let count : length first + length second - length first ≡ length second = omega arith in
      rw (
        is_first,
        is_second,
        take-append_seam first (drop (length first) was),
        drop-append_seam first (drop (length first) was),
        count,
        drop-drop (length second) (length first) was,
      )

  module _ {list : List ℕ} (rest : List ℕ) (holds : list ≡ first ++ (second ++ rest)) where
    -- the first is read back
    pub first_restored : {n : ℕ} → n ≡ length first → take n list ≡ first
    first_restored count = rw (holds, count) (take-append_seam first (second ++ rest))

    -- and the second
    pub second_restored : {n m : ℕ} → n ≡ length first → m ≡ length second → take m (drop n list) ≡ second
    second_restored first_count second_count =
        rw (holds, first_count, second_count, drop-append_seam first (second ++ rest)) (take-append_seam second rest)
