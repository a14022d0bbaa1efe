-- Laws of the lines of a text as bytes. Assumes nothing.
use Rattle.std.specs.Prelude.{ℕ, zero, suc, ◌+◌, ◌/◌, ◌%◌, ◌<◌, Bool, true, false, ◌≡◌, refl, eqb, take}
use mathlib.Core.List.{List, [], ◌∷◌, ◌++◌, append_assoc, flatten as joined}
use Rattle.std.proofs.Common.{sym, ap, ◌∙◌, arith, ne_eqb}
use Rattle.std.proofs.Math.Decide.{dec_lt}
use Rattle.std.proofs.Math.Nat.{div-lt_self}
use Rattle.std.proofs.lemmas.Bool.{eqb-false}
use Rattle.text.specs.Ailments.{front_line}
use Rattle.model.proofs.Laws.Tests.{neither}
use Rattle.model.specs.Shares.{pick}
use Rattle.model.specs.declared.Limit.{Limit}
use Rattle.model.specs.declared.Limit.TheVariants.{Any, AtMost}
use Rattle.text.specs.Numbers.{print_number}
use Rattle.text.specs.Laws.Printed.{print_one, print_more}
use Rattle.form.specs.Form.{range, shut, print_shut, Line, unit, group, unit_opening, group_opening, deviation_opening, spread_opening, members_opening, space, any_word}
use Rattle.form.specs.Form.{PairsLimit, unsaid, said, pairs_opening, print_limit, print_pairs, print_members, print_line}
use Rattle.job.specs.Job.{contains}
use Rattle.job.specs.TextLines.{ahead, lines_of}

-- one byte more in the lines is one more in the text
joined_ahead : (b : ℕ) (ls : List (List ℕ)) → joined (ahead b ls) ≡ b ∷ joined ls
unfolding ahead joined
joined_ahead b [] = refl
joined_ahead b (l ∷ ls) = refl

-- the lines one after another are the text
pub joined_lines : (s : List ℕ) → joined (lines_of s) ≡ s
unfolding lines_of joined
joined_lines [] = refl
joined_lines (b ∷ s) = by_byte (eqb b 10) (joined_lines s)
  where
    by_byte : (ends : Bool) → joined (lines_of s) ≡ s → joined (pick ends ((b ∷ []) ∷ lines_of s) (ahead b (lines_of s))) ≡ b ∷ s
    by_byte true again = ap (λ r. b ∷ r) again
    by_byte false again = joined_ahead b (lines_of s) ∙ ap (λ r. b ∷ r) again

-- the first line of a text and what is after it
abbrev FirstLine : List ℕ → Type 0
FirstLine s = (rest : List ℕ) × (s ≡ front_line s ++ rest) × (lines_of s ≡ front_line s ∷ lines_of rest)

pub first_line_of : (b : ℕ) (s : List ℕ) → FirstLine (b ∷ s)
unfolding front_line lines_of ahead
first_line_of b [] = by_byte (eqb b 10)
  where
    by_byte : (t : Bool) → (rest : List ℕ) × (b ∷ [] ≡ (b ∷ pick t [] []) ++ rest) × (pick t ((b ∷ []) ∷ []) ((b ∷ []) ∷ []) ≡ (b ∷ pick t [] []) ∷ lines_of rest)
    by_byte true = ([], refl, refl)
    by_byte false = ([], refl, refl)
first_line_of b (c ∷ s) = by_byte (eqb b 10) (first_line_of c s)
  where
    by_byte : (t : Bool) → FirstLine (c ∷ s)
        → (rest : List ℕ) × (b ∷ c ∷ s ≡ (b ∷ pick t [] (front_line (c ∷ s))) ++ rest)
        × (pick t ((b ∷ []) ∷ lines_of (c ∷ s)) (ahead b (lines_of (c ∷ s))) ≡ (b ∷ pick t [] (front_line (c ∷ s))) ∷ lines_of rest)
    by_byte true first = (c ∷ s, refl, refl)
    by_byte false (rest, cut, lines) = (rest, ap (λ r. b ∷ r) cut, ap (ahead b) lines)

-- bytes that are one line: byte 10 ends them and stands nowhere else
pub record OneLine (bytes : List ℕ) : Type 0 where
  pub body : List ℕ
  pub ended : bytes ≡ body ++ 10 ∷ []
  pub inside : contains 10 body ≡ false

-- a number in neither of two lists is not in both together
both_without : (x : ℕ) (xs ys : List ℕ) → contains x xs ≡ false → contains x ys ≡ false → contains x (xs ++ ys) ≡ false
unfolding contains
both_without x [] ys p q = q
both_without x (y ∷ xs) ys p q = let n = neither (eqb x y) (contains x xs) p in rw n.0 (both_without x xs ys n.1 q)

-- the bytes up to the first byte 10 are the first line
first_line : (w s : List ℕ) → contains 10 w ≡ false → lines_of (w ++ 10 ∷ s) ≡ (w ++ 10 ∷ []) ∷ lines_of s
unfolding lines_of contains ahead
first_line [] s h = refl
first_line (b ∷ w) s h =
    let n = neither (eqb 10 b) (contains 10 w) h in
    rw (ne_eqb b 10 (λ e. eqb-false 10 b n.0 (sym e)), first_line w s n.1)

-- a line is cut off as a whole
pub lines_next : {bytes : List ℕ} → OneLine bytes → (s : List ℕ) → lines_of (bytes ++ s) ≡ bytes ∷ lines_of s
lines_next one s = rw (one.ended, append_assoc one.body (10 ∷ []) s) (first_line one.body s one.inside)

-- bytes without byte 10 ahead of a line
pub line_ahead : (w : List ℕ) {bytes : List ℕ} → contains 10 w ≡ false → OneLine bytes → OneLine (w ++ bytes)
line_ahead w none one = record {
  body = w ++ one.body;
  ended = ap (λ s. w ++ s) one.ended ∙ sym (append_assoc w one.body (10 ∷ []));
  inside = both_without 10 w one.body none one.inside;
}

-- a number's bytes are digits: no byte below them is among them
pub number_without : (x : ℕ) → x < 48 → (n v : ℕ) → v < n → contains x (print_number v) ≡ false
unfolding contains
number_without x low zero v h = absurd (omega arith)
number_without x low (suc n) v h =
    elim (dec_lt v 10) [
      | yes p ↦ rw (print_one v p, ne_eqb x (48 + v) (λ e. omega arith))
      | no p ↦
          let f : v / 10 < v = div-lt_self (omega arith) (omega arith) in
          rw (print_more v (omega arith))
          (both_without x (print_number (v / 10)) _ (number_without x low n (v / 10) (omega arith)) (rw (ne_eqb x (48 + v % 10) (λ e. omega arith))))
    ]

-- a number ahead of a line
pub number_ahead : (v : ℕ) {bytes : List ℕ} → OneLine bytes → OneLine (print_number v ++ bytes)
number_ahead v one = line_ahead (print_number v) (number_without 10 (omega arith) (suc v) v (omega arith)) one

-- a limit
limit_ahead : (l : Limit) {bytes : List ℕ} → OneLine bytes → OneLine (print_limit l ++ bytes)
unfolding print_limit contains
limit_ahead Any one = line_ahead any_word refl one
limit_ahead (AtMost v) one = number_ahead v one

-- a pairs limit
pairs_ahead : (p : PairsLimit) {bytes : List ℕ} → OneLine bytes → OneLine (print_pairs p ++ bytes)
unfolding print_pairs contains
pairs_ahead unsaid one = one
pairs_ahead (said limit) {bytes} one = line_ahead pairs_opening refl (limit_ahead limit one)

-- members
members_ahead : (ms : List ℕ) {bytes : List ℕ} → OneLine bytes → OneLine (print_members ms ++ bytes)
unfolding print_members contains
members_ahead [] one = one
members_ahead (m ∷ ms) {bytes} one =
    rw (print_members, append_assoc (print_number m) (print_members ms) bytes)
    (line_ahead space refl (number_ahead m (members_ahead ms one)))

-- a line as it is written is one line
pub printed_one : (l : Line) → OneLine (print_line l)
unfolding print_line contains
printed_one (unit (range low high)) =
    line_ahead unit_opening refl
    (number_ahead low (line_ahead space refl (number_ahead high (record { body = 41 ∷ []; ended = refl; inside = refl }))))
printed_one (unit shut) = record { body = take 6 print_shut; ended = refl; inside = refl }
printed_one (group g) =
    line_ahead group_opening refl
    (number_ahead g.heading.total
    (line_ahead deviation_opening refl
    (limit_ahead g.heading.deviation
    (line_ahead spread_opening refl
    (limit_ahead g.heading.spread
    (pairs_ahead g.heading.pairs
    (line_ahead members_opening refl
    (members_ahead (g.first ∷ g.others) (record { body = 41 ∷ 41 ∷ []; ended = refl; inside = refl })))))))))
