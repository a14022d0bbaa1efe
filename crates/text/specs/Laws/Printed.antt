-- The laws of numbers: what was printed reads as itself, and what reads was printed so. Assumes nothing.
use Rattle.std.specs.Prelude.{ℕ, zero, suc, ◌+◌, ◌-◌, ◌*◌, ◌/◌, ◌%◌, ◌≤◌, ◌<◌, Bool, true, false, ◌&&◌, List, [], ◌∷◌, ◌++◌, ◌≡◌, refl, eqb, leb, length}
use Rattle.std.proofs.Common.{append_assoc, sym, ap, ◌∙◌, length-append, arith, le-leb, ne_eqb, lt-ltb, le-ltb, leb-true, eqb-true}
use Rattle.std.proofs.Math.Nat.{div-lt_self}
use Rattle.std.proofs.Math.Decide.{dec_lt}
use Rattle.std.proofs.lemmas.Bool.{eqb-false}
use Rattle.model.specs.Shares.{pick}
use Rattle.model.proofs.Laws.Tests.{both_left, both_right}
use Rattle.text.specs.Kinds.{kind_of}
use Rattle.text.specs.Parsed.{Parsed, parsed, failed, mapped, word}
use Rattle.text.specs.Laws.Parsed.{then_parsed, mapped_parsed, word_parsed}
use Rattle.text.specs.Numbers.{is_digit, digits, number, number_after, digits_of, print_number}
use Rattle.text.specs.Inner.Numbers.{held}
use Rattle.text.specs.declared.Kind.TheVariants.{Opening, Closing, Space, Digit, Letter, Foreign}

by_tests : (o c s d l : Bool) → is_digit (pick o Opening (pick c Closing (pick s Space (pick d Digit (pick l Letter Foreign))))) ≡ true → d ≡ true
by_tests true c s d l h = cc
by_tests false true s d l h = cc
by_tests false false true d l h = cc
by_tests false false false true l h = refl
by_tests false false false false true h = cc
by_tests false false false false false h = cc

-- a digit is a byte from 48 to 57
pub digit_byte : (b : ℕ) → is_digit (kind_of b) ≡ true → (48 ≤ b) × (b ≤ 57)
digit_byte b h =
    let t : leb 48 b && leb b 57 ≡ true = by_tests (eqb b 40) (eqb b 41) (eqb b 32) (leb 48 b && leb b 57) (leb 97 b && leb b 122) h in
    (leb-true 48 b (both_left (leb 48 b) (leb b 57) t), leb-true b 57 (both_right (leb 48 b) (leb b 57) t))

-- and a byte from 48 to 57 is a digit
pub byte_digit : (b : ℕ) → 48 ≤ b → b ≤ 57 → kind_of b ≡ Digit
byte_digit b l h =
    simp (ne_eqb b 40 (λ e. omega arith), ne_eqb b 41 (λ e. omega arith), ne_eqb b 32 (λ e. omega arith), le-leb 48 b l, le-leb b 57 h)

-- with steps enough, their number does not matter
steps : (m n v : ℕ) → v < m → v < n → digits_of m v ≡ digits_of n v
unfolding digits_of
steps zero n v h k = absurd (omega arith)
steps (suc m) zero v h k = absurd (omega arith)
steps (suc m) (suc n) v h k =
    elim (dec_lt v 10) [
      | yes p ↦ rw (digits_of, lt-ltb v 10 p)
      | no p ↦
          let q : 10 ≤ v = omega arith in
          let f : v / 10 < v = div-lt_self (omega arith) (omega arith) in
          rw (digits_of, le-ltb v 10 q, steps m n (v / 10) (omega arith) (omega arith))
    ]

-- a number of one digit
pub print_one : (v : ℕ) → v < 10 → print_number v ≡ (48 + v) ∷ []
unfolding print_number digits_of
print_one v h = rw (digits_of, lt-ltb v 10 h)

-- a number of more: the digits of its tenth, then its last
pub print_more : (v : ℕ) → 10 ≤ v → print_number v ≡ print_number (v / 10) ++ (48 + v % 10) ∷ []
unfolding print_number digits_of
print_more v h =
    let f : v / 10 < v = div-lt_self (omega arith) (omega arith) in
    rw (digits_of, le-ltb v 10 h, steps v (suc (v / 10)) (v / 10) f (omega arith))

-- a digit set behind a number
print_behind : (v b : ℕ) → 0 < v → 48 ≤ b → b ≤ 57 → print_number (v * 10 + (b - 48)) ≡ print_number v ++ b ∷ []
print_behind v b p l h =
    let w : ℕ = v * 10 + (b - 48) in
    let q : w / 10 ≡ v = omega arith in
    let r : 48 + w % 10 ≡ b = omega arith in
    rw (print_more w (omega arith), q, r)

go_on : (v b : ℕ) (s : List ℕ) → 48 ≤ b → b ≤ 57 → digits v (b ∷ s) ≡ digits (v * 10 + (b - 48)) s
unfolding digits
go_on v b s l h = rw (byte_digit b l h)

printed_goes_on : (n v : ℕ) (s : List ℕ) → v < n → 0 < v → number (print_number v ++ s) ≡ digits v s
unfolding number
printed_goes_on zero v s h p = absurd (omega arith)
printed_goes_on (suc n) v s h p =
    elim (dec_lt v 10) [
      | yes q ↦ rw (print_one v q, byte_digit (48 + v) (omega arith) (omega arith), ne_eqb (48 + v) 48 (λ e. omega arith)) (ap (λ (n : ℕ). digits n s) (omega arith))
      | no q ↦
          let f : v / 10 < v = div-lt_self (omega arith) (omega arith) in
          let e : v / 10 * 10 + (48 + v % 10 - 48) ≡ v = omega arith in
          rw (print_more v (omega arith), append_assoc)
          (printed_goes_on n (v / 10) ((48 + v % 10) ∷ s) (omega arith) (omega arith)
          ∙ go_on (v / 10) (48 + v % 10) s (omega arith) (omega arith)
          ∙ ap (λ (n : ℕ). digits n s) e)
    ]

-- no digit is first
unfoldable pub NoDigitNext : List ℕ → Type 0
NoDigitNext [] = Unit
NoDigitNext (b ∷ s) = is_digit (kind_of b) ≡ false

ends : (v : ℕ) (s : List ℕ) → NoDigitNext s → digits v s ≡ parsed v s
unfolding NoDigitNext digits
ends v [] h = refl
ends v (b ∷ s) h = rw h

-- what was printed reads as itself, where no digit follows
pub number_printed : (v : ℕ) (s : List ℕ) → NoDigitNext s → number (print_number v ++ s) ≡ parsed v s
unfolding number
number_printed zero s h = rw (print_one 0 (omega arith))
number_printed (suc v) s h = printed_goes_on (suc (suc v)) (suc v) s (omega arith) (omega arith) ∙ ends (suc v) s h

digit_or_end : (v b : ℕ) (s : List ℕ) (w : ℕ) (t : List ℕ) → 0 < v → ((u : ℕ) → 0 < u → digits u s ≡ parsed w t → print_number u ++ s ≡ print_number w ++ t) → (d : Bool) → is_digit (kind_of b) ≡ d → pick d (digits (v * 10 + (b - 48)) s) (parsed v (b ∷ s)) ≡ parsed w t → print_number v ++ b ∷ s ≡ print_number w ++ t
digit_or_end v b s w t p ih true e h =
    let r = digit_byte b e in
    sym (append_assoc (print_number v) (b ∷ []) s)
    ∙ rw (← print_behind v b p r.0 r.1) (ih (v * 10 + (b - 48)) (omega arith) h)
digit_or_end v b s w t p ih false e h = let i : v ≡ w = cc in let k : b ∷ s ≡ t = cc in rw (i, k)

digits_printed : (v : ℕ) (s : List ℕ) (w : ℕ) (t : List ℕ) → 0 < v → digits v s ≡ parsed w t → print_number v ++ s ≡ print_number w ++ t
unfolding digits
digits_printed v [] w t p h = let e : v ≡ w = cc in let k : [] ≡ t = cc in rw (e, k)
digits_printed v (b ∷ s) w t p h = digit_or_end v b s w t p (λ u q k. digits_printed u s w t q k) (is_digit (kind_of b)) refl h

first_digit_lem : (b : ℕ) (s : List ℕ) (w : ℕ) (t : List ℕ) (d : Bool) → is_digit (kind_of b) ≡ d → (z : Bool) → eqb b 48 ≡ z → pick d (pick z (parsed 0 s) (digits (b - 48) s)) failed ≡ parsed w t → b ∷ s ≡ print_number w ++ t
first_digit_lem b s w t false e z f h = absurd (let z : ◌≡◌ {A = ℕ} 0 1 = cc in omega arith)
first_digit_lem b s w t true e true f h =
    let i : 0 ≡ w = cc in let k : s ≡ t = cc in rw (eqb-true b 48 f, ← i, print_one 0 (omega arith), k)
first_digit_lem b s w t true e false f h =
    let r = digit_byte b e in
    let n = eqb-false b 48 f in
    let c : 48 + (b - 48) ≡ b = omega arith in
    let one : print_number (b - 48) ≡ b ∷ [] = print_one (b - 48) (omega arith) ∙ rw c in
    let more : print_number (b - 48) ++ s ≡ print_number w ++ t = digits_printed (b - 48) s w t (omega arith) h in
    rw one at more

-- what reads as a number was printed so
pub printed_number : (s : List ℕ) (w : ℕ) (t : List ℕ) → number s ≡ parsed w t → s ≡ print_number w ++ t
unfolding number
printed_number [] w t h = absurd (let z : ◌≡◌ {A = ℕ} 0 1 = cc in omega arith)
printed_number (b ∷ s) w t h = first_digit_lem b s w t (is_digit (kind_of b)) refl (eqb b 48) refl h

-- where a number is, there is no word with another first byte than a digit
pub number_not_word : (w : ℕ) (ws : List ℕ) (s : List ℕ) (v : ℕ) (t : List ℕ) → is_digit (kind_of w) ≡ false → number s ≡ parsed v t → word (w ∷ ws) s ≡ failed
unfolding number word
number_not_word w ws [] v t n h = refl
number_not_word w ws (b ∷ s) v t n h =
    let e = is_there (is_digit (kind_of b)) (pick (eqb b 48) (parsed 0 s) (digits (b - 48) s)) h in
    rw (ne_eqb w b (λ q. let z : true ≡ false = sym e ∙ ap (λ (x : ℕ). is_digit (kind_of x)) (sym q) ∙ n in let y : ◌≡◌ {A = ℕ} 0 1 = cc in omega arith))
  where
    is_there : (d : Bool) (p : Parsed ℕ) → pick d p failed ≡ parsed v t → d ≡ true
    is_there true p h = refl
    is_there false p h = absurd (let z : ◌≡◌ {A = ℕ} 0 1 = cc in omega arith)

printed_long : (v : ℕ) → 0 < length (print_number v)
printed_long v =
    elim (dec_lt v 10) [
      | yes p ↦ rw (print_one v p) (omega arith)
      | no p ↦ rw (print_more v (omega arith)) (omega (arith, length-append (print_number (v / 10)) ((48 + v % 10) ∷ [])))
    ]

-- a number has at least one byte
pub number_shorter : (s : List ℕ) (v : ℕ) (t : List ℕ) → number s ≡ parsed v t → length t < length s
number_shorter s v t h =
    rw (printed_number s v t h) (omega (arith, length-append (print_number v) t, printed_long v))

-- so has a word with one after it
pub number_after_shorter : (w s : List ℕ) (v : ℕ) (t : List ℕ) → mapped held (number_after w s) ≡ parsed v t → length t < length s
unfolding number_after
number_after_shorter w s v t h =
    let m = mapped_parsed held (number_after w s) h in
    let a = then_parsed (word w s) _ m.1 in
    let k = number_shorter a.1 m.0 t a.3 in
    omega (arith, ap length (word_parsed w s a.2), length-append w a.1)
