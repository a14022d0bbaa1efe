-- Laws of the answers at a spot of a text. Assumes nothing.
use Rattle.std.specs.Prelude.{ℕ, ◌+◌, ◌-◌, ◌*◌, ◌≤◌, ◌<◌, Bool, true, false, ◌&&◌, List, [], ◌∷◌, ◌≡◌, refl, length, drop, eqb, Some, None}
use Rattle.std.proofs.Common.{Bor, sym, ap, ◌∙◌, add-one, arith, drop_of_length-le, drop-cons, ne_eqb, eq-eqb}
use Rattle.std.specs.Slice.{IsItemAt}
use Rattle.std.specs.List.{starts_with}
use Rattle.std.proofs.Math.Decide.{ℕ_discrete, dec_lt}
use Rattle.text.specs.Laws.Printed.{digit_byte}
use Rattle.model.specs.Shares.{pick}
use Rattle.text.specs.Kinds.{kind_of}
use Rattle.text.specs.Parsed.{Parsed, parsed, failed, mapped, word}
use Rattle.text.specs.Numbers.{is_digit, digits, number}
use Rattle.text.specs.Inner.Numbers.{held}
use Rattle.text.specs.Inner.Spots.{first_digit, digits_held}

-- a value held at every step is the value held at the end
pub held_digits : (v : ℕ) (s : List ℕ) → digits_held (held v) s ≡ mapped held (digits v s)
unfolding digits_held digits mapped
held_digits v [] = refl
held_digits v (b ∷ s) = either (is_digit (kind_of b)) (digits (v * 10 + (b - 48)) s) (rw again (held_digits (v * 10 + (b - 48)) s))
  where
    again : held (held v * 10 + (b - 48)) ≡ held (v * 10 + (b - 48))
    again = omega arith

    either : (d : Bool) {p : Parsed ℕ} (q : Parsed ℕ) → p ≡ mapped held q → pick d p (parsed (held v) (b ∷ s)) ≡ mapped held (pick d q (parsed v (b ∷ s)))
    either true q h = h
    either false q h = refl

by_digit : (b : ℕ) (s : List ℕ) (t : Bool) → is_digit (kind_of b) ≡ t → {d : ℕ} → pick t (Some (b - 48)) None ≡ Some d → (is_digit (kind_of b) ≡ true) × (b - 48 ≡ d)
by_digit b s true e h = (e, cc)
by_digit b s false e h = absurd (let z : ◌≡◌ {A = ℕ} 0 1 = cc in omega arith)

no_digit : (t : Bool) (x : ℕ) → pick t (Some x) None ≡ None → t ≡ false
no_digit true x h = absurd (let z : ◌≡◌ {A = ℕ} 0 1 = cc in omega arith)
no_digit false x h = refl

-- a digit is below ten
pub digit_less : (s : List ℕ) (d : ℕ) → first_digit s ≡ Some d → d < 10
unfolding first_digit
digit_less [] d h = absurd (let z : ◌≡◌ {A = ℕ} 0 1 = cc in omega arith)
digit_less (b ∷ s) d h =
    let e = by_digit b s (is_digit (kind_of b)) refl h in
    let r = digit_byte b e.0 in
    omega (arith, e.1)

-- a digit goes on the number
pub digit_on : (v : ℕ) (s : List ℕ) (d : ℕ) → first_digit s ≡ Some d → digits_held v s ≡ digits_held (held (v * 10 + d)) (drop 1 s)
unfolding first_digit digits_held
digit_on v [] d h = absurd (let z : ◌≡◌ {A = ℕ} 0 1 = cc in omega arith)
digit_on v (b ∷ s) d h =
    let e = by_digit b s (is_digit (kind_of b)) refl h in
    rw (e.0, e.1)

-- anything else ends it
pub digit_none : (v : ℕ) (s : List ℕ) → first_digit s ≡ None → digits_held v s ≡ parsed v s
unfolding first_digit digits_held
digit_none v [] h = refl
digit_none v (b ∷ s) h = rw (no_digit (is_digit (kind_of b)) (b - 48) h)

-- so does the end of the text
pub digit_end : (v : ℕ) → digits_held v [] ≡ parsed v []
unfolding digits_held
digit_end v = refl

-- a number by its first digit, held
pub number_first : (s : List ℕ) (d : ℕ) → first_digit s ≡ Some d → mapped held (number s) ≡ pick (eqb d 0) (parsed 0 (drop 1 s)) (digits_held d (drop 1 s))
unfolding first_digit number mapped
number_first [] d h = absurd (let z : ◌≡◌ {A = ℕ} 0 1 = cc in omega arith)
number_first (b ∷ s) d h =
    let e = by_digit b s (is_digit (kind_of b)) refl h in
    let r = digit_byte b e.0 in
    elim (ℕ_discrete b 48) [
      | yes p ↦ rw (e.0, eq-eqb b 48 p, eq-eqb d 0 (omega (arith, e.1)))
      | no p ↦
          let low : held d ≡ d = omega (arith, e.1) in
          rw (e.0, ne_eqb b 48 p, ne_eqb d 0 (λ z. p (omega (arith, e.1))), e.1) (sym (held_digits d s) ∙ rw low)
    ]

-- no digit, no number
pub number_none : (s : List ℕ) → first_digit s ≡ None → number s ≡ failed
unfolding first_digit number
number_none [] h = refl
number_none (b ∷ s) h = rw (no_digit (is_digit (kind_of b)) (b - 48) h)

-- a digit lies inside the text
pub digit_inside : (text : List ℕ) (at d : ℕ) → first_digit (drop at text) ≡ Some d → at < length text
unfolding first_digit
digit_inside text at d h =
    elim (dec_lt at (length text)) [
      | yes p ↦ p
      | no p ↦
          let l : length text ≤ at = omega arith in
          let e : first_digit [] ≡ Some d = rw (drop_of_length-le text l) at h in
          absurd (let z : ◌≡◌ {A = ℕ} 0 1 = cc in omega arith)
    ]

-- where the text has a byte, the bytes from there on begin with it
pub next_byte : (text : List ℕ) (at : ℕ) (byte : Bor ℕ) → IsItemAt text at (Some byte) → drop at text ≡ byte.now ∷ drop (at + 1) text
next_byte text at byte h = rw (add-one, h.1) (drop-cons text at byte.now h.3.0)

-- where it has none, none are left
pub no_byte : (text : List ℕ) (at : ℕ) → IsItemAt text at None → drop at text ≡ []
no_byte text at h = drop_of_length-le text h.3

-- a word reads exactly if the text begins with it
pub word_begins : (w s : List ℕ) → word w s ≡ pick (starts_with eqb s w) (parsed tt (drop (length w) s)) failed
unfolding word
word_begins [] s = refl
word_begins (w ∷ ws) [] = refl
word_begins (w ∷ ws) (b ∷ s) = by_byte (eqb w b) (word_begins ws s)
  where
    by_byte : (t : Bool) → word ws s ≡ pick (starts_with eqb s ws) (parsed tt (drop (length ws) s)) failed
        → pick t (word ws s) failed ≡ pick (t && starts_with eqb s ws) (parsed tt (drop (length ws) s)) failed
    by_byte true again = again
    by_byte false again = refl

-- what an answer says, once it is known
pub told : {A B : Type 0} (f : A → B) {r k : A} {p : B} → f r ≡ p → r ≡ k → p ≡ f k
told f h e = sym h ∙ ap f e
