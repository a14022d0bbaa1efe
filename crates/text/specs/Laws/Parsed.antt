-- Laws of reading one item after another, of maps and of words. Assumes nothing.
use Rattle.std.specs.Prelude.{ℕ, Bool, true, false, List, [], ◌∷◌, ◌++◌, ◌⊎◌, ◌≡◌, refl, eqb}
use Rattle.std.proofs.Common.{inl, inr, arith, eqb-true, eq-eqb}
use Rattle.model.specs.Shares.{pick}
use Rattle.text.specs.Parsed.{parsed, failed, Parsed, and_then, mapped, or_else, word}

-- reading on from a mapped value
pub and_then_mapped : {A B C : Type 0} (f : A → B) (p : Parsed A) (k : B → List ℕ → Parsed C) → and_then (mapped f p) k ≡ and_then p (λ a s. k (f a) s)
unfolding and_then mapped
and_then_mapped f (parsed a s) k = refl
and_then_mapped f failed k = refl

-- a map of what is read last
pub mapped_and_then : {A B C : Type 0} (f : B → C) (p : Parsed A) (k : A → List ℕ → Parsed B) → mapped f (and_then p k) ≡ and_then p (λ a s. mapped f (k a s))
unfolding and_then mapped
mapped_and_then f (parsed a s) k = refl
mapped_and_then f failed k = refl

-- reading on alike gives alike
pub and_then_same : {A B : Type 0} (p : Parsed A) (k l : A → List ℕ → Parsed B) → ((a : A) (s : List ℕ) → k a s ≡ l a s) → and_then p k ≡ and_then p l
unfolding and_then
and_then_same (parsed a s) k l h = h a s
and_then_same failed k l h = refl

-- a map of either
pub mapped_or_else : {A B : Type 0} (f : A → B) (p q : Parsed A) → mapped f (or_else p q) ≡ or_else (mapped f p) (mapped f q)
unfolding mapped or_else
mapped_or_else f (parsed a s) q = refl
mapped_or_else f failed q = refl

-- what reading on gave: the value and the rest in between
pub then_parsed : {A B : Type 0} (p : Parsed A) (k : A → List ℕ → Parsed B) {b : B} {r : List ℕ} → and_then p k ≡ parsed b r → (a : A) × (s : List ℕ) × (p ≡ parsed a s) × (k a s ≡ parsed b r)
unfolding and_then
then_parsed (parsed a s) k h = (a, s, refl, h)
then_parsed failed k h = absurd (let z : ◌≡◌ {A = ℕ} 0 1 = cc in omega arith)

-- a mapped value has a value behind it
pub mapped_parsed : {A B : Type 0} (f : A → B) (p : Parsed A) {b : B} {r : List ℕ} → mapped f p ≡ parsed b r → (a : A) × (p ≡ parsed a r) × (f a ≡ b)
unfolding mapped
mapped_parsed f (parsed a s) {b} {r} h = let k : s ≡ r = cc in (a, rw k, cc)
mapped_parsed f failed h = absurd (let z : ◌≡◌ {A = ℕ} 0 1 = cc in omega arith)

-- what either gives, one of them gives
pub either_parsed : {A : Type 0} (p q : Parsed A) {b : A} {r : List ℕ} → or_else p q ≡ parsed b r → (p ≡ parsed b r) ⊎ (q ≡ parsed b r)
unfolding or_else
either_parsed (parsed a s) q h = inl h
either_parsed failed q h = inr h

-- a word that reads is at the front
pub word_parsed : (w s : List ℕ) {u : Unit {0}} {r : List ℕ} → word w s ≡ parsed u r → s ≡ w ++ r
unfolding word
word_parsed [] s h = cc
word_parsed (w ∷ ws) [] h = absurd (let z : ◌≡◌ {A = ℕ} 0 1 = cc in omega arith)
word_parsed (w ∷ ws) (b ∷ s) {u} {r} h = by_byte (eqb w b) refl (λ k. word_parsed ws s k) h
  where
    by_byte : (t : Bool) → eqb w b ≡ t → (word ws s ≡ parsed u r → s ≡ ws ++ r) → pick t (word ws s) failed ≡ parsed u r → b ∷ s ≡ w ∷ (ws ++ r)
    by_byte true e again h = rw (eqb-true w b e, again h)
    by_byte false e again h = absurd (let z : ◌≡◌ {A = ℕ} 0 1 = cc in omega arith)

-- a word reads as itself
pub word_own : (w s : List ℕ) → word w (w ++ s) ≡ parsed tt s
unfolding word
word_own [] s = refl
word_own (w ∷ ws) s = rw (eq-eqb w w refl) (word_own ws s)

-- maps that agree
pub mapped_like : {A B : Type 0} (f g : A → B) (p : Parsed A) → ((a : A) → f a ≡ g a) → mapped f p ≡ mapped g p
unfolding mapped
mapped_like f g (parsed a s) h = rw (h a)
mapped_like f g failed h = refl

-- a map fails only where nothing was read
pub mapped_failed : {A B : Type 0} (f : A → B) (p : Parsed A) → mapped f p ≡ failed → p ≡ failed
unfolding mapped
mapped_failed f (parsed a s) h = absurd (let z : ◌≡◌ {A = ℕ} 0 1 = cc in omega arith)
mapped_failed f failed h = refl
