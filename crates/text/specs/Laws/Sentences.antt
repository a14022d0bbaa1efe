-- A number is given exactly if 02's words for it hold of the line's bytes. Assumes nothing.
use Rattle.std.specs.Prelude.{ℕ, zero, suc, ◌+◌, ◌≤◌, ◌<◌, Bool, not, ◌&&◌, ◌||◌, ◌⊎◌, ◌↔◌, ◌≡◌, eqb, leb, take}
use Rattle.std.proofs.Math.Bool.{true, false}
use mathlib.Core.List.{List, [], ◌∷◌, Memᴰ}
use Rattle.std.proofs.Common.{inl, inr, ⊎_elim, sym, ap, ◌∙◌, arith, eqb-true, eq-eqb, ne_eqb, leb-true, leb-false}
use Rattle.std.proofs.Math.Path.{refl}
use Rattle.std.proofs.Math.Decide.{ℕ_discrete}
use Rattle.std.proofs.lemmas.Bool.{eqb-false}
use Rattle.model.proofs.Laws.Tests.{both, both_left, both_right, clash, refuted, upheld, neither, either_right}
use Rattle.model.specs.Refusals.{unless}
use Rattle.model.specs.Shares.{pick, sum_of}
use Rattle.text.specs.Kinds.{kind_of, is_opening, is_closing, is_letter}
use Rattle.text.specs.Parsed.{word}
use Rattle.text.specs.declared.Kind.TheVariants.{Space, Digit, Letter, Foreign}
use Rattle.text.specs.Words.{bytes}
use Rattle.text.specs.Ailments.{ended, openings, closings, paired, letter_next, is_run, is_name, is_named, ailment_of}
use Rattle.text.specs.Laws.Walking.{run_step}
use Rattle.text.specs.Sentences.{Unended, Unpaired, letters, NamedLine, Ails}

-- no byte 10 found, none there
unended_of : (line : List ℕ) → ended line ≡ false → Unended line
unfolding ended
unended_of [] h m = elim m [ ]
unended_of (b ∷ s) h (Memᴰ.head e) = clash (eq-eqb b 10 (sym e)) (neither (eqb b 10) (ended s) h).0
unended_of (b ∷ s) h (Memᴰ.tail m) = unended_of s (neither (eqb b 10) (ended s) h).1 m

-- one found, one there
ended_of : (line : List ℕ) → ended line ≡ true → Memᴰ 10 line
unfolding ended
ended_of [] h = absurd (clash h refl)
ended_of (b ∷ s) h = by_byte (eqb b 10) refl h (λ rest. ended_of s rest)
  where
    by_byte : (t : Bool) → eqb b 10 ≡ t → t || ended s ≡ true → (ended s ≡ true → Memᴰ 10 s) → Memᴰ 10 (b ∷ s)
    by_byte true e h again = Memᴰ.head (sym (eqb-true b 10 e))
    by_byte false e h again = Memᴰ.tail (again h)

-- none there, none found
pub none_ended : (line : List ℕ) → Unended line → ended line ≡ false
none_ended line none = refuted (ended line) (λ h. none (ended_of line h))

-- brackets found paired, with so many ahead, are so at every byte and at the end
record PairedFrom (opened closed : ℕ) (line : List ℕ) : Type 0 where
  pub never_more : (count : ℕ) → closed + sum_of closings (take count line) ≤ opened + sum_of openings (take count line)
  pub equal : opened + sum_of openings line ≡ closed + sum_of closings line

paired_of : (opened closed : ℕ) (line : List ℕ) → closed ≤ opened → paired opened closed line ≡ true → PairedFrom opened closed line
unfolding paired sum_of
paired_of opened closed [] few h = record {
  never_more = λ count. by_count count;
  equal = omega (arith, eqb-true opened closed h);
}
  where
    by_count : (count : ℕ) → closed + sum_of closings (take count []) ≤ opened + sum_of openings (take count [])
    by_count zero = omega arith
    by_count (suc count) = omega arith
paired_of opened closed (b ∷ s) few h =
    let test = leb-true (closed + closings b) (opened + openings b) (both_left _ _ h) in
    let again = paired_of (opened + openings b) (closed + closings b) s test (both_right (leb (closed + closings b) (opened + openings b)) _ h) in
    record { never_more = λ count. by_count count again; equal = omega (arith, again.equal) }
  where
    by_count : (count : ℕ) → PairedFrom (opened + openings b) (closed + closings b) s
        → closed + sum_of closings (take count (b ∷ s)) ≤ opened + sum_of openings (take count (b ∷ s))
    by_count zero again = omega arith
    by_count (suc count) again = omega (arith, again.never_more count)

-- found unpaired, they are not at some byte, or not at the end
unpaired_of : (opened closed : ℕ) (line : List ℕ) → paired opened closed line ≡ false
    → ((count : ℕ) × (opened + sum_of openings (take count line) < closed + sum_of closings (take count line)))
    ⊎ (opened + sum_of openings line ≡ closed + sum_of closings line → ⊥)
unfolding paired sum_of
unpaired_of opened closed [] h = inr (λ e. eqb-false opened closed h (omega arith))
unpaired_of opened closed (b ∷ s) h =
    by_test (leb (closed + closings b) (opened + openings b)) refl h
    (λ rest. unpaired_of (opened + openings b) (closed + closings b) s rest)
  where
    by_test : (t : Bool) → leb (closed + closings b) (opened + openings b) ≡ t
        → t && paired (opened + openings b) (closed + closings b) s ≡ false
        → (paired (opened + openings b) (closed + closings b) s ≡ false
        → ((count : ℕ) × (opened + openings b + sum_of openings (take count s) < closed + closings b + sum_of closings (take count s)))
        ⊎ (opened + openings b + sum_of openings s ≡ closed + closings b + sum_of closings s → ⊥))
        → ((count : ℕ) × (opened + sum_of openings (take count (b ∷ s)) < closed + sum_of closings (take count (b ∷ s))))
        ⊎ (opened + sum_of openings (b ∷ s) ≡ closed + sum_of closings (b ∷ s) → ⊥)
    by_test false e h again = inl (1, omega (arith, leb-false (closed + closings b) (opened + openings b) e))
    by_test true e h again =
        ⊎_elim (λ found. inl (suc found.0, omega (arith, found.1))) (λ differ. inr (λ e. differ (omega (arith, e)))) (again h)

-- a word all of letters
only_letters : List ℕ → Bool
only_letters [] = true
only_letters (w ∷ ws) = is_letter (kind_of w) && only_letters ws

-- that is found as a run is the run of letters
run_letters : (w s : List ℕ) → only_letters w ≡ true → is_run w s ≡ true → letters s ≡ w
unfolding is_run word letter_next letters only_letters
run_letters [] [] all h = refl
run_letters [] (b ∷ s) all h = by_letter (is_letter (kind_of b)) h
  where
    by_letter : (t : Bool) → not t ≡ true → pick t (b ∷ letters s) [] ≡ []
    by_letter true h = absurd (clash h refl)
    by_letter false h = refl
run_letters (w ∷ ws) [] all h = absurd (clash h refl)
run_letters (w ∷ ws) (b ∷ s) all h =
    let found : eqb w b && is_run ws s ≡ true = sym (run_step w ws b s) ∙ h in
    let same = eqb-true w b (both_left _ _ found) in
    let again = run_letters ws s (both_right (is_letter (kind_of w)) _ all) (both_right (eqb w b) _ found) in
    rw (← same, both_left (is_letter (kind_of w)) (only_letters ws) all, again)

-- the run of letters is found as a run
letters_run : (w s : List ℕ) → letters s ≡ w → is_run w s ≡ true
unfolding is_run word letter_next letters
letters_run [] [] is = refl
letters_run (w ∷ ws) [] is = absurd (let z : ◌≡◌ {A = ℕ} 0 1 = cc in omega arith)
letters_run w (b ∷ s) is = by_letter (is_letter (kind_of b)) refl w is (λ ws e. letters_run ws s e)
  where
    by_letter : (t : Bool) → is_letter (kind_of b) ≡ t → (w : List ℕ) → pick t (b ∷ letters s) [] ≡ w
        → ((ws : List ℕ) → letters s ≡ ws → is_run ws s ≡ true) → is_run w (b ∷ s) ≡ true
    by_letter true l [] is again = absurd (let z : ◌≡◌ {A = ℕ} 0 1 = cc in omega arith)
    by_letter true l (w ∷ ws) is again =
        let first : w ≡ b = cc in
        let others : letters s ≡ ws = cc in
        run_step w ws b s ∙ both (eq-eqb w b first) (again ws others)
    by_letter false l [] is again = rw l
    by_letter false l (w ∷ ws) is again = absurd (let z : ◌≡◌ {A = ℕ} 0 1 = cc in omega arith)

-- the kind of a byte that is no bracket
other_kind : (b : ℕ) (spaces counts spells : Bool) →
    let kind = pick spaces Space (pick counts Digit (pick spells Letter Foreign)) in (is_opening kind ≡ false) × (is_closing kind ≡ false)
other_kind b true d l = (refl, refl)
other_kind b false true l = (refl, refl)
other_kind b false false true = (refl, refl)
other_kind b false false false = (refl, refl)

-- 40 is the opening bracket and 41 the closing one: no other byte is either
pub bracket_none : (b : ℕ) → (b ≡ 40 → ⊥) → (b ≡ 41 → ⊥) → (is_opening (kind_of b) ≡ false) × (is_closing (kind_of b) ≡ false)
bracket_none b n m = rw (ne_eqb b 40 n, ne_eqb b 41 m) (other_kind b (eqb b 32) (leb 48 b && leb b 57) (leb 97 b && leb b 122))

-- a byte of the kind of opening brackets is 40
opening_byte : (b : ℕ) → is_opening (kind_of b) ≡ true → b ≡ 40
opening_byte b h =
    elim (ℕ_discrete b 40) [
      | yes e ↦ e
      | no n ↦
          elim (ℕ_discrete b 41) [
            | yes e ↦ absurd (clash (rw e at h) refl)
            | no m ↦ absurd (clash h (bracket_none b n m).0)
          ]
    ]

-- a line that is found to begin with a name does
named_of : (line : List ℕ) → is_named line ≡ true → NamedLine line
unfolding is_named is_name only_letters
named_of [] h = absurd (clash h refl)
named_of (b ∷ s) h =
    let first : b ∷ s ≡ 40 ∷ s = ap (λ c. c ∷ s) (opening_byte b (both_left _ _ h)) in
    (s, first, by_word (is_run (bytes "unit") s) (is_run (bytes "group") s) refl refl (both_right (is_opening (kind_of b)) _ h))
  where
    by_word : (u g : Bool) → is_run (bytes "unit") s ≡ u → is_run (bytes "group") s ≡ g → u || (g || is_run (bytes "shut") s) ≡ true
        → (letters s ≡ bytes "unit") ⊎ ((letters s ≡ bytes "group") ⊎ (letters s ≡ bytes "shut"))
    by_word true g e f h = inl (run_letters (bytes "unit") s refl e)
    by_word false true e f h = inr (inl (run_letters (bytes "group") s refl f))
    by_word false false e f h = inr (inr (run_letters (bytes "shut") s refl h))

-- one that does is found to
is_named_of : (line : List ℕ) → NamedLine line → is_named line ≡ true
unfolding is_named is_name
is_named_of line (s, is, name) = rw is (by_name name)
  where
    by_name : (letters s ≡ bytes "unit") ⊎ ((letters s ≡ bytes "group") ⊎ (letters s ≡ bytes "shut")) → is_name s ≡ true
    by_name (inl e) = rw (letters_run (bytes "unit") s e)
    by_name (inr (inl e)) = either_right (is_run (bytes "unit") s) (rw (letters_run (bytes "group") s e))
    by_name (inr (inr e)) = either_right (is_run (bytes "unit") s) (either_right (is_run (bytes "group") s) (letters_run (bytes "shut") s e))

module _ (line : List ℕ) where
  -- each test says what 02's words say
  not_unended : ended line ≡ true → Unended line → ⊥
  not_unended h none = none (ended_of line h)

  not_unpaired : paired 0 0 line ≡ true → Unpaired line → ⊥
  not_unpaired h (inl (count, more)) = let few = (paired_of 0 0 line (omega arith) h).never_more count in omega (arith, more, few)
  not_unpaired h (inr differ) = let same = (paired_of 0 0 line (omega arith) h).equal in differ (omega (arith, same))

  is_unpaired : paired 0 0 line ≡ false → Unpaired line
  is_unpaired h =
      ⊎_elim (λ found. inl (found.0, omega (arith, found.1))) (λ differ. inr (λ e. differ (omega (arith, e)))) (unpaired_of 0 0 line h)

  not_named : is_named line ≡ false → NamedLine line → ⊥
  not_named h name = clash (is_named_of line name) h

  -- the words for the number that is given hold
  pub ails_so : Ails line (ailment_of line)
  unfolding ailment_of
  ails_so = by_tests (ended line) (paired 0 0 line) (is_named line) refl refl refl
    where
      by_tests : (e p o : Bool) → ended line ≡ e → paired 0 0 line ≡ p → is_named line ≡ o → Ails line (unless e 13 (unless p 14 (unless o 15 3)))
      by_tests false p o h k l = Ails.unended (unended_of line h)
      by_tests true false o h k l = Ails.unpaired (not_unended h) (is_unpaired k)
      by_tests true true false h k l = Ails.unnamed (not_unended h) (not_unpaired k) (not_named l)
      by_tests true true true h k l = Ails.otherwise (not_unended h) (not_unpaired k) (named_of line l)

  is_ended : (Unended line → ⊥) → ended line ≡ true
  is_ended none = upheld (ended line) (λ h. none (unended_of line h))

  is_paired : (Unpaired line → ⊥) → paired 0 0 line ≡ true
  is_paired none = upheld (paired 0 0 line) (λ h. none (is_unpaired h))

  -- where the words for a number hold, it is given
  ails_given : {number : ℕ} → Ails line number → ailment_of line ≡ number
  unfolding ailment_of
  ails_given (Ails.unended a) = rw (none_ended line a)
  ails_given (Ails.unpaired a b) = rw (is_ended a, refuted (paired 0 0 line) (λ h. not_unpaired h b))
  ails_given (Ails.unnamed a b c) = rw (is_ended a, is_paired b, refuted (is_named line) (λ h. c (named_of line h)))
  ails_given (Ails.otherwise a b c) = rw (is_ended a, is_paired b, is_named_of line c)

  -- a number is given exactly if 02's words for it hold
  pub ails_exactly : (number : ℕ) → (ailment_of line ≡ number) ↔ Ails line number
  ails_exactly number = (λ is. rw (← is) ails_so, ails_given)
