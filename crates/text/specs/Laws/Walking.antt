-- Laws for the walk over a line. Assumes nothing.
use Rattle.std.specs.Prelude.{ℕ, ◌≤◌, Bool, true, false, not, ◌&&◌, ◌||◌, List, [], ◌∷◌, ◌≡◌, refl, eqb}
use Rattle.std.proofs.Common.{sym, ap, ◌∙◌, arith, eqb-true}
use Rattle.std.specs.List.{list_any}
use Rattle.model.proofs.Laws.Tests.{neither}
use Rattle.model.specs.Shares.{pick}
use Rattle.text.specs.Kinds.{kind_of, is_opening, is_closing}
use Rattle.text.specs.Parsed.{parsed, failed, word}
use Rattle.text.specs.Words.{bytes}
use Rattle.text.specs.Ailments.{front_line, ended, openings, closings, letter_next, is_run, is_name, is_named}

-- a test counts once at most
pick_few : (t : Bool) → pick t 1 0 ≤ 1
pick_few true = omega arith
pick_few false = omega arith

-- a byte is one bracket at most
pub bracket_few : (b : ℕ) → (openings b ≤ 1) × (closings b ≤ 1)
bracket_few b = (pick_few (is_opening (kind_of b)), pick_few (is_closing (kind_of b)))

-- a text has a byte 10 exactly if some byte of it is 10
pub ended_any : (s : List ℕ) → list_any (λ b. eqb b 10) s ≡ ended s
unfolding ended
ended_any [] = refl
ended_any (b ∷ s) = ap (λ t. eqb b 10 || t) (ended_any s)

-- a text has a byte 10 exactly if its first line has
pub ended_front : (s : List ℕ) → ended (front_line s) ≡ ended s
unfolding ended front_line
ended_front [] = refl
ended_front (b ∷ s) = by_byte (eqb b 10) (ended_front s)
  where
    by_byte : (t : Bool) → ended (front_line s) ≡ ended s → t || ended (pick t [] (front_line s)) ≡ t || ended s
    by_byte true again = refl
    by_byte false again = again

-- a text without byte 10 is one line
pub whole_line : (s : List ℕ) → ended s ≡ false → front_line s ≡ s
unfolding ended front_line
whole_line [] h = refl
whole_line (b ∷ s) h = let (other, none) = neither (eqb b 10) (ended s) h in rw (other, whole_line s none)

-- no word, no run
pub run_none : (w s : List ℕ) → word w s ≡ failed → is_run w s ≡ false
unfolding is_run
run_none w s e = rw (is_run, e)

-- a word is the whole run if no letter follows
pub run_some : (w s : List ℕ) {u : Unit {0}} {rest : List ℕ} → word w s ≡ parsed u rest → is_run w s ≡ not (letter_next rest)
unfolding is_run
run_some w s e = rw (is_run, e)

-- a run goes byte by byte
pub run_step : (w : ℕ) (ws : List ℕ) (b : ℕ) (s : List ℕ) → is_run (w ∷ ws) (b ∷ s) ≡ eqb w b && is_run ws s
unfolding is_run word
run_step w ws b s = by_byte (eqb w b) refl
  where
    by_byte : (t : Bool) → eqb w b ≡ t → is_run (w ∷ ws) (b ∷ s) ≡ t && is_run ws s
    by_byte true e = rw (is_run, word, e)
    by_byte false e = rw (is_run, word, e)

-- and does not go past the line
run_front : (w s : List ℕ) → ended w ≡ false → is_run w (front_line s) ≡ is_run w s
unfolding front_line ended is_run word letter_next
run_front [] [] h = refl
run_front [] (b ∷ s) h = refl
run_front (w ∷ ws) [] h = refl
run_front (w ∷ ws) (b ∷ s) h =
    let n = neither (eqb w 10) (ended ws) h in
    run_step w ws b (pick (eqb b 10) [] (front_line s)) ∙ by_byte (eqb w b) refl n.0 (run_front ws s n.1) ∙ sym (run_step w ws b s)
  where
    by_byte : (t : Bool) → eqb w b ≡ t → eqb w 10 ≡ false → is_run ws (front_line s) ≡ is_run ws s
        → t && is_run ws (pick (eqb b 10) [] (front_line s)) ≡ t && is_run ws s
    by_byte true e other again = rw (← eqb-true w b e, other) again
    by_byte false e other again = refl

-- nor does the name
name_front : (s : List ℕ) → is_name (front_line s) ≡ is_name s
unfolding is_name ended
name_front s = rw (run_front (bytes "unit") s refl, run_front (bytes "group") s refl, run_front (bytes "shut") s refl)

-- the first line tells what it begins with
pub named_front : (s : List ℕ) → is_named (front_line s) ≡ is_named s
unfolding front_line is_named
named_front [] = refl
named_front (b ∷ s) = by_byte (eqb b 10) refl
  where
    by_byte : (t : Bool) → eqb b 10 ≡ t → is_opening (kind_of b) && is_name (pick t [] (front_line s)) ≡ is_opening (kind_of b) && is_name s
    by_byte true e = rw (eqb-true b 10 e)
    by_byte false e = ap (λ t. is_opening (kind_of b) && t) (name_front s)
