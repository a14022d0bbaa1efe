-- A line in the form has none of 13, 14 and 15. Assumes nothing.
use Rattle.std.specs.Prelude.{ℕ, suc, ◌+◌, ◌≤◌, true, false, List, [], ◌∷◌, ◌++◌, ◌≡◌, refl, eqb}
use Rattle.std.proofs.Common.{append_assoc, sym, ap, ◌∙◌, arith, le-leb}
use Rattle.std.proofs.lemmas.Bool.{eqb-false}
use Rattle.text.specs.Ailments.{ended, paired, is_run, letter_next, is_name, is_named, ailment_of}
use Rattle.text.specs.Laws.Sentences.{bracket_none}
use Rattle.model.proofs.Laws.Tests.{neither, either_right}
use Rattle.model.specs.declared.Limit.{Limit}
use Rattle.model.specs.declared.Limit.TheVariants.{Any, AtMost}
use Rattle.text.specs.Numbers.{print_number}
use Rattle.text.specs.Parsed.{word}
use Rattle.form.specs.Form.{range, shut, Line, unit, group, unit_ending, deviation_opening, spread_opening, members_opening, group_ending, space, any_word}
use Rattle.form.specs.Form.{PairsLimit, unsaid, said, Heading, print_limit, print_pairs, print_members, print_line}
use Rattle.job.specs.Job.{contains}
use Rattle.job.proofs.Laws.TextLines.{number_without, printed_one}

-- bytes without brackets change no count
calm_ahead : (w : List ℕ) → contains 40 w ≡ false → contains 41 w ≡ false → (opened closed : ℕ) → closed ≤ opened → (s : List ℕ)
    → paired opened closed (w ++ s) ≡ paired opened closed s
unfolding contains paired
calm_ahead [] p q opened closed few s = refl
calm_ahead (b ∷ w) p q opened closed few s =
    let (not_opening, unopened) = neither (eqb 40 b) (contains 40 w) p in
    let (not_closing, unclosed) = neither (eqb 41 b) (contains 41 w) q in
    let (none, nor) = bracket_none b (λ e. eqb-false 40 b not_opening (sym e)) (λ e. eqb-false 41 b not_closing (sym e)) in
    let same : opened + 0 ≡ opened = omega arith in
    let too : closed + 0 ≡ closed = omega arith in
    rw (none, nor, same, too, le-leb closed opened few) (calm_ahead w unopened unclosed opened closed few s)

number_calm : (v opened closed : ℕ) → closed ≤ opened → (s : List ℕ) → paired opened closed (print_number v ++ s) ≡ paired opened closed s
number_calm v =
    calm_ahead (print_number v) (number_without 40 (omega arith) (suc v) v (omega arith)) (number_without 41 (omega arith) (suc v) v (omega arith))

limit_calm : (l : Limit) (opened closed : ℕ) → closed ≤ opened → (s : List ℕ) → paired opened closed (print_limit l ++ s) ≡ paired opened closed s
unfolding print_limit contains
limit_calm Any = calm_ahead any_word refl refl
limit_calm (AtMost v) = number_calm v

members_calm : (ms : List ℕ) (opened closed : ℕ) → closed ≤ opened → (s : List ℕ) → paired opened closed (print_members ms ++ s) ≡ paired opened closed s
unfolding print_members contains
members_calm [] opened closed few s = refl
members_calm (m ∷ ms) opened closed few s =
    rw (print_members, append_assoc (print_number m) (print_members ms) s)
    (calm_ahead space refl refl opened closed few (print_number m ++ (print_members ms ++ s))
    ∙ number_calm m opened closed few (print_members ms ++ s)
    ∙ members_calm ms opened closed few s)

-- the brackets from a spread limit's on are paired, with a pairs limit and without
from_spread : (p : PairsLimit) (ms : List ℕ) → paired 3 1 (print_pairs p ++ (members_opening ++ (print_members ms ++ group_ending))) ≡ true
unfolding print_pairs paired
from_spread unsaid ms = members_calm ms 4 2 (omega arith) group_ending
from_spread (said limit) ms =
    limit_calm limit 4 2 (omega arith) (members_opening ++ (print_members ms ++ group_ending)) ∙ members_calm ms 5 3 (omega arith) group_ending

-- the brackets of a line in the form are paired
printed_paired : (l : Line) → paired 0 0 (print_line l) ≡ true
unfolding print_line paired
printed_paired (unit (range low high)) =
    number_calm low 1 0 (omega arith) (space ++ (print_number high ++ unit_ending)) ∙ number_calm high 1 0 (omega arith) unit_ending
printed_paired (unit shut) = refl
printed_paired (group g) =
    let h : Heading = g.heading in
    let pairs = print_pairs h.pairs ++ (members_opening ++ (print_members (g.first ∷ g.others) ++ group_ending)) in
    let spread = spread_opening ++ (print_limit h.spread ++ pairs) in
    let deviation = deviation_opening ++ (print_limit h.deviation ++ spread) in
    number_calm h.total 1 0 (omega arith) deviation
    ∙ limit_calm h.deviation 2 0 (omega arith) spread
    ∙ limit_calm h.spread 3 1 (omega arith) pairs
    ∙ from_spread h.pairs (g.first ∷ g.others)

-- it begins with a name
printed_named : (l : Line) → is_named (print_line l) ≡ true
unfolding print_line is_named is_name is_run word letter_next
printed_named (unit (range low high)) = refl
printed_named (unit shut) = refl
printed_named (group g) = refl

-- byte 10 ends it
ended_last : (w : List ℕ) → ended (w ++ 10 ∷ []) ≡ true
unfolding ended
ended_last [] = refl
ended_last (b ∷ w) = either_right (eqb b 10) (ended_last w)

-- so of 13, 14 and 15 it has none, in whichever order they and the form are asked
pub printed_well : (l : Line) → ailment_of (print_line l) ≡ 3
unfolding ailment_of
printed_well l = rw (ap ended (printed_one l).ended ∙ ended_last (printed_one l).body, printed_paired l, printed_named l)
