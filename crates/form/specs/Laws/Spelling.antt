-- The form has one spelling: a printed line reads as itself, and what reads as a line was printed so. Assumes nothing.
use Rattle.std.specs.Prelude.{ℕ, zero, suc, ◌≤◌, List, [], ◌∷◌, ◌++◌, ◌≡◌, refl, length}
use Rattle.std.proofs.Common.{append_assoc, sym, ap, ◌∙◌, arith, ⊎_elim, length-append}
use Rattle.model.specs.declared.Limit.{Limit}
use Rattle.model.specs.declared.Limit.TheVariants.{Any, AtMost}
use Rattle.text.specs.Parsed.{parsed, failed, and_then, mapped, or_else, word}
use Rattle.text.specs.Laws.Parsed.{then_parsed, mapped_parsed, either_parsed, word_parsed, word_own}
use Rattle.text.specs.Numbers.{number_after, print_number}
use Rattle.text.specs.Laws.Printed.{NoDigitNext, number_printed, printed_number, number_not_word}
use Rattle.form.specs.Form.{UnitLine, range, shut, print_shut, GroupLine, Line, unit, group, unit_opening, unit_ending, group_opening, deviation_opening, spread_opening}
use Rattle.form.specs.Form.{pairs_opening, members_opening, any_word, space, group_ending, print_limit, print_pairs, print_members, print_line}
use Rattle.form.specs.Form.{PairsLimit, unsaid, said, Heading, number_as, limit_as, pairs_as, range_as, unit_as, members_as, head_as, grouped, group_as, line_as, line}

-- the number as it is
abbrev same : ℕ → ℕ
same v = v

read_number : (w : List ℕ) (v : ℕ) (s : List ℕ) → NoDigitNext s → number_as same w (w ++ (print_number v ++ s)) ≡ parsed v s
unfolding number_as number_after and_then mapped
read_number w v s h = rw (word_own w (print_number v ++ s), number_printed v s h)

read_limit : (w : List ℕ) (l : Limit) (s : List ℕ) → NoDigitNext s → limit_as same w (w ++ (print_limit l ++ s)) ≡ parsed l s
unfolding limit_as print_limit and_then or_else mapped word
read_limit w Any s h = rw (word_own w (any_word ++ s))
read_limit w (AtMost v) s h =
    rw (
      word_own w (print_number v ++ s),
      number_not_word 97 (110 ∷ 121 ∷ []) (print_number v ++ s) v s refl (number_printed v s h),
      read_number [] v s h,
    )

read_pairs : (p : PairsLimit) (s : List ℕ) → pairs_as same (print_pairs p ++ (members_opening ++ s)) ≡ parsed p (members_opening ++ s)
unfolding pairs_as limit_as print_pairs and_then or_else mapped word NoDigitNext
read_pairs unsaid s = refl
read_pairs (said limit) s = rw (read_limit pairs_opening limit (members_opening ++ s) refl)

-- what is ahead of a pairs limit or of the members is no digit
pairs_end : (p : PairsLimit) (s : List ℕ) → NoDigitNext (print_pairs p ++ (members_opening ++ s))
unfolding print_pairs NoDigitNext
pairs_end unsaid s = refl
pairs_end (said limit) s = refl

no_member : (s : List ℕ) → number_as same space (41 ∷ s) ≡ failed
unfolding number_as number_after and_then mapped word
no_member s = refl

members_end : (ms s : List ℕ) → NoDigitNext (print_members ms ++ 41 ∷ s)
unfolding print_members NoDigitNext
members_end [] s = refl
members_end (m ∷ ms) s = refl

read_members : (n : ℕ) (ms : List ℕ) (s : List ℕ) → length ms ≤ n → members_as same n (print_members ms ++ 41 ∷ s) ≡ parsed ms (41 ∷ s)
unfolding members_as print_members or_else and_then mapped
read_members zero [] s h = refl
read_members (suc n) [] s h = rw (no_member s)
read_members zero (m ∷ ms) s h = absurd (omega arith)
read_members (suc n) (m ∷ ms) s h =
    rw (
      append_assoc (print_number m) (print_members ms) (41 ∷ s),
      read_number space m (print_members ms ++ 41 ∷ s) (members_end ms s),
      read_members n ms s (omega arith),
    )

members_long : (ms s : List ℕ) → length ms ≤ length (print_members ms ++ s)
unfolding print_members
members_long [] s = omega arith
members_long (m ∷ ms) s =
    let h = members_long ms s in
    rw (print_members, append_assoc (print_number m) (print_members ms) s) (omega (arith, length-append (print_number m) (print_members ms ++ s)))

not_unit : (g : GroupLine) (s : List ℕ) → unit_as same (print_line (group g) ++ s) ≡ failed
unfolding unit_as range_as number_as number_after print_line and_then mapped or_else word
not_unit g s = refl

read_unit : (l : UnitLine) (s : List ℕ) → unit_as same (print_line (unit l) ++ s) ≡ parsed l s
unfolding unit_as range_as print_line and_then mapped or_else word NoDigitNext
read_unit shut s = refl
read_unit (range low high) s =
    simp append_assoc
    (rw (read_number unit_opening low (32 ∷ (print_number high ++ 41 ∷ 10 ∷ s)) refl, read_number space high (41 ∷ 10 ∷ s) refl))

read_group : (g : GroupLine) (s : List ℕ) → group_as same (print_line (group g) ++ s) ≡ parsed g s
unfolding group_as head_as grouped print_line and_then mapped word NoDigitNext
read_group g s =
    let ms : List ℕ = g.first ∷ g.others in
    let e : List ℕ = 41 ∷ 10 ∷ s in
    let t₃ : List ℕ = print_members ms ++ 41 ∷ e in
    let h : Heading = g.heading in
    let t₂ : List ℕ = print_pairs h.pairs ++ (members_opening ++ t₃) in
    let t₁ : List ℕ = spread_opening ++ (print_limit h.spread ++ t₂) in
    let t₀ : List ℕ = deviation_opening ++ (print_limit h.deviation ++ t₁) in
    simp append_assoc
    (rw (
      read_number group_opening h.total t₀ refl,
      read_limit deviation_opening h.deviation t₁ refl,
      read_limit spread_opening h.spread t₂ (pairs_end h.pairs t₃),
      read_pairs h.pairs t₃,
      read_members (length t₃) ms e (members_long ms (41 ∷ e)),
    ))

-- a printed line reads as itself
pub line_printed : (l : Line) (s : List ℕ) → line (print_line l ++ s) ≡ parsed l s
unfolding line line_as or_else mapped
line_printed (unit l) s = rw (read_unit l s)
line_printed (group g) s = rw (not_unit g s, read_group g s)

-- a front, then what follows it
on : {s : List ℕ} (w : List ℕ) {t u : List ℕ} → s ≡ w ++ t → t ≡ u → s ≡ w ++ u
on w e f = e ∙ ap (λ l. w ++ l) f

printed_number_as : (w s : List ℕ) {v : ℕ} {r : List ℕ} → number_as same w s ≡ parsed v r → s ≡ w ++ (print_number v ++ r)
unfolding number_as number_after
printed_number_as w s {v} {r} h =
    let m = mapped_parsed same (number_after w s) h in
    let a = then_parsed (word w s) _ m.1 in
    rw (← m.2) (on w (word_parsed w s a.2) (printed_number a.1 m.0 r a.3))

printed_bound : (s : List ℕ) {l : Limit} {r : List ℕ} → or_else (mapped (λ u. Any) (word any_word s)) (mapped AtMost (number_as same [] s)) ≡ parsed l r
    → s ≡ print_limit l ++ r
unfolding print_limit
printed_bound s h =
    ⊎_elim
    (λ e. let m = mapped_parsed (λ u. Any) (word any_word s) e in rw (← m.2) (word_parsed any_word s m.1))
    (λ e. let m = mapped_parsed AtMost (number_as same [] s) e in rw (← m.2) (printed_number_as [] s m.1))
    (either_parsed (mapped (λ u. Any) (word any_word s)) (mapped AtMost (number_as same [] s)) h)

printed_limit : (w s : List ℕ) {l : Limit} {r : List ℕ} → limit_as same w s ≡ parsed l r → s ≡ w ++ (print_limit l ++ r)
unfolding limit_as
printed_limit w s h = let a = then_parsed (word w s) _ h in on w (word_parsed w s a.2) (printed_bound a.1 a.3)

printed_pairs : (s : List ℕ) {p : PairsLimit} {r : List ℕ} → pairs_as same s ≡ parsed p r → s ≡ print_pairs p ++ r
unfolding pairs_as print_pairs
printed_pairs s {p} {r} h =
    ⊎_elim
    (λ e. let m = mapped_parsed said (limit_as same pairs_opening s) e in rw (← m.2) (printed_limit pairs_opening s m.1))
    (λ e. let i : unsaid ≡ p = cc in let k : s ≡ r = cc in rw (← i, k))
    (either_parsed (mapped said (limit_as same pairs_opening s)) (parsed unsaid s) h)

printed_members : (n : ℕ) (s : List ℕ) {ms : List ℕ} {r : List ℕ} → members_as same n s ≡ parsed ms r → s ≡ print_members ms ++ r
unfolding members_as print_members
printed_members zero s {ms} {r} h = let e : [] ≡ ms = cc in rw (← e) cc
printed_members (suc n) s {ms} {r} h =
    ⊎_elim
    (λ e.
    let a = then_parsed (number_as same space s) _ e in
    let m = mapped_parsed (λ ms. a.0 ∷ ms) (members_as same n a.1) a.3 in
    rw (← m.2)
    (printed_number_as space s a.2
    ∙ ap (λ l. 32 ∷ l) (ap (λ l. print_number a.0 ++ l) (printed_members n a.1 m.1)
    ∙ sym (append_assoc (print_number a.0) (print_members m.0) r))))
    (λ e. let i : [] ≡ ms = cc in let k : s ≡ r = cc in rw (← i, k))
    (either_parsed (and_then (number_as same space s) (λ m s. mapped (λ ms. m ∷ ms) (members_as same n s))) (parsed [] s) h)

range_onto : (low high : ℕ) (r : List ℕ)
    → unit_opening ++ (print_number low ++ (space ++ (print_number high ++ (unit_ending ++ r)))) ≡ print_line (unit (range low high)) ++ r
unfolding print_line
range_onto low high r = simp append_assoc

printed_range : (s : List ℕ) {l : UnitLine} {r : List ℕ} → range_as same s ≡ parsed l r → s ≡ print_line (unit l) ++ r
unfolding range_as
printed_range s {l} {r} h =
    let a = then_parsed (number_as same unit_opening s) _ h in
    let b = then_parsed (number_as same space a.1) _ a.3 in
    let e = mapped_parsed _ (word unit_ending b.1) b.3 in
    (printed_number_as unit_opening s a.2
    ∙ ap (λ l. unit_opening ++ (print_number a.0 ++ l))
    (printed_number_as space a.1 b.2 ∙ ap (λ l. space ++ (print_number b.0 ++ l)) (word_parsed unit_ending b.1 e.1)))
    ∙ range_onto a.0 b.0 r
    ∙ ap (λ l. print_line (unit l) ++ r) e.2

printed_unit : (s : List ℕ) {l : UnitLine} {r : List ℕ} → unit_as same s ≡ parsed l r → s ≡ print_line (unit l) ++ r
unfolding unit_as print_line
printed_unit s h =
    ⊎_elim
    (λ e. let m = mapped_parsed (λ u. shut) (word print_shut s) e in rw (← m.2) (word_parsed print_shut s m.1))
    (λ e. printed_range s e)
    (either_parsed (mapped (λ u. shut) (word print_shut s)) (range_as same s) h)

printed_head : (s : List ℕ) {h : Heading} {r : List ℕ} → head_as same s ≡ parsed h r
    → s ≡ group_opening ++ (print_number h.total ++ (deviation_opening ++ (print_limit h.deviation
    ++ (spread_opening ++ (print_limit h.spread ++ (print_pairs h.pairs ++ (members_opening ++ r)))))))
unfolding head_as
printed_head s {h} {r} k =
    let a = then_parsed (number_as same group_opening s) _ k in
    let b = then_parsed (limit_as same deviation_opening a.1) _ a.3 in
    let c = then_parsed (limit_as same spread_opening b.1) _ b.3 in
    let d = then_parsed (pairs_as same c.1) _ c.3 in
    let e = mapped_parsed _ (word members_opening d.1) d.3 in
    rw (← e.2)
    (printed_number_as group_opening s a.2
    ∙ ap (λ l. group_opening ++ (print_number a.0 ++ l)) (printed_limit deviation_opening a.1 b.2
    ∙ ap (λ l. deviation_opening ++ (print_limit b.0 ++ l)) (printed_limit spread_opening b.1 c.2
    ∙ ap (λ l. spread_opening ++ (print_limit c.0 ++ l)) (printed_pairs c.1 d.2
    ∙ ap (λ l. print_pairs d.0 ++ l) (word_parsed members_opening d.1 e.1)))))

printed_grouped : (h : Heading) (ms s : List ℕ) {g : GroupLine} {r : List ℕ} → grouped h ms s ≡ parsed g r
    → (h ≡ g.heading) × (ms ≡ g.first ∷ g.others) × (s ≡ r)
unfolding grouped
printed_grouped h [] s k = absurd (let z : ◌≡◌ {A = ℕ} 0 1 = cc in omega arith)
printed_grouped h (m ∷ ms) s {g} {r} k =
    let e : record { heading = h; first = m; others = ms } ≡ g = cc in
    (ap (λ g. g.heading) e, rw (← e), cc)

printed_group : (s : List ℕ) {g : GroupLine} {r : List ℕ} → group_as same s ≡ parsed g r → s ≡ print_line (group g) ++ r
unfolding group_as print_line
printed_group s {g} {r} h =
    let a = then_parsed (head_as same s) _ h in
    let b = then_parsed (members_as same (length a.1) a.1) _ a.3 in
    let c = then_parsed (word group_ending b.1) _ b.3 in
    let d = printed_grouped a.0 b.0 c.1 c.3 in
    let ending : c.1 ≡ r = d.2 in
    let members : a.1 ≡ print_members b.0 ++ (group_ending ++ r) =
    on (print_members b.0) (printed_members (length a.1) a.1 b.2) (on group_ending (word_parsed group_ending b.1 c.2) ending) in
    simp append_assoc
    (printed_head s a.2 ∙ rw (d.0, members, d.1))

-- what reads as a line was printed so
pub printed_line_lem : (s : List ℕ) {l : Line} {r : List ℕ} → line s ≡ parsed l r → s ≡ print_line l ++ r
unfolding line line_as
printed_line_lem s {l} {r} h =
    ⊎_elim
    (λ e. let m = mapped_parsed unit (unit_as same s) e in rw (← m.2) (printed_unit s m.1))
    (λ e. let m = mapped_parsed group (group_as same s) e in rw (← m.2) (printed_group s m.1))
    (either_parsed (mapped unit (unit_as same s)) (mapped group (group_as same s)) h)
