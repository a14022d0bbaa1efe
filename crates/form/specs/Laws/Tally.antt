-- The members of a group line as the code keeps them: how many, whether all are units, and their place in the flat list. Assumes nothing.
use Rattle.std.specs.Prelude.{ℕ, zero, suc, ◌+◌, ◌≤◌, ◌<◌, Bool, true, ◌&&◌, List, [], ◌∷◌, map, ◌≡◌, refl, length, set}
use Rattle.std.proofs.Common.{sym, ap, ◌∙◌, arith}
use Rattle.std.proofs.lemmas.List.Edits.{sets}
use Rattle.text.specs.Parsed.{Parsed, parsed, failed, and_then, mapped, or_else}
use Rattle.text.specs.Laws.Parsed.{mapped_like, mapped_parsed}
use Rattle.model.proofs.Laws.Tests.{and_true, and_assoc}
use Rattle.text.specs.Inner.Numbers.{held}
use Rattle.text.specs.Laws.Printed.{number_after_shorter}
use Rattle.form.specs.Form.{is_said, Heading, limits_said, GroupLine, space, number_as, members_as, grouped, group_as}
use Rattle.form.specs.declared.Head.{Head}
use Rattle.form.specs.Named.{named, all_named, member_of}
use Rattle.form.specs.Inner.Tally.{Tally, tallied, kept_head, GroupTally, group_tally}

-- one member more: stored from a place on, as far as there is room
abbrev pub noted : ℕ → ℕ → Tally → ℕ → Tally
noted units from t m =
    record { count = t.count + 1; within = t.within && named units m; flat = set t.flat (from + t.count) (member_of m) }

-- a list of members noted in turn
unfoldable pub noted_all : ℕ → ℕ → Tally → List ℕ → Tally
noted_all units from t [] = t
noted_all units from t (m ∷ ms) = noted_all units from (noted units from t m) ms

-- the members that stand there, at most n, noted one by one
unfoldable pub collect : ℕ → ℕ → ℕ → Tally → List ℕ → Parsed Tally
collect units from zero t s = parsed t s
collect units from (suc n) t s =
    or_else (and_then (number_as held space s) (λ m s. collect units from n (noted units from t m) s)) (parsed t s)

one_by_one : (units from : ℕ) (t : Tally) (m : ℕ) (s : List ℕ) (q : Parsed (List ℕ))
    → or_else (mapped (noted_all units from (noted units from t m)) q) (parsed t s)
    ≡ mapped (noted_all units from t) (or_else (mapped (λ ms. m ∷ ms) q) (parsed [] s))
unfolding noted_all mapped or_else
one_by_one units from t m s (parsed ms r) = refl
one_by_one units from t m s failed = refl

collect_all : (units from n : ℕ) (t : Tally) (s : List ℕ) → collect units from n t s ≡ mapped (noted_all units from t) (members_as held n s)
unfolding collect noted_all members_as mapped and_then or_else
collect_all units from zero t s = refl
collect_all units from (suc n) t s = by_next (number_as held space s) (λ m r. collect_all units from n (noted units from t m) r)
  where
    by_next : (p : Parsed ℕ) → ((m : ℕ) (r : List ℕ) → collect units from n (noted units from t m) r
        ≡ mapped (noted_all units from (noted units from t m)) (members_as held n r))
        → or_else (and_then p (λ m s. collect units from n (noted units from t m) s)) (parsed t s)
        ≡ mapped (noted_all units from t) (or_else (and_then p (λ m s. mapped (λ ms. m ∷ ms) (members_as held n s))) (parsed [] s))
    by_next (parsed m r) again = rw (again m r) (one_by_one units from t m s (members_as held n r))
    by_next failed again = refl

noted_all_lem : (units from : ℕ) (t : Tally) (ms : List ℕ) → noted_all units from t ms
    ≡ record { count = t.count + length ms; within = t.within && all_named units ms; flat = sets t.flat (from + t.count) (map member_of ms) }
unfolding noted_all all_named
noted_all_lem units from t [] = let c : t.count + 0 ≡ t.count = omega arith in rw (c, and_true t.within)
noted_all_lem units from t (m ∷ ms) =
    let c : t.count + 1 + length ms ≡ t.count + suc (length ms) = omega arith in
    let k : from + (t.count + 1) ≡ suc (from + t.count) = omega arith in
    noted_all_lem units from (noted units from t m) ms ∙ rw (c, k, and_assoc t.within (named units m) (all_named units ms))

-- what is collected is the tally of the members read
pub collect_tallied : (units from n : ℕ) (flat s : List ℕ)
    → collect units from n (record { count = 0; within = true; flat = flat }) s ≡ mapped (tallied units from flat) (members_as held n s)
unfolding tallied
collect_tallied units from n flat s =
    collect_all units from n _ s
    ∙ mapped_like _ _ (members_as held n s)
    (λ ms.
    let c : 0 + length ms ≡ length ms = omega arith in
    let k : from + 0 ≡ from = omega arith in
    noted_all_lem units from _ ms ∙ rw (c, k))

either_first : {A : Type 0} (p : Parsed A) (a : A) (s : List ℕ) (q : Parsed A) → or_else (or_else p (parsed a s)) q ≡ or_else p (parsed a s)
unfolding or_else
either_first (parsed b r) a s q = refl
either_first failed a s q = refl

collect_first : (units from n : ℕ) (t : Tally) (s : List ℕ) (q : Parsed Tally) → or_else (collect units from n t s) q ≡ collect units from n t s
unfolding collect or_else
collect_first units from zero t s q = refl
collect_first units from (suc n) t s q =
    either_first (and_then (number_as held space s) (λ m s. collect units from n (noted units from t m) s)) t s q

-- where no member stands, the tally is done
pub collect_none : (units from n : ℕ) (t : Tally) (s : List ℕ) → number_as held space s ≡ failed → collect units from n t s ≡ parsed t s
unfolding collect and_then or_else
collect_none units from zero t s h = refl
collect_none units from (suc n) t s h = rw h

-- where one stands, it is noted
pub collect_next : (units from n : ℕ) (t : Tally) (s : List ℕ) (m : ℕ) (r : List ℕ) → length s ≤ n → number_as held space s ≡ parsed m r
    → (k : ℕ) × (length r ≤ k) × (length r < length s) × (collect units from n t s ≡ collect units from k (noted units from t m) r)
unfolding collect number_as and_then
collect_next units from zero t s m r l h = let d = number_after_shorter space s m r h in absurd (omega arith)
collect_next units from (suc n) t s m r l h =
    let d = number_after_shorter space s m r h in
    (n, omega arith, d, rw h (collect_first units from n (noted units from t m) r (parsed t s)))

-- a line with no member is none
pub grouped_none : (units from : ℕ) (flat : List ℕ) (h : Heading) (ms s : List ℕ) (t : Tally) → tallied units from flat ms ≡ t → t.count ≡ 0
    → grouped h ms s ≡ failed
unfolding grouped tallied
grouped_none units from flat h [] s t e z = refl
grouped_none units from flat h (m ∷ ms) s t e z = absurd (omega (arith, ap (λ (t : Tally). t.count) e))

-- a line with members is a group line
pub grouped_some : (units from : ℕ) (flat : List ℕ) (h : Heading) {head : Head} → kept_head h ≡ head → (ms s : List ℕ) (t : Tally)
    → tallied units from flat ms ≡ t → (t.count ≡ 0 → ⊥)
    → mapped (group_tally units from flat) (grouped h ms s) ≡ parsed (record { head = head; tally = t }) s
unfolding grouped mapped tallied
grouped_some units from flat h kept [] s t e n = absurd (n (sym (ap (λ (t : Tally). t.count) e)))
grouped_some units from flat h kept (m ∷ ms) s t e n = rw (← e, ← kept)

-- the unit numbers of a group line
abbrev pub numbers_of : GroupLine → List ℕ
numbers_of g = g.first ∷ g.others

-- what the code knows of a group line that it read
pub record GroupFacts (units from : ℕ) (flat flat' s r : List ℕ) (head : Head) (count : ℕ) (within : Bool) : Type 0 where
  pub line : GroupLine
  pub read : group_as held s ≡ parsed line r
  pub total : line.heading.total ≡ head.total
  pub limits : limits_said line.heading ≡ head.limits
  pub there : is_said line.heading.pairs ≡ head.pairs_there
  pub counted : length (numbers_of line) ≡ count
  pub all_within : all_named units (numbers_of line) ≡ within
  pub stored : flat' ≡ sets flat from (map member_of (numbers_of line))

-- they are known from the answer
pub group_facts : (units from : ℕ) (flat flat' s r : List ℕ) (head : Head) (count : ℕ) (within : Bool)
    → mapped (group_tally units from flat) (group_as held s)
    ≡ parsed (record { head = head; tally = record { count = count; within = within; flat = flat' } }) r
    → GroupFacts units from flat flat' s r head count within
unfolding tallied
group_facts units from flat flat' s r head count within h =
    let m = mapped_parsed (group_tally units from flat) (group_as held s) h in
    let t = ap (λ (g : GroupTally). g.tally) m.2 in
    record {
      line = m.0;
      read = m.1;
      total = ap (λ (g : GroupTally). g.head.total) m.2;
      limits = ap (λ (g : GroupTally). g.head.limits) m.2;
      there = ap (λ (g : GroupTally). g.head.pairs_there) m.2;
      counted = ap (λ (t : Tally). t.count) t;
      all_within = ap (λ (t : Tally). t.within) t;
      stored = sym (ap (λ (t : Tally). t.flat) t);
    }
