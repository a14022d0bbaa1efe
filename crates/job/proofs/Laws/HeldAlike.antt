-- Numbers above every limit may be held alike: a line so held is taken or refused as the line itself. Assumes nothing.
use Prim.Native.Nat.{ℕ, zero, suc, ◌<◌}
use Rattle.std.specs.Prelude.{Bool, true, false, ◌≡◌, leb, length}
use mathlib.Core.List.{List, [], ◌∷◌, map}
use Rattle.std.proofs.Math.Path.{refl, sym, ap}
use Rattle.std.proofs.Common.{◌∙◌, arith, le-leb, leb-true}
use Rattle.std.proofs.Math.Decide.{dec_le}
use Rattle.std.proofs.lemmas.Bool.{lt-leb}
use Rattle.std.proofs.lemmas.List.{length-map}
use Rattle.model.specs.Figures.{greatest_deviation, greatest_spread, greatest_pairs, limit_within}
use Rattle.model.specs.Shares.{greatest_share, greatest_total}
use Rattle.model.specs.declared.Limit.{Limit}
use Rattle.model.specs.declared.Limit.TheVariants.{Any, AtMost}
use Rattle.text.specs.Parsed.{Parsed, parsed, failed, and_then, mapped, or_else, word}
use Rattle.text.specs.Laws.Parsed.{and_then_mapped, mapped_and_then, and_then_same, mapped_or_else}
use Rattle.text.specs.Numbers.{number_after}
use Rattle.text.specs.Inner.Numbers.{held, most}
use Rattle.form.specs.Form.{UnitLine, range, shut, print_shut, GroupLine, Line, unit, group, unit_opening, space, unit_ending, group_opening, deviation_opening}
use Rattle.form.specs.Form.{spread_opening, pairs_opening, members_opening, group_ending, any_word, PairsLimit, unsaid, said, pairs_limit, Heading, limits_said}
use Rattle.form.specs.Form.{number_as, limit_as, pairs_as, range_as, unit_as, members_as, head_as, grouped, group_as, line_as, line}
use Rattle.groups.specs.Memberships.{memberships}
use Rattle.model.specs.Refusals.{unless}
use Rattle.job.specs.Job.{Job, unit_verdict, head_verdict, members_verdict, verdict, add, step_on, judged, distinct}
use Rattle.form.specs.Named.{named, all_named}
use Rattle.model.proofs.Laws.Tests.{both_left, both_right}
use Rattle.job.proofs.Laws.Verdicts.{unit_good, head_good, members_good, first_zero}

abbrev limit_by : (ℕ → ℕ) → Limit → Limit
limit_by f Any = Any
limit_by f (AtMost v) = AtMost (f v)

abbrev pairs_by : (ℕ → ℕ) → PairsLimit → PairsLimit
pairs_by f unsaid = unsaid
pairs_by f (said limit) = said (limit_by f limit)

abbrev unit_by : (ℕ → ℕ) → UnitLine → UnitLine
unit_by f (range low high) = range (f low) (f high)
unit_by f shut = shut

abbrev head_by : (ℕ → ℕ) → Heading → Heading
head_by f h =
    record { total = f h.total; deviation = limit_by f h.deviation; spread = limit_by f h.spread; pairs = pairs_by f h.pairs }

abbrev group_by : (ℕ → ℕ) → GroupLine → GroupLine
group_by f g = record { heading = head_by f g.heading; first = f g.first; others = map f g.others }

-- a line with its numbers by a function of them
unfoldable pub line_by : (ℕ → ℕ) → Line → Line
line_by f (unit l) = unit (unit_by f l)
line_by f (group g) = group (group_by f g)

-- reading on from equal values gives equal values
carried : {A A' B B' : Type 0} (h : A → A') (g : B → B') (p : Parsed A) {p' : Parsed A'} (k : A → List ℕ → Parsed B) (k' : A' → List ℕ → Parsed B')
    → p' ≡ mapped h p → ((a : A) (s : List ℕ) → k' (h a) s ≡ mapped g (k a s)) → and_then p' k' ≡ mapped g (and_then p k)
carried h g p k k' e same = rw e (and_then_mapped h p k' ∙ and_then_same p _ _ same ∙ sym (mapped_and_then g p k))

mapped_same : {A : Type 0} (p : Parsed A) → p ≡ mapped (λ a. a) p
unfolding mapped
mapped_same (parsed a s) = refl
mapped_same failed = refl

mapped_twice : {A B C : Type 0} (f : A → B) (g : B → C) (p : Parsed A) → mapped (λ a. g (f a)) p ≡ mapped g (mapped f p)
unfolding mapped
mapped_twice f g (parsed a s) = refl
mapped_twice f g failed = refl

abbrev same : ℕ → ℕ
same v = v

module _ (f : ℕ → ℕ) where
  number_by : (w s : List ℕ) → number_as f w s ≡ mapped f (number_as same w s)
  unfolding number_as
  number_by w s = mapped_twice same f (number_after w s)

  limit_by_lem : (w s : List ℕ) → limit_as f w s ≡ mapped (limit_by f) (limit_as same w s)
  unfolding limit_as
  limit_by_lem w s =
      carried (λ u. u) (limit_by f) (word w s) _ _ (mapped_same _)
      (λ u s. rw (
        mapped_or_else,
        ← mapped_twice (λ u. Any) (limit_by f) (word any_word s),
        ← mapped_twice AtMost (limit_by f) (number_as same [] s),
        number_by [] s,
      ) (ap (λ p. or_else (mapped (λ u. Any) (word any_word s)) p) (sym (mapped_twice f AtMost (number_as same [] s)))))

  pairs_by_lem : (s : List ℕ) → pairs_as f s ≡ mapped (pairs_by f) (pairs_as same s)
  unfolding pairs_as mapped
  pairs_by_lem s =
      rw (
        mapped_or_else,
        ← mapped_twice said (pairs_by f) (limit_as same pairs_opening s),
        limit_by_lem pairs_opening s,
        ← mapped_twice (limit_by f) said (limit_as same pairs_opening s),
      )

  range_by : (s : List ℕ) → range_as f s ≡ mapped (unit_by f) (range_as same s)
  unfolding range_as
  range_by s =
      carried f (unit_by f) (number_as same unit_opening s) _ _ (number_by unit_opening s)
      (λ low s. carried f (unit_by f) (number_as same space s) _ _ (number_by space s)
      (λ high s. mapped_twice (λ u. range low high) (unit_by f) (word unit_ending s)))

  unit_by_lem : (s : List ℕ) → unit_as f s ≡ mapped (unit_by f) (unit_as same s)
  unfolding unit_as
  unit_by_lem s = rw (mapped_or_else, ← mapped_twice (λ u. shut) (unit_by f) (word print_shut s), range_by s)

  members_by : (n : ℕ) (s : List ℕ) → members_as f n s ≡ mapped (map f) (members_as same n s)
  unfolding members_as mapped
  members_by zero s = refl
  members_by (suc n) s =
      let one = carried f (map f) (number_as same space s) (λ m s. mapped (λ ms. m ∷ ms) (members_as same n s))
      (λ m s. mapped (λ ms. m ∷ ms) (members_as f n s)) (number_by space s)
      (λ m s. rw (members_by n s) (sym (mapped_twice (map f) (λ ms. f m ∷ ms) (members_as same n s))
      ∙ mapped_twice (λ ms. m ∷ ms) (map f) (members_as same n s))) in
      ap (λ p. or_else p (parsed [] s)) one ∙ sym (mapped_or_else (map f) _ (parsed [] s))

  head_by_lem : (s : List ℕ) → head_as f s ≡ mapped (head_by f) (head_as same s)
  unfolding head_as
  head_by_lem s =
      carried f (head_by f) (number_as same group_opening s) _ _ (number_by group_opening s)
      (λ total s. carried (limit_by f) (head_by f) (limit_as same deviation_opening s) _ _ (limit_by_lem deviation_opening s)
      (λ deviation s. carried (limit_by f) (head_by f) (limit_as same spread_opening s) _ _ (limit_by_lem spread_opening s)
      (λ spread s. carried (pairs_by f) (head_by f) (pairs_as same s) _ _ (pairs_by_lem s)
      (λ pairs s. mapped_twice (λ u. record { total = total; deviation = deviation; spread = spread; pairs = pairs }) (head_by f)
      (word members_opening s)))))

  grouped_by : (h : Heading) (ms s : List ℕ) → grouped (head_by f h) (map f ms) s ≡ mapped (group_by f) (grouped h ms s)
  unfolding grouped mapped
  grouped_by h [] s = refl
  grouped_by h (m ∷ ms) s = refl

  group_by_lem : (s : List ℕ) → group_as f s ≡ mapped (group_by f) (group_as same s)
  unfolding group_as
  group_by_lem s =
      carried (head_by f) (group_by f) (head_as same s) _ _ (head_by_lem s)
      (λ h s. carried (map f) (group_by f) (members_as same (length s) s) _ _ (members_by (length s) s)
      (λ ms s. carried (λ w. w) (group_by f) (word group_ending s) _ _ (mapped_same _)
      (λ w s. grouped_by h ms s)))

  line_by_lem : (s : List ℕ) → line_as f s ≡ mapped (line_by f) (line s)
  unfolding line_as line line_by
  line_by_lem s =
      rw (
        mapped_or_else,
        unit_by_lem s,
        group_by_lem s,
        ← mapped_twice unit (line_by f) (unit_as same s),
        ← mapped_twice group (line_by f) (group_as same s),
        ← mapped_twice (unit_by f) unit (unit_as same s),
        ← mapped_twice (group_by f) group (group_as same s),
      )

held_leb : (m k : ℕ) → k < most → leb (held m) k ≡ leb m k
held_leb m k h =
    elim (dec_le m k)
    [ yes p ↦ rw (le-leb m k p, le-leb (held m) k (omega arith)) | no p ↦ rw (lt-leb m k (omega arith), lt-leb (held m) k (omega arith)) ]

one_held : (m : ℕ) → leb 1 (held m) ≡ leb 1 m
one_held m =
    elim (dec_le 1 m)
    [ yes p ↦ rw (le-leb 1 m p, le-leb 1 (held m) (omega arith)) | no p ↦ rw (lt-leb 1 m (omega arith), lt-leb 1 (held m) (omega arith)) ]

all_held : (units : ℕ) (ms : List ℕ) → units < most → all_named units (map held ms) ≡ all_named units ms
unfolding all_named
all_held units [] h = refl
all_held units (m ∷ ms) h = rw (all_held units ms h, one_held m, held_leb m units h)

named_held : (units : ℕ) (ms : List ℕ) → units < most → all_named units ms ≡ true → map held ms ≡ ms
unfolding all_named
named_held units [] h e = refl
named_held units (m ∷ ms) h e =
    let n = leb-true m units (both_right (leb 1 m) (leb m units) (both_left (named units m) (all_named units ms) e)) in
    let k : held m ≡ m = omega arith in
    rw (k, named_held units ms h (both_right (named units m) (all_named units ms) e))

limit_held : (most' : ℕ) (l : Limit) → most' < most → limit_within (limit_by held l) most' ≡ limit_within l most'
limit_held most' Any h = refl
limit_held most' (AtMost v) h = held_leb v most' h

limit_kept : (most' : ℕ) (l : Limit) → most' < most → limit_within l most' ≡ true → limit_by held l ≡ l
limit_kept most' Any h e = refl
limit_kept most' (AtMost v) h e = let p = leb-true v most' e in ap AtMost (omega arith)

pairs_held : (most' : ℕ) (p : PairsLimit) → most' < most → limit_within (pairs_limit (pairs_by held p)) most' ≡ limit_within (pairs_limit p) most'
pairs_held most' unsaid h = refl
pairs_held most' (said limit) h = limit_held most' limit h

pairs_kept : (most' : ℕ) (p : PairsLimit) → most' < most → limit_within (pairs_limit p) most' ≡ true → pairs_by held p ≡ p
pairs_kept most' unsaid h e = refl
pairs_kept most' (said limit) h e = ap said (limit_kept most' limit h e)

members_held : (units : ℕ) (ms : List ℕ) → units < most → members_verdict units (map held ms) ≡ members_verdict units ms
unfolding members_verdict
members_held units ms h = rw (all_held units ms h) (by_named (all_named units ms) refl)
  where
    by_named : (t : Bool) → all_named units ms ≡ t → unless t 8 (unless (distinct (map held ms)) 9 0) ≡ unless t 8 (unless (distinct ms) 9 0)
    by_named true e = rw (named_held units ms h e)
    by_named false e = refl

unit_held : (units groups : ℕ) (l : UnitLine) → unit_verdict units groups (unit_by held l) ≡ unit_verdict units groups l
unfolding unit_verdict
unit_held units groups shut = refl
unit_held units groups (range low high) =
    elim (dec_le low greatest_share) [
      | yes p ↦
          elim (dec_le high greatest_share) [
            | yes q ↦ let a : held low ≡ low = omega arith in let b : held high ≡ high = omega arith in rw (a, b)
            | no q ↦ rw (
              held_leb low greatest_share (omega arith),
              held_leb high greatest_share (omega arith),
              lt-leb high greatest_share (omega arith),
            )
          ]
      | no p ↦ rw (held_leb low greatest_share (omega arith), lt-leb low greatest_share (omega arith))
    ]

head_held : (groups taken : ℕ) (h : Heading) (count : ℕ)
    → head_verdict groups taken (held h.total) (limits_said (head_by held h)) count ≡ head_verdict groups taken h.total (limits_said h) count
unfolding head_verdict
head_held groups taken h count =
    rw (
      held_leb h.total greatest_total (omega arith),
      limit_held greatest_deviation h.deviation (omega arith),
      limit_held greatest_spread h.spread (omega arith),
      pairs_held greatest_pairs h.pairs (omega arith),
    )

verdict_held : (job : Job) (l : Line) → length job.lows < most → verdict job (line_by held l) ≡ verdict job l
unfolding verdict line_by
verdict_held job (unit l) h = unit_held (length job.lows) (length job.groups) l
verdict_held job (group g) h =
    rw (
      members_held (length job.lows) (g.first ∷ g.others) h,
      length-map g.others held,
      head_held (length job.groups) (memberships job.groups) g.heading (suc (length g.others)),
    )

line_kept : (job : Job) (l : Line) → length job.lows < most → verdict job l ≡ 0 → line_by held l ≡ l
unfolding verdict line_by
line_kept job (unit shut) h e = refl
line_kept job (unit (range low high)) h e =
    let g = unit_good _ _ (range low high) e in
    let a : held low ≡ low = omega (arith, g.low_fits) in
    let b : held high ≡ high = omega (arith, g.high_fits) in
    rw (a, b)
line_kept job (group g) few e =
    let z = first_zero _ _ e in
    let h : Heading = g.heading in
    let k = head_good _ _ h.total (limits_said h) _ z.0 in
    let m = named_held _ (g.first ∷ g.others) few (members_good _ _ z.1).all_named in
    let t : held h.total ≡ h.total = omega (arith, k.total_fits) in
    let f : held g.first ≡ g.first = cc in
    let o : map held g.others ≡ g.others = cc in
    rw (
      t,
      limit_kept greatest_deviation h.deviation (omega arith) k.deviation_fits,
      limit_kept greatest_spread h.spread (omega arith) k.spread_fits,
      pairs_kept greatest_pairs h.pairs (omega arith) k.pairs_fits,
      f,
      o,
    )

judged_same : (v : ℕ) (j k : Job) (s : List ℕ) (place : ℕ) → (v ≡ 0 → j ≡ k) → judged v j s place ≡ judged v k s place
judged_same zero j k s place h = rw (h refl)
judged_same (suc v) j k s place h = refl

step_on_held : (job : Job) (s : List ℕ) (p : Parsed Line) → length job.lows < most → step_on job s (mapped (line_by held) p) ≡ step_on job s p
unfolding step_on mapped
step_on_held job s failed h = refl
step_on_held job s (parsed l rest) h =
    rw (verdict_held job l h) (judged_same (verdict job l) (add job (line_by held l)) (add job l) rest _ (λ e. ap (add job) (line_kept job l h e)))

-- a line held is taken or refused as the line itself
pub step_held : (job : Job) (s : List ℕ) → length job.lows < most → step_on job s (line_as held s) ≡ step_on job s (line s)
step_held job s h = rw (line_by_lem held s) (step_on_held job s (line s) h)
