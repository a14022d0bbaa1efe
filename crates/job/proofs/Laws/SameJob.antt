-- Jobs that differ only in the order of their groups take the same lines, and group lines in every order. Assumes nothing.
use Rattle.std.specs.Prelude.{ℕ, suc, ◌+◌, ◌↔◌, ◌≡◌, refl, length}
use mathlib.Core.List.{List, [], ◌∷◌, ◌++◌, append_assoc, Memᴰ, Permᴰ}
use Rattle.std.proofs.Common.{sym, ap, ◌∙◌, arith}
use Rattle.std.proofs.Math.ListN.{length-append}
use Rattle.std.proofs.lemmas.List.{length-map}
use Rattle.model.specs.Groups.{Group}
use Rattle.job.specs.Accepting.{Takes}
use Rattle.groups.specs.Memberships.{memberships}
use Rattle.groups.specs.Laws.Storing.{memberships_snoc}
use Rattle.form.specs.Form.{line_low, line_high, line_mark, limits_said, GroupLine, Line, unit, group}
use Rattle.job.specs.Job.{Job, group_of, members_verdict, verdict, add}
use Rattle.job.proofs.Laws.Verdicts.{HeadGood, first_zero, head_good, good_head}
use Rattle.job.specs.SameJob.{SameButOrder}

-- what is in a list is in its rearrangement
pub still_there : {A : Type 0} {a : A} {xs ys : List A} → Permᴰ xs ys → Memᴰ a xs → Memᴰ a ys
still_there mathlib.Core.List.Permᴰ.nil m = m
still_there (mathlib.Core.List.Permᴰ.cons e d) (Memᴰ.head h) = Memᴰ.head (h ∙ e)
still_there (mathlib.Core.List.Permᴰ.cons e d) (Memᴰ.tail m) = Memᴰ.tail (still_there d m)
still_there (mathlib.Core.List.Permᴰ.swap e f) (Memᴰ.head h) = Memᴰ.tail (Memᴰ.head (h ∙ e))
still_there (mathlib.Core.List.Permᴰ.swap e f) (Memᴰ.tail (Memᴰ.head h)) = Memᴰ.head (h ∙ f)
still_there (mathlib.Core.List.Permᴰ.swap e f) (Memᴰ.tail (Memᴰ.tail m)) = Memᴰ.tail (Memᴰ.tail m)
still_there (mathlib.Core.List.Permᴰ.trans c d) m = still_there d (still_there c m)

-- a rearrangement is as long
same_length : {A : Type 0} {xs ys : List A} → Permᴰ xs ys → length xs ≡ length ys
same_length mathlib.Core.List.Permᴰ.nil = refl
same_length (mathlib.Core.List.Permᴰ.cons e d) = ap suc (same_length d)
same_length (mathlib.Core.List.Permᴰ.swap e f) = refl
same_length (mathlib.Core.List.Permᴰ.trans c d) = same_length c ∙ same_length d

-- and has as many memberships
same_memberships : {gs hs : List Group} → Permᴰ gs hs → memberships gs ≡ memberships hs
unfolding memberships
same_memberships mathlib.Core.List.Permᴰ.nil = refl
same_memberships (mathlib.Core.List.Permᴰ.cons e d) = rw (e, same_memberships d)
same_memberships (mathlib.Core.List.Permᴰ.swap e f) = rw (e, f) (omega arith)
same_memberships (mathlib.Core.List.Permᴰ.trans c d) = same_memberships c ∙ same_memberships d

-- jobs that differ only so refuse the same lines
pub verdict_same : {job other : Job} → SameButOrder job other → (l : Line) → verdict job l ≡ verdict other l
unfolding verdict
verdict_same same (unit u) = rw (same.same_lows, same_length same.rearranged)
verdict_same same (group g) = rw (same.same_lows, same_length same.rearranged, same_memberships same.rearranged)

-- and still differ only so with one line more
pub add_same : {job other : Job} → SameButOrder job other → (l : Line) → SameButOrder (add job l) (add other l)
unfolding add
add_same same (unit u) = record {
  same_lows = ap (λ ls. ls ++ line_low u ∷ []) same.same_lows;
  same_highs = ap (λ hs. hs ++ line_high u ∷ []) same.same_highs;
  same_marks = ap (λ ms. ms ++ line_mark u ∷ []) same.same_marks;
  rearranged = same.rearranged;
}
add_same same (group g) = record {
  same_lows = same.same_lows;
  same_highs = same.same_highs;
  same_marks = same.same_marks;
  rearranged = mathlib.Core.List.Permᴰ.append_right (group_of g ∷ []) same.rearranged;
}

-- what taking these lines after that job's gives: the same job but for the order
abbrev pub Follows : Job → List (List ℕ) → Job → Type 0
Follows job lines final = (last : Job) × Takes job lines last × SameButOrder final last

-- lines that the one takes are taken by the other
pub takes_same : {job other final : Job} {lines : List (List ℕ)} → SameButOrder job other → Takes job lines final → Follows other lines final
takes_same {other = other} same (Takes.none is) = (other, Takes.none refl, rw (← is) same)
takes_same same (Takes.also l is good rest) =
    let (last, takes, order) = takes_same (add_same same l) rest in
    (last, Takes.also l is (sym (verdict_same same l) ∙ good) takes, order)

-- a group line's head has no refusal after a job's lines
abbrev pub HeadFits : Job → GroupLine → Type 0
HeadFits job g =
    HeadGood (length job.groups) (memberships job.groups) g.heading.total (limits_said g.heading) (length (g.first ∷ g.others))

-- a group line without a refusal has a good head and good members
group_good : (job : Job) (g : GroupLine) → verdict job (group g) ≡ 0
    → HeadFits job g × (members_verdict (length job.lows) (g.first ∷ g.others) ≡ 0)
unfolding verdict
group_good job g h = let z = first_zero _ _ h in (head_good _ _ g.heading.total (limits_said g.heading) _ z.0, z.1)

-- and a group line with both has no refusal
pub good_group : (job : Job) (g : GroupLine) → HeadFits job g → members_verdict (length job.lows) (g.first ∷ g.others) ≡ 0
    → verdict job (group g) ≡ 0
unfolding verdict
good_group job g head members = rw (good_head head) members

-- the memberships with its members
taken_with : (job : Job) (g : GroupLine) → memberships (add job (group g)).groups ≡ memberships job.groups + length (g.first ∷ g.others)
unfolding add
taken_with job g = memberships_snoc job.groups (group_of g) ∙ rw length-map

-- two group lines that are taken
module _ (job : Job) (g h : GroupLine) (first_good : verdict job (group g) ≡ 0) (second_good : verdict (add job (group g)) (group h) ≡ 0) where
  -- the second is taken first
  pub second_first : verdict job (group h) ≡ 0
  unfolding add
  second_first =
      let (a, _) = group_good job g first_good in
      let (b, members) = group_good (add job (group g)) h second_good in
      good_group job h (record {
        total_fits = b.total_fits;
        deviation_fits = b.deviation_fits;
        spread_fits = b.spread_fits;
        pairs_fits = b.pairs_fits;
        room = a.room;
        fits = omega (arith, taken_with job g, b.fits);
      }) members

  -- and then the first
  pub first_second : verdict (add job (group h)) (group g) ≡ 0
  unfolding add
  first_second =
      let (a, members) = group_good job g first_good in
      let (b, _) = group_good (add job (group g)) h second_good in
      good_group (add job (group h)) g (record {
        total_fits = a.total_fits;
        deviation_fits = a.deviation_fits;
        spread_fits = a.spread_fits;
        pairs_fits = a.pairs_fits;
        room = omega (arith, length-append job.groups (group_of g ∷ []), length-append job.groups (group_of h ∷ []), b.room);
        fits = omega (arith, taken_with job g, taken_with job h, b.fits);
      }) members

-- two groups more, in either order
pub swapped_same : (g h : GroupLine) {job other : Job} → SameButOrder job other
    → SameButOrder (add (add job (group g)) (group h)) (add (add other (group h)) (group g))
unfolding add
swapped_same g h {job} {other} same =
    let first : Group = group_of g in
    let second : Group = group_of h in
    let grown : Permᴰ (job.groups ++ first ∷ second ∷ []) (other.groups ++ second ∷ first ∷ []) =
    mathlib.Core.List.Permᴰ.trans (mathlib.Core.List.Permᴰ.append_right (first ∷ second ∷ []) same.rearranged) (mathlib.Core.List.Permᴰ.append_left other.groups (mathlib.Core.List.Permᴰ.swap refl refl)) in
    record {
      same_lows = same.same_lows;
      same_highs = same.same_highs;
      same_marks = same.same_marks;
      rearranged = rw (append_assoc job.groups (first ∷ []) (second ∷ []), append_assoc other.groups (second ∷ []) (first ∷ [])) grown;
    }

-- a job as it is
pub unchanged : (job : Job) → SameButOrder job job
unchanged job = record { same_lows = refl; same_highs = refl; same_marks = refl; rearranged = mathlib.Core.List.Permᴰ.refl job.groups }

-- one order after another
pub order_on : {first second third : Job} → SameButOrder first second → SameButOrder second third → SameButOrder first third
order_on a b = record {
  same_lows = a.same_lows ∙ b.same_lows;
  same_highs = a.same_highs ∙ b.same_highs;
  same_marks = a.same_marks ∙ b.same_marks;
  rearranged = mathlib.Core.List.Permᴰ.trans a.rearranged b.rearranged;
}

-- such jobs have the same groups
pub same_members : {found again : Job} → SameButOrder found again → (g : Group) → Memᴰ g found.groups ↔ Memᴰ g again.groups
same_members same g = (still_there same.rearranged, still_there (mathlib.Core.List.Permᴰ.symm same.rearranged))
