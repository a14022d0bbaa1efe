-- The members of a group line in the flat list: the verdict on what is stored is the verdict on the line. Assumes nothing.
use Rattle.std.specs.Prelude.{ℕ, zero, suc, ◌+◌, ◌≤◌, Bool, true, false, List, ◌++◌, map, ◌≡◌, refl, length, take, drop, Ok}
use Rattle.std.proofs.Common.{append_assoc, ap, sym, ◌∙◌, arith, take_at, drop_at, length-take-le}
use Rattle.std.proofs.lemmas.List.{length-map}
use Rattle.std.proofs.lemmas.List.Edits.{sets, sets-eq}
use Rattle.std.proofs.Math.Seq.{length-sets}
use Rattle.groups.specs.Inner.Flat.{head_length, flat_length, most_flat}
use Rattle.form.specs.declared.Head.{Head}
use Rattle.form.specs.declared.Members.{Members}
use Rattle.job.specs.declared.steps.Progress.{Progress}
use Rattle.model.specs.Refusals.{unless}
use Rattle.form.specs.Form.{limits_said}
use Rattle.job.specs.Job.{first_refusal, head_verdict, members_verdict, distinct}
use Rattle.form.specs.Named.{all_named, member_of}
use Rattle.job.specs.Inner.Verdicts.{verdict_answer}
use Rattle.job.specs.Inner.Taking.{place_at}
use Rattle.job.specs.Inner.Placed.{head_number, group_number, Placed}
use Rattle.job.proofs.Laws.Distinct.{distinct_members, members_below}
use Rattle.form.specs.Laws.Tally.{GroupFacts, numbers_of}
use Rattle.job.proofs.Laws.Verdicts.{HeadGood, head_good, first_zero, no_refusal}
use Rattle.model.specs.Shares.{most_units}

-- where the members of the next group line begin
abbrev pub members_from : Progress → ℕ
members_from p = flat_length p.groups p.memberships + head_length

-- a head without a refusal leaves its members room
head_fits : (p : Progress) (head : Head) (m : Members) → head_number p head m ≡ 0 → members_from p + m.count ≤ most_flat
head_fits p head m e =
    let k = head_good _ _ head.total head.limits _ e in
    omega (arith, k.room, k.fits)

-- the part of a list where numbers were stored
part_of_sets : (d vs : List ℕ) (i : ℕ) → i + length vs ≤ length d → take (length vs) (drop i (sets d i vs)) ≡ vs
part_of_sets d vs i h =
    rw (sets-eq vs d i h, append_assoc, drop_at (take i d) (vs ++ drop (i + length vs) d) i (length-take-le i d (omega arith)))
    (take_at vs _ (length vs) refl)

first_alike : (a : ℕ) {b c : ℕ} → (a ≡ 0 → b ≡ c) → first_refusal a b ≡ first_refusal a c
first_alike zero h = h refl
first_alike (suc a) h = refl

members_alike : (units : ℕ) (ms part : List ℕ) (within : Bool) → all_named units ms ≡ within → part ≡ map member_of ms
    → unless within 8 (unless (distinct part) 9 0) ≡ members_verdict units ms
unfolding members_verdict
members_alike units ms part true e h = rw (e, h, distinct_members units ms e)
members_alike units ms part false e h = rw e

module _ (p : Progress) (head : Head) (m : Members) {flat flat' s r : List ℕ}
    (f : GroupFacts p.units (members_from p) flat flat' s r head m.count m.within) (room : most_flat ≤ length flat) where
  -- the members are stored whole
  part : head_number p head m ≡ 0 → take m.count (drop (members_from p) flat') ≡ map member_of (numbers_of f.line)
  part e =
      let ms : List ℕ = map member_of (numbers_of f.line) in
      let n : length ms ≡ m.count = length-map (numbers_of f.line) member_of ∙ f.counted in
      rw (f.stored, ← n) (part_of_sets flat ms (members_from p) (omega (arith, head_fits p head m e)))

  -- and lie where the code looks for them
  pub placed : p.units ≤ most_units → Placed p head m flat' (members_from p)
  placed u =
      record {
        inside =
            λ e. omega (arith, head_fits p head m e, ap length f.stored, length-sets flat (members_from p) (map member_of (numbers_of f.line)));
        below = λ e w. rw (part e) (members_below p.units most_units _ u (f.all_within ∙ w));
      }

  -- the verdict on what is stored is the verdict on the line
  pub placed_number : group_number p head m flat' (members_from p)
      ≡ first_refusal (head_verdict p.groups p.memberships f.line.heading.total (limits_said f.line.heading) (length (numbers_of f.line)))
      (members_verdict p.units (numbers_of f.line))
  unfolding group_number
  placed_number =
      first_alike (head_number p head m) (λ e. members_alike p.units (numbers_of f.line) _ m.within f.all_within (part e))
      ∙ rw (f.total, f.limits, f.counted)

  -- so a group line that the code takes has the verdict 0
  pub placed_taken : {u : Unit} → Ok u ≡ verdict_answer (group_number p head m flat' (members_from p)) (place_at p)
      → first_refusal (head_verdict p.groups p.memberships f.line.heading.total (limits_said f.line.heading) (length (numbers_of f.line)))
      (members_verdict p.units (numbers_of f.line))
      ≡ 0
  placed_taken e = sym placed_number ∙ no_refusal _ _ e

  -- and its head has no refusal
  pub placed_good : {u : Unit} → Ok u ≡ verdict_answer (group_number p head m flat' (members_from p)) (place_at p)
      → HeadGood p.groups p.memberships f.line.heading.total (limits_said f.line.heading) (length (numbers_of f.line))
  placed_good e = head_good _ _ _ _ _ (first_zero _ _ (placed_taken e)).0
