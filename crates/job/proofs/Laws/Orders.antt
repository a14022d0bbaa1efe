-- A text with its group lines in another order is accepted too, as the same job but for the order of its groups. Assumes nothing.
use Rattle.std.specs.Prelude.{ℕ, ◌≡◌, refl, length, get_or}
use mathlib.Core.List.{List, [], ◌∷◌, ◌++◌, flatten as joined, Memᴰ, Permᴰ}
use Rattle.std.proofs.Common.{sym, ap, ◌∙◌, arith, length-append}
use Rattle.job.specs.Accepting.{Takes}
use Rattle.job.proofs.Laws.Accepting.{accepted_takes, takes_accepted}
use Rattle.form.specs.Form.{UnitLine, range, shut, unit, group, print_line}
use Rattle.job.specs.Job.{Job, verdict, add, accepted, read_job}
use Rattle.job.specs.SameJob.{SameButOrder}
use Rattle.job.proofs.Laws.SameJob.{still_there, verdict_same, add_same, Follows, takes_same, second_first, first_second, swapped_same}
use Rattle.job.proofs.Laws.SameJob.{unchanged, order_on}
use Rattle.job.specs.TextLines.{lines_of}
use Rattle.job.proofs.Laws.TextLines.{joined_lines}
use Rattle.job.specs.Orders.{OfGroup, Reordered}

-- a group line is no unit line
no_unit : {bytes : List ℕ} (u : UnitLine) → OfGroup bytes → bytes ≡ print_line (unit u) → ⊥
unfolding print_line
no_unit (range low high) begins is = let z : ◌≡◌ {A = ℕ} 103 117 = ap (λ s. get_or s 1 0) (sym begins.1 ∙ is) in omega arith
no_unit shut begins is = let z : ◌≡◌ {A = ℕ} 103 115 = ap (λ s. get_or s 1 0) (sym begins.1 ∙ is) in omega arith

-- group lines that are taken are taken in every order
takes_rearranged : {job other final : Job} {lines others : List (List ℕ)} → Permᴰ lines others
    → ((bytes : List ℕ) → Memᴰ bytes lines → OfGroup bytes)
    → SameButOrder job other → Takes job lines final → Follows other others final
takes_rearranged mathlib.Core.List.Permᴰ.nil of_groups same takes = takes_same same takes
takes_rearranged {job} {other} (mathlib.Core.List.Permᴰ.cons e d) of_groups same (Takes.also l is good rest) =
    let (last, takes, order) = takes_rearranged {job = add job l} {other = add other l} d (λ bytes m. of_groups bytes (Memᴰ.tail m)) (add_same same l) rest in
    (last, Takes.also l (sym e ∙ is) (sym (verdict_same same l) ∙ good) takes, order)
takes_rearranged (mathlib.Core.List.Permᴰ.swap e f) of_groups same (Takes.also (unit u) is good rest) =
    absurd (no_unit u (of_groups _ (Memᴰ.head refl)) is)
takes_rearranged (mathlib.Core.List.Permᴰ.swap e f) of_groups same (Takes.also (group g) is good (Takes.also (unit u) is_next good_next rest)) =
    absurd (no_unit u (of_groups _ (Memᴰ.tail (Memᴰ.head refl))) is_next)
takes_rearranged {job} {other} (mathlib.Core.List.Permᴰ.swap e f) of_groups same (Takes.also (group g) is good (Takes.also (group h) is_next good_next rest)) =
    let (last, takes, order) = takes_same (swapped_same g h same) rest in
    let near : verdict other (group h) ≡ 0 = sym (verdict_same same (group h)) ∙ second_first job g h good good_next in
    let far : verdict (add other (group h)) (group g) ≡ 0 =
    sym (verdict_same (add_same same (group h)) (group g)) ∙ first_second job g h good good_next in
    (last, Takes.also (group h) (sym f ∙ is_next) near (Takes.also (group g) (sym e ∙ is) far takes), order)
takes_rearranged {other = other} (mathlib.Core.List.Permᴰ.trans c d) of_groups same takes =
    let (middle, along, near) = takes_rearranged c of_groups same takes in
    let (last, takes, far) = takes_rearranged {job = other} {other = other} {final = middle} d (λ bytes m. of_groups bytes (still_there (mathlib.Core.List.Permᴰ.symm c) m)) (unchanged _) along in
    (last, takes, order_on near far)

-- the bytes are as many
same_bytes : {xs ys : List (List ℕ)} → Permᴰ xs ys → length (joined xs) ≡ length (joined ys)
unfolding joined
same_bytes mathlib.Core.List.Permᴰ.nil = refl
same_bytes (mathlib.Core.List.Permᴰ.cons {b = b} {l₁ = xs} {l₂ = ys} e d) = rw (e, length-append b (joined xs), length-append b (joined ys), same_bytes d)
same_bytes (mathlib.Core.List.Permᴰ.swap e f) = rw (e, f) (simp length-append (omega arith))
same_bytes (mathlib.Core.List.Permᴰ.trans c d) = same_bytes c ∙ same_bytes d

-- lines taken, apart after some of them
takes_apart : {job final : Job} (front : List (List ℕ)) {lines : List (List ℕ)} → Takes job (front ++ lines) final
    → (middle : Job) × Takes job front middle × Takes middle lines final
takes_apart {job} [] takes = (job, Takes.none refl, takes)
takes_apart {job} (bytes ∷ front) (Takes.also l is good rest) =
    let (middle, near, far) = takes_apart {job = add job l} front rest in (middle, Takes.also l is good near, far)

-- and put together again
takes_both : {job middle final : Job} {front lines : List (List ℕ)} → Takes job front middle → Takes middle lines final
    → Takes job (front ++ lines) final
takes_both (Takes.none is) far = rw is far
takes_both (Takes.also l is good near) far = Takes.also l is good (takes_both near far)

-- a text whose group lines are those of an accepted text in another order is accepted: the same job but for the order of its groups
pub reordered_accepted : {text other : List ℕ} {found : Job} → Reordered text other → read_job text ≡ accepted found
    → (again : Job) × (read_job other ≡ accepted again) × SameButOrder found again
reordered_accepted {text} {other} {found} reordered reads =
    let accepts = accepted_takes text found reads in
    let (middle, near, far) = takes_apart reordered.front (rw reordered.text_cut at accepts.takes) in
    let (again, takes, same) = takes_rearranged reordered.rearranged reordered.of_groups (unchanged middle) far in
    let lines : Permᴰ (lines_of text) (reordered.front ++ reordered.others) =
    rw reordered.text_cut (mathlib.Core.List.Permᴰ.append_left reordered.front reordered.rearranged) in
    let bytes : length (joined (lines_of text)) ≡ length text = ap length (joined_lines text) in
    let is : read_job (joined (reordered.front ++ reordered.others)) ≡ accepted again =
    takes_accepted again (reordered.front ++ reordered.others)
    (omega (arith, same_bytes lines, bytes, accepts.short))
    (omega (arith, ap length same.same_lows, accepts.some_unit))
    (takes_both near takes) in
    (again, rw reordered.other_is is, same)
