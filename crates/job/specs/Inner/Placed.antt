-- A group line that was read, its members in the flat list: what the code asks of it, and its verdict on it. Assumes nothing.
use Rattle.std.specs.Prelude.{ℕ, ◌+◌, ◌≤◌, true, List, ◌≡◌, length, take, drop}
use Rattle.form.specs.declared.Head.{Head}
use Rattle.form.specs.declared.Members.{Members}
use Rattle.job.specs.declared.steps.Progress.{Progress}
use Rattle.job.specs.Inner.Below.{AllBelow}
use Rattle.model.specs.Refusals.{unless}
use Rattle.job.specs.Job.{first_refusal, head_verdict, distinct}
use Rattle.model.specs.Shares.{most_units}

-- the refusal of its head, 0 where there is none
abbrev pub head_number : Progress → Head → Members → ℕ
head_number p head m = head_verdict p.groups p.memberships head.total head.limits m.count

-- and with the refusals of its members
unfoldable pub group_number : Progress → Head → Members → List ℕ → ℕ → ℕ
group_number p head m flat from =
    first_refusal (head_number p head m) (unless m.within 8 (unless (distinct (take m.count (drop from flat))) 9 0))

-- where its head has no refusal its members lie in the list, and those that are unit numbers are below the most units
pub record Placed (p : Progress) (head : Head) (m : Members) (flat : List ℕ) (from : ℕ) : Type 0 where
  pub inside : head_number p head m ≡ 0 → from + m.count ≤ length flat
  pub below : head_number p head m ≡ 0 → m.within ≡ true → AllBelow most_units (take m.count (drop from flat))
