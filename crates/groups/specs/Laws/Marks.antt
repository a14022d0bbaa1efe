-- The marks of the units behind the groups. Assumes nothing.
use Rattle.std.specs.Prelude.{ℕ, suc, ◌+◌, ◌-◌, ◌≤◌, ◌<◌, List, [], ◌∷◌, ◌++◌, ◌≡◌, length, take, drop, set}
use Rattle.std.proofs.Common.{sym, ap, ◌∙◌, arith, add-one, length-drop, drop-drop, take-suc-set}
use Rattle.std.proofs.lemmas.List.Edits.{sets}
use Rattle.std.proofs.Math.Seq.{drop-append-add}
use Rattle.std.proofs.lemmas.List.{drop-set-add}
use Rattle.groups.specs.Inner.Flat.{marks_from, marks_in}
use Rattle.groups.specs.Laws.Storing.{set_behind}

-- numbers in front of a place, written anew, leave what lies behind it
behind_front : (p d : List ℕ) (k at : ℕ) → length p ≡ k → k ≤ at → drop at (p ++ drop k d) ≡ drop at d
behind_front p d k at e h =
    let i : at ≡ length p + (at - k) = omega arith in
    let j : k + (at - k) ≡ at = omega arith in
    ap (λ n. drop n (p ++ drop k d)) i ∙ drop-append-add p (drop k d) (at - k) ∙ drop-drop (at - k) k d ∙ ap (λ n. drop n d) j

-- groups written in front of the marks leave them
pub marks_behind : (units : ℕ) (p d : List ℕ) (k : ℕ) → length p ≡ k → k ≤ marks_from → marks_in units (p ++ drop k d) ≡ marks_in units d
marks_behind units p d k e h = ap (λ l. take units l) (behind_front p d k marks_from e h)

-- a mark stored behind a front leaves the front
pub mark_behind : (p d : List ℕ) (k at mark : ℕ) → length p ≡ k → k ≤ at → set (p ++ drop k d) at mark ≡ p ++ drop k (set d at mark)
mark_behind p d k at mark e h =
    let i : at ≡ length p + (at - k) = omega arith in
    let j : k + (at - k) ≡ at = omega arith in
    ap (λ n. set (p ++ drop k d) n mark) i
    ∙ set_behind p (drop k d) (at - k) mark
    ∙ ap (λ l. p ++ l) (sym (drop-set-add k d (at - k) mark) ∙ ap (λ n. drop k (set d n mark)) j)

-- one store more in a row
pub sets_snoc : (d : List ℕ) (at : ℕ) (vs : List ℕ) (v : ℕ) → set (sets d at vs) (at + length vs) v ≡ sets d at (vs ++ v ∷ [])
sets_snoc d at [] v = let e : at + 0 ≡ at = omega arith in rw e
sets_snoc d at (w ∷ vs) v =
    let e : at + suc (length vs) ≡ suc at + length vs = omega arith in
    rw e (sets_snoc (set d at w) (suc at) vs v)

-- the marks with one unit's more
pub marks_more : (units : ℕ) (flat : List ℕ) (mark : ℕ) → marks_from + units < length flat
    → marks_in (units + 1) (set flat (marks_from + units) mark) ≡ marks_in units flat ++ mark ∷ []
marks_more units flat mark h =
    rw (add-one, drop-set-add marks_from flat units mark)
    (take-suc-set (drop marks_from flat) units mark (omega (arith, length-drop marks_from flat)))
