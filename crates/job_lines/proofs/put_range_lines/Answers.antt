-- The lines of the units that are left are to be written. Assumes nothing.
use Rattle.std.proofs.Common.{ℕ, ◌≡◌, refl, ◌∙◌, List, [], ◌∷◌, ◌⊎◌, ⊎_elim, inl, inr, length, arith}
use mathlib.Core.List.{flatten}
use Rattle.print.specs.Laws.Written.{Rest, begin, room_next, next, done}
use Rattle.job_lines.specs.Texts.{range_line, range_lines}
use Rattle.job_lines.proofs.put_range_lines.Goals as goal

-- the next unit's line, and those after it
one : {marks lows highs bytes entry buffer : List ℕ} {mark low high start at : ℕ} (marks' lows' highs' : List ℕ)
    → (marks ≡ mark ∷ marks') × ((lows ≡ low ∷ lows') × (highs ≡ high ∷ highs'))
    → Rest bytes entry start (range_lines marks lows highs) buffer at
    → Rest bytes entry start (range_line mark low high ∷ range_lines marks' lows' highs') buffer at
unfolding range_lines
one marks' lows' highs' split rest = rw (split.0, split.1.0, split.1.1) at rest

-- none at the end of a list
none : (marks lows highs : List ℕ) → (length marks ≡ 0) ⊎ ((length lows ≡ 0) ⊎ (length highs ≡ 0)) → flatten (range_lines marks lows highs) ≡ []
unfolding range_lines flatten
none [] lows highs ends = refl
none (m ∷ marks) [] highs ends = refl
none (m ∷ marks) (l ∷ lows) [] ends = refl
none (m ∷ marks) (l ∷ lows) (h ∷ highs) ends = absurd (⊎_elim (λ e. omega (arith, e)) (⊎_elim (λ e. omega (arith, e)) (λ e. omega (arith, e))) ends)

pub loop-mark-init : goal.loop-mark-init
loop-mark-init c =
    rw (c.into_iter-mark-iterator.ensures.into_iter_gives, c.zip-mark-items.ensures.first, c.iter.ensures.rest, c.zip-mark-items.ensures.second, c.zip.ensures.first, c.iter-2.ensures.rest, c.zip.ensures.second.0)
    (begin _ refl c.requires.room, refl)

pub put_range_line-requires : goal.put_range_line-requires
put_range_line-requires c = room_next (one _ _ _ c.in-Some.ensures.steps c.loop-mark.invariant.0)

pub loop-mark-preserved : goal.loop-mark-preserved
loop-mark-preserved c = (
  next (one _ _ _ c.in-Some.ensures.steps c.loop-mark.invariant.0) c.put_range_line.ensures.wrote,
  c.put_range_line.ensures.same_reference ∙ c.loop-mark.invariant.1,
)

pub returns-clause-wrote : goal.returns-clause-wrote
returns-clause-wrote c =
    done
    (none _ _ _ (⊎_elim (λ e. inl e.1.0) (λ e. inr (⊎_elim (λ f. inl f.1.0) (λ f. inr f.1.0) e.1)) c.in-None.ensures.steps))
    c.loop-mark.invariant.0
