-- The lines of the units that are left are to be written. Assumes nothing.
use Rattle.std.proofs.Common.{ℕ, suc, ◌≡◌, refl, ◌∙◌, List, [], ◌∷◌, ◌+◌, ◌⊎◌, ⊎_elim, inl, inr, length, add-one, arith}
use mathlib.Core.List.{flatten}
use Rattle.print.specs.Laws.Written.{Rest, begin, room_next, next, done}
use Rattle.report.specs.Lines.{unit_line}
use Rattle.report.specs.Reports.{unit_lines}
use Rattle.report.proofs.lines.put_unit_lines.Goals as goal

-- the next unit's line, and those after it
one : {lows highs more others bytes entry buffer : List ℕ} {low high start at number i : ℕ} → (lows ≡ low ∷ more) × (highs ≡ high ∷ others) → i ≡ number
    → Rest bytes entry start (unit_lines (suc number) lows highs) buffer at
    → Rest bytes entry start (unit_line (i + 1) low high ∷ unit_lines (suc (number + 1)) more others) buffer at
unfolding unit_lines
one split counts rest = rw (counts, add-one) (rw (split.0, split.1) at rest)

-- none at the end of either list
none : (number : ℕ) (lows highs : List ℕ) → (length lows ≡ 0) ⊎ (length highs ≡ 0) → flatten (unit_lines number lows highs) ≡ []
unfolding unit_lines flatten
none number [] highs ends = refl
none number (l ∷ lows) [] ends = refl
none number (l ∷ lows) (h ∷ highs) ends = absurd (⊎_elim (λ e. omega (arith, e)) (λ e. omega (arith, e)) ends)

pub loop-i-init : goal.loop-i-init
loop-i-init c =
    rw (c.into_iter-i-iterator.ensures.into_iter_gives, c.enumerate-i-items.ensures.source, c.enumerate-i-items.ensures.count, c.zip.ensures.first, c.iter.ensures.rest, c.zip.ensures.second.0)
    (begin _ refl c.requires.room, refl)

pub put_unit_line-requires : goal.put_unit_line-requires
put_unit_line-requires c =
    let steps = c.in-Some.ensures.steps in
    room_next (one steps.0 steps.1 c.loop-i.invariant.0)

pub loop-i-preserved : goal.loop-i-preserved
loop-i-preserved c =
    let steps = c.in-Some.ensures.steps in
    (rw steps.2 (next (one steps.0 steps.1 c.loop-i.invariant.0) c.put_unit_line.ensures.wrote), c.put_unit_line.ensures.same_reference ∙ c.loop-i.invariant.1)

pub returns-clause-wrote : goal.returns-clause-wrote
returns-clause-wrote c = done (none _ _ _ (⊎_elim (λ e. inl e.1.0) (λ e. inr e.1.0) c.in-None.ensures.steps.0)) c.loop-i.invariant.0
