-- Levelling's answer where shares exist. Assumes nothing.
use Rattle.std.specs.Prelude.{ℕ, true, ◌≡◌, List, Option, Some, Ok}
use Rattle.model.specs.declared.Figures.{Figures}
use Rattle.model.specs.declared.Share.{Share}
use Rattle.model.specs.Levels.{level, levelled}
use Rattle.model.specs.Plans.{has_shares}
use Rattle.model.specs.Running.{marked_figures}
use Rattle.levelling.specs.declared.Levelled.{Levelled}
use Rattle.levelling.specs.Levelling.{levelled_to}

-- the answer where shares exist
pub levelled_answer : (lows highs marks : List ℕ) (total v : ℕ) (answer : Option Share) (share : Share) (figures : Figures)
    → has_shares lows highs total ≡ true → v ≡ level lows highs total → answer ≡ Some (record { copies = v }) → answer ≡ Some share
    → figures ≡ marked_figures marks total (levelled lows highs total)
    → Ok (record { level = share; figures = figures }) ≡ levelled_to lows highs marks total
unfolding levelled_to
levelled_answer lows highs marks total v answer share figures exist is_level valid is_valid is_figures =
    let is_share : share ≡ record { copies = v } = cc in
    rw (exist, is_share, is_level, is_figures)

-- the same of a level and its figures that are found together
pub levelled_ok : (lows highs marks : List ℕ) (total : ℕ) (answer : Levelled) → has_shares lows highs total ≡ true
    → answer.level.copies ≡ level lows highs total → answer.figures ≡ marked_figures marks total (levelled lows highs total)
    → Ok answer ≡ levelled_to lows highs marks total
unfolding levelled_to
levelled_ok lows highs marks total answer exist is_level is_figures = rw (exist, ← is_level, ← is_figures)
