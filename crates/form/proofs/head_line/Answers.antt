-- Item by item, each read where the one before ended. Assumes nothing.
use Rattle.std.specs.Prelude.{Option, Some, None, unwrap_or, is_some, ◌≡◌, refl}
use Rattle.model.specs.declared.Limit.{Limit}
use Rattle.model.specs.declared.Limit.TheVariants.{Any}
use Rattle.text.specs.Parsed.{and_then, mapped}
use Rattle.form.specs.Form.{pairs_limit, is_said, number_as, head_as}
use Rattle.form.specs.Inner.LinesRead.{pairs_told}
use Rattle.form.proofs.head_line.Goals as goal

-- a pairs limit that is not there is any
kept_pairs : (pairs : Option Limit) → (pairs_limit (pairs_told pairs) ≡ unwrap_or pairs Any) × (is_said (pairs_told pairs) ≡ is_some pairs)
kept_pairs (Some limit) = (refl, refl)
kept_pairs None = (refl, refl)

pub returns-in_err-total : goal.returns-in_err-total
unfolding head_as number_as and_then mapped
returns-in_err-total c = rw (c.from_residual.ensures, ← c.in_err-total.ensures)

pub returns-in_err-deviation : goal.returns-in_err-deviation
unfolding head_as number_as and_then mapped
returns-in_err-deviation c =
    rw (c.from_residual-in_err-deviation.ensures, ← c.in_ok-total.ensures, ← c.in_err-deviation.ensures)

pub returns-in_err-spread : goal.returns-in_err-spread
unfolding head_as number_as and_then mapped
returns-in_err-spread c =
    rw (c.from_residual-in_err-spread.ensures, ← c.in_ok-total.ensures, ← c.in_ok-deviation.ensures, ← c.in_err-spread.ensures)

pub returns-in_err-spot : goal.returns-in_err-spot
unfolding head_as number_as and_then mapped
returns-in_err-spot c =
    rw (
      c.from_residual-in_err-spot.ensures,
      ← c.in_ok-total.ensures,
      ← c.in_ok-deviation.ensures,
      ← c.in_ok-spread.ensures,
      ← c.pairs_after-pairs.ensures,
      ← c.in_err-spot.ensures,
    )

pub returns : goal.returns
unfolding head_as number_as and_then mapped
returns c =
    let kept = kept_pairs c.pairs_after-pairs.result.0 in
    rw (
      ← c.in_ok-total.ensures,
      ← c.in_ok-deviation.ensures,
      ← c.in_ok-spread.ensures,
      ← c.pairs_after-pairs.ensures,
      ← c.in_ok-spot.ensures,
      c.unwrap_or.ensures,
      c.is_some.ensures,
      kept.0,
      kept.1,
    )
