-- A search goes on between a value that is not taken and one that is. Assumes nothing.
use Rattle.std.specs.Prelude.{ℕ, ◌≤◌, ◌<◌, Bool, true, false, List, ◌≢◌, ◌≡◌, get_or}
use Rattle.std.proofs.Common.{sym, ap, ◌∙◌, arith}
use Rattle.std.proofs.Math.Decide.{dec_lt}
use Rattle.model.specs.Shares.{greatest_share}
use Rattle.model.specs.Plans.{taken}
use Rattle.model.proofs.Laws.Tests.{clash}
use Rattle.model.specs.declared.Limits.{Limits}
use Rattle.probe.specs.Inner.Probes.{MadeUp}
use Rattle.probe.specs.declared.terms.Terms.{Terms}
use Rattle.probe.specs.Inner.Terms.{Termed}
use Rattle.probe.specs.Inner.Verdicts.{Triable}
use Rattle.probe.specs.Laws.Reaching.{reach_between}
use Rattle.range_ends.specs.Inner.Edges.{Amid, Search}
use Rattle.range_ends.specs.Laws.Reaching.{share_reach, triable}

module _ {lows highs table : List ℕ} {total : ℕ} {limits : Limits} {i outer inner v : ℕ} (search : Search lows highs table total limits i outer inner)
    (amid : Amid outer inner v) (small : v ≤ greatest_share) where
  abbrev test : ℕ → Bool
  test = taken lows highs total limits i

  differ : outer ≢ inner
  differ same = clash search.way.passes (ap test (sym same) ∙ search.fails)

  -- what lies between them is in reach, since both are
  between_reach : MadeUp lows highs table total i v
  between_reach =
      elim (dec_lt outer inner) [
        | yes less ↦ let (after, before) = amid.rising less in reach_between search.reach (share_reach search.way) v (omega arith) (omega arith)
        | no more ↦
            let less : inner < outer = omega (arith, differ) in
            let (after, before) = amid.falling less in
            reach_between (share_reach search.way) search.reach v (omega arith) (omega arith)
      ]

  -- so it can be tried
  pub search_triable : {terms : Terms} → Termed lows highs table total limits terms → Triable lows highs table total limits terms (get_or lows i 0) (get_or highs i 0) v
  search_triable termed = triable search.way _ small termed between_reach

  -- and takes inner's place where it is taken
  pub search_in : test v ≡ true → Search lows highs table total limits i outer v
  search_in passes = record {
    way = record { tabled = search.way.tabled; here = search.way.here; small = search.way.small; share_small = small; passes = passes };
    fails = search.fails;
    reach = search.reach;
  }

  -- and outer's where it is not
  pub search_out : test v ≡ false → Search lows highs table total limits i v inner
  search_out fails = record {
    way = record { tabled = search.way.tabled; here = search.way.here; small = small; share_small = search.way.share_small; passes = search.way.passes };
    fails = fails;
    reach = between_reach;
  }
