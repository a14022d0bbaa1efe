-- The edge found, with the row of its inner value, serves others too. Assumes nothing.
use Rattle.std.proofs.Common.{arith}
use Rattle.std.proofs.lemmas.Option.{IfSome_then}
use Rattle.probe.specs.Laws.Terms.{row_asked, row_known, row_told}
use Rattle.probe.specs.Inner.Terms.{Termed}
use Rattle.range_ends.specs.declared.known.Bracket.{Bracket}
use Rattle.range_ends.specs.Inner.Known.{Bracketed}
use Rattle.range_ends.specs.Laws.Known.{found_edge, found_known}
use Rattle.range_ends.specs.Laws.Reaching.{probes, share_reach}
use Rattle.range_ends.proofs.ends.edge_noted.Goals as goal
use Rattle.range_ends.proofs.ends.edge_noted.Goals.{After-edge-found}

-- the start, and the way to the inner value of the edge found
module _ (c : After-edge-found) where
  abbrev found : Bracket
  found = c.edge-found.result

  over : Bracketed c.args.lows.now c.args.highs.now c.args.table.now c.args.question.total c.args.question.limits c.args.gap.member c.args.gap.outer c.args.gap.inner found
  over = c.edge-found.ensures.bracketed

  termed : Termed c.args.lows.now c.args.highs.now c.args.table.now c.args.question.total c.args.question.limits c.args.terms
  termed = c.requires.termed

pub inner_row-near-requires : goal.inner_row-near-requires
inner_row-near-requires c =
    let m = (goal.at.inner_row-near-requires c).After-edge-found in
    let way = (over m).search.way in
    let (rows, least) = row_asked (termed m) (probes way _ way.share_small) (share_reach way).least in
    record { probeable = rows; value_bound = least; last_within = IfSome_then _ (over m).inner_row (λ _ known. row_known (termed m) known) }

pub noted-shared-requires : goal.noted-shared-requires
noted-shared-requires c =
    let tabled = c.requires.search.way.tabled in
    rw (termed (goal.at.noted-shared-requires c).After-edge-found).group.ended (tabled.held.room, omega (arith, tabled.held.few, tabled.sound.few))

pub returns : goal.returns
returns c =
    let termed = termed (goal.at.returns c).After-edge-found in
    record {
      edge = found_edge c.edge-found.ensures;
      shared_holds_2 =
          found_known c.edge-found.ensures (row_told termed c.inner_row-near.ensures) c.requires.shared_holds (rw termed.group.ended at c.noted-shared.ensures);
    }
