-- The end moved into reach is tried first, and then the way to it is searched. Assumes nothing.
use Rattle.std.proofs.Common.{arith, sym, ◌∙◌}
use Rattle.range_ends.specs.Laws.Edges.{nearest_reach, nearest_edge}
use Rattle.range_ends.specs.Laws.Known.{trial_known}
use Rattle.probe.specs.Laws.Terms.{reach_asked, reach_told}
use Rattle.range_ends.specs.Laws.Reaching.{MovedIntoReach, probes, room, moved, triable, told}
use Rattle.range_ends.proofs.ends.search.Goals as goal
use Rattle.range_ends.proofs.ends.search.Goals.{After-into_reach-value}

pub into_reach-value-requires : goal.into_reach-value-requires
into_reach-value-requires c =
    let way = c.requires.approach in
    let (rows, (few, least)) = reach_asked c.requires.termed (probes way _ way.small) way.tabled.sound.small (room way) in
    record { probeable = rows; total_le_greatest_total = few; v_bound = least }

-- what the move gives
there : (c : After-into_reach-value) → MovedIntoReach c.requires.approach c.into_reach-value.result
there c = moved c.requires.approach (reach_told c.requires.termed c.into_reach-value.ensures)

pub try_share-tried-requires : goal.try_share-tried-requires
try_share-tried-requires c = triable c.requires.approach _ (there c).small c.requires.termed (there c).in_reach

pub noted-shared-requires : goal.noted-shared-requires
noted-shared-requires c =
    let tabled = c.requires.approach.tabled in
    rw c.requires.termed.group.ended (tabled.held.room, omega (arith, tabled.held.few, tabled.sound.few))

pub returns-then-tried : goal.returns-then-tried
returns-then-tried c =
    let way = c.requires.approach in
    let at = there (goal.at.returns-then-tried c).After-into_reach-value in
    let ended = c.requires.termed.group.ended in
    let passes = sym (told way _ at.small c.try_share-tried.ensures.decides) ∙ c.if-tried.true in
    record {
      reaches = nearest_reach at.nearest passes;
      known = trial_known way.tabled way.here c.requires.shared_holds at.small passes (rw ended at c.try_share-tried.ensures.last_within) (rw ended at c.noted-shared.ensures);
    }

-- the value in reach is not taken: the way from the share to it is searched
pub edge_noted-requires : goal.edge_noted-requires
edge_noted-requires c =
    let way = c.requires.approach in
    let at = there (goal.at.edge_noted-requires c).After-into_reach-value in
    record {
      search = record {
        way = record { tabled = way.tabled; here = way.here; small = at.small; share_small = way.share_small; passes = way.passes };
        fails = sym (told way _ at.small c.try_share-tried.ensures.decides) ∙ c.if-tried.false;
        reach = at.in_reach;
      };
      row_of = rw c.requires.termed.group.ended at c.try_share-tried.ensures.last_within;
      termed = c.requires.termed;
      shared_holds = c.requires.shared_holds;
    }

pub returns : goal.returns
returns c =
    let way = c.requires.approach in
    let at = there (goal.at.returns c).After-into_reach-value in
    record {
      reaches = nearest_edge at.nearest (sym (told way _ at.small c.try_share-tried.ensures.decides) ∙ c.if-tried.false) way.passes c.edge_noted.ensures.edge;
      known = c.edge_noted.ensures.shared_holds_2;
    }
