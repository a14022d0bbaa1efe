-- The search keeps a value that no plan gives outside and one that some plan gives inside, and comes nearer. Assumes nothing.
use Rattle.std.proofs.Common.{arith, Bool, sym, ◌∙◌, ℕ, ◌≤◌, ◌<◌}
use Rattle.model.specs.Shares.{greatest_share}
use Rattle.model.specs.Figures.{apart}
use Rattle.model.specs.Plans.{taken}
use Rattle.range_ends.specs.Laws.Edges.{straddle_start, straddle_in, straddle_out, amid_nearer}
use Rattle.range_ends.specs.Laws.Reaching.{told}
use Rattle.range_ends.specs.Laws.Searches.{search_triable, search_in, search_out}
use Rattle.range_ends.proofs.ends.edge.Goals as goal
use Rattle.range_ends.proofs.ends.edge.Goals.{After-next_value-value}

pub loop-question-init : goal.loop-question-init
loop-question-init c =
    let p = c.requires.search in
    record { straddle = straddle_start _ _ _ p.fails p.way.passes; search = p; outer_row = c.requires.row_of; inner_row = tt }

-- the value tried
module _ (c : After-next_value-value) where
  abbrev test : ℕ → Bool
  test = taken c.args.lows.now c.args.highs.now c.args.question.total c.args.question.limits c.args.gap.member

  abbrev value : ℕ
  value = c.next_value-value.result

  abbrev outer : ℕ
  outer = c.loop-question.found.outer

  abbrev inner : ℕ
  inner = c.loop-question.found.inner

  nearer : (apart outer value < apart outer inner)
      × (apart value inner < apart outer inner)
      × (value ≤ greatest_share)
  nearer =
      let way = c.loop-question.invariant.search.way in
      amid_nearer (omega arith) way.small way.share_small c.next_value-value.ensures

pub try_share-tried-requires : goal.try_share-tried-requires
try_share-tried-requires c = search_triable c.loop-question.invariant.search c.next_value-value.ensures (nearer c).2 c.requires.termed

pub loop-question-smaller-then-tried : goal.loop-question-smaller-then-tried
loop-question-smaller-then-tried c = (nearer (goal.at.loop-question-smaller-then-tried c).After-next_value-value).0

pub loop-question-preserved-then-tried : goal.loop-question-preserved-then-tried
loop-question-preserved-then-tried c =
    let m = (goal.at.loop-question-preserved-then-tried c).After-next_value-value in
    let inv = c.loop-question.invariant in
    let tried = c.try_share-tried.ensures in
    let passes = sym (told inv.search.way _ (nearer m).2 tried.decides) ∙ c.if-tried.true in
    record {
      straddle = straddle_in (test m) _ _ _ _ _ inv.straddle c.next_value-value.ensures passes;
      search = search_in inv.search c.next_value-value.ensures (nearer m).2 passes;
      outer_row = inv.outer_row;
      inner_row = rw c.requires.termed.group.ended at tried.last_within;
    }

pub loop-question-smaller : goal.loop-question-smaller
loop-question-smaller c = (nearer (goal.at.loop-question-smaller c).After-next_value-value).1

pub loop-question-preserved : goal.loop-question-preserved
loop-question-preserved c =
    let m = (goal.at.loop-question-preserved c).After-next_value-value in
    let inv = c.loop-question.invariant in
    let tried = c.try_share-tried.ensures in
    let fails = sym (told inv.search.way _ (nearer m).2 tried.decides) ∙ c.if-tried.false in
    record {
      straddle = straddle_out (test m) _ _ _ _ _ inv.straddle c.next_value-value.ensures fails;
      search = search_out inv.search c.next_value-value.ensures (nearer m).2 fails;
      outer_row = rw c.requires.termed.group.ended at tried.last_within;
      inner_row = inv.inner_row;
    }

pub returns : goal.returns
returns c = record { bracketed = c.loop-question.invariant; near = omega arith }
