-- With a plan both lists are narrowed. Assumes nothing.
use Rattle.std.proofs.Common.{arith, Bool, refl, sym, ◌∙◌}
use Rattle.std.proofs.lemmas.Bool.{not-true, not-false}
use Rattle.probe.specs.Laws.Reaching.{shares_lookable}
use Rattle.probe.specs.Laws.Terms.{level_reached, level_planned, pairs_limited}
use Rattle.range_ends.specs.Inner.Members.{Narrowable}
use Rattle.narrow.proofs.ranges.narrow_on.Goals as goal
use Rattle.narrow.proofs.ranges.narrow_on.Goals.{Else-not-levelled}

pub terms_of-terms-requires : goal.terms_of-terms-requires
terms_of-terms-requires c =
    let tabled = c.requires.tabled in
    record { sound_with_total = tabled.sound; in_bounds = omega (arith, tabled.held.room) }

pub level_on-levelled-requires : goal.level_on-levelled-requires
level_on-levelled-requires c =
    let tabled = c.requires.tabled in
    let shares = c.requires.has_shares in
    let terms = c.terms_of-terms.ensures in
    shares_lookable tabled.sound tabled.held shares.low shares.high terms (λ less. tabled.paired (pairs_limited terms.allowed.pairs less))

pub returns-then-not-levelled : goal.returns-then-not-levelled
returns-then-not-levelled c =
    record {
      value = sym (not-true _ c.if-not-levelled.true) ∙ level_planned c.terms_of-terms.ensures c.level_on-levelled.ensures;
      starts_after = refl;
      stops_after = refl;
    }

-- the group has a plan
asked : (c : Else-not-levelled) (up : Bool) → Narrowable c.args.lows.now c.args.highs.now c.args.table.now c.args.question
    (record { terms = c.terms_of-terms.result; levelled = c.level_on-levelled.result; up = up })
asked c up =
    let termed = c.terms_of-terms.ensures in
    record {
      has = record {
        sound = c.requires.has_shares.sound;
        found = sym (level_planned termed c.level_on-levelled.ensures) ∙ not-false _ c.if-not-levelled.false;
      };
      tabled = c.requires.tabled;
      termed = termed;
      mark = _;
      moving = _;
      reached = level_reached termed c.level_on-levelled.ensures;
    }

pub narrow_ends-requires : goal.narrow_ends-requires
narrow_ends-requires c = record { narrowable = asked (goal.at.narrow_ends-requires c).Else-not-levelled _; ends_len = c.requires.starts_len }

pub narrow_ends-requires-2 : goal.narrow_ends-requires-2
narrow_ends-requires-2 c = record { narrowable = asked (goal.at.narrow_ends-requires-2 c).Else-not-levelled _; ends_len = c.requires.stops_len }

pub returns : goal.returns
returns c =
    record {
      value = sym (not-false _ c.if-not-levelled.false) ∙ level_planned c.terms_of-terms.ensures c.level_on-levelled.ensures;
      starts_after = c.narrow_ends.ensures;
      stops_after = c.narrow_ends-2.ensures;
    }
