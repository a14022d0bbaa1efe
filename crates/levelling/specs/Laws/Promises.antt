-- Levelling one group keeps what it promises of the plan list after the call. Assumes nothing.
use Rattle.std.specs.Prelude.{ℕ, List, ◌++◌, ◌≡◌, length, drop, Ok, Err}
use Rattle.std.proofs.Math.Seq.{take_at}
use Rattle.std.proofs.Common.{drop_at}
use Rattle.model.specs.Levels.{remainder, levelled}
use Rattle.model.proofs.Laws.HeadroomFirst.{levelled_first}
use Rattle.model.proofs.Laws.Level.{total_at_least, level_share, level_holds, level_greatest}
use Rattle.model.proofs.Laws.Levelled.{shares_exist, levelled_way, levelled_within, levelled_adds}
use Rattle.model.proofs.Laws.Shut.{marked_least_deviation, marked_least_spread, marked_least_pairs, marked_least_above}
use Rattle.model.specs.declared.Figures.{Figures}
use Rattle.model.specs.declared.Refusal.{Refusal}
use Rattle.model.specs.declared.Share.{Share}
use Rattle.levelling.specs.Levelling.{levelling}
use Rattle.model.proofs.Laws.Sound.{levelled_length}
use Rattle.list_checks.proofs.Laws.Findings.{passed_sound, passed_marked}
use Rattle.levelling.specs.Answers.{LevelFinding}
use Rattle.levelling.specs.Laws.Answers.{level_exactly}
use Rattle.levelling.specs.Promises.{LevelPromise, plan_left}

module _ (lows highs marks : List ℕ) (total : ℕ) (plan : List ℕ) where
  -- where shares exist, the levelled ones are least
  levelled_kept : {v : Share} {figures : Figures} → LevelFinding lows highs marks total (length plan) (Ok (record { level = v; figures = figures }))
      → LevelPromise lows highs marks total v.copies figures plan
      (levelled lows highs total ++ drop (length (levelled lows highs total)) plan)
  unfolding remainder
  levelled_kept (LevelFinding.answered clear some) =
      let sound = (passed_sound clear).0 in
      let marked = passed_marked clear in
      let ranges = sound.ranges in
      let between = (shares_exist ranges total).0 some in
      let many = levelled_length sound total in
      let first = take_at (levelled lows highs total) (drop (length (levelled lows highs total)) plan) (length lows) many in
      record {
        least = rw first
            (record {
              within = levelled_within ranges total;
              adds = levelled_adds ranges total between.0 between.1;
              least_deviation = λ xs. marked_least_deviation marked ranges total;
              least_spread = λ xs. marked_least_spread marked ranges total;
              least_pairs = λ xs. marked_least_pairs marked ranges total;
              least_above = λ xs. marked_least_above marked ranges total;
            });
        past = rw (drop_at (levelled lows highs total) (drop (length (levelled lows highs total)) plan) (length lows) many, many);
        level = record {
          share = level_share lows highs total;
          fits = level_holds lows highs total (rw (total_at_least ranges) between.0);
          greatest = level_greatest lows highs total;
        };
        figures = rw first;
        handed = rw first (levelled_way ranges total between.0 between.1);
        headroom = rw first (levelled_first lows highs total);
      }

  -- 01, demand 2, for levelling
  pub level_promised : {v : Share} {figures : Figures} → levelling lows highs marks total (length plan) ≡ Ok (record { level = v; figures = figures })
      → LevelPromise lows highs marks total v.copies figures plan (plan_left lows highs marks total plan)
  level_promised is = rw is (levelled_kept ((level_exactly lows highs marks total (length plan) _).0 is))

  -- refused, it leaves the plan list as it was
  pub level_unchanged : {refused : Refusal} → levelling lows highs marks total (length plan) ≡ Err refused → plan_left lows highs marks total plan ≡ plan
  level_unchanged is = rw is
