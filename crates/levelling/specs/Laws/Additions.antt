-- Laws of the count of additions, and of a level that is known. Assumes nothing.
use Rattle.std.specs.Prelude.{ℕ, zero, suc, ◌+◌, ◌*◌, ◌^◌, ◌≤◌, ◌<◌, List, ◌≡◌}
use Rattle.std.proofs.Common.{arith}
use Rattle.model.specs.Shares.{greatest_share}
use Rattle.model.specs.Levels.{total_at, level, remainder}
use Rattle.model.specs.Sound.{HasShares}
use Rattle.model.proofs.Laws.Headroom.{roomier_all}
use Rattle.model.proofs.Laws.Level.{level_share}
use Rattle.model.proofs.Laws.Levelled.{remainder_fits}
use Rattle.model.proofs.Laws.Sound.{level_within}
use Rattle.levelling.specs.Additions.{most_additions, ByHalving, KnownLevel}
use Rattle.headroom.specs.Inner.Takers.{HasTakers}

-- where nothing more is added up, any number of levels allows it
pub halved_none : (levels count : ℕ) → ByHalving levels count count
halved_none levels count k few = omega arith

-- an addition that leaves no more than half of several levels, rounded up, is one of their halvings
pub halved_once : (levels left before once after : ℕ) → 1 < levels → left + left ≤ suc levels → once ≡ suc before
    → ByHalving left once after → ByHalving levels before after
halved_once levels left before once after many half counted rest zero few = absurd (omega arith)
halved_once levels left before once after many half counted rest (suc k) few = omega (arith, rest k (omega arith))

-- the halvings of at most 2^21 levels, and one addition for the copies left over, are at most 22
pub most_additions_lem : (levels before found all : ℕ) → levels ≤ 2 ^ 21 → ByHalving levels before found → all ≡ suc found → all ≤ before + most_additions
most_additions_lem levels before found all few halved one = omega (arith, halved 21 few)

-- so few are the levels from 0 to 1,000,000
pub few_levels : suc greatest_share ≤ 2 ^ 21
few_levels = omega arith

-- and those of item 7 of 02, from −1,000,000 on
pub few_signed_levels : suc (2 * greatest_share) ≤ 2 ^ 21
few_signed_levels = omega arith

-- the level with its remainder is known
pub level_known : {lows highs : List ℕ} {total : ℕ} → HasShares lows highs total → (v left : ℕ)
    → v ≡ level lows highs total → left ≡ remainder lows highs total → KnownLevel lows highs v left
unfolding remainder
level_known {lows} {highs} {total} shared v left is_level is_remainder =
    let whole : total_at lows highs v + left ≡ total = rw (is_remainder, is_level) (omega (arith, level_within shared)) in
    rw whole is_level

-- and as many members can take a copy as are left over
pub has_takers : {lows highs : List ℕ} {total : ℕ} → HasShares lows highs total → (v left : ℕ)
    → v ≡ level lows highs total → left ≡ remainder lows highs total → HasTakers lows highs v left
has_takers {lows} {highs} {total} shared v left is_level is_remainder =
    rw (is_level, is_remainder)
    (record {
      sound = shared.sound;
      share = level_share lows highs total;
      enough = omega (arith, remainder_fits shared.sound.ranges total shared.low shared.high, roomier_all shared.sound.ranges (level lows highs total));
    })
