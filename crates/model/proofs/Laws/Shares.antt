-- The constructor of a share finds a number valid exactly if it is one. Assumes nothing.
use Rattle.std.specs.Prelude.{ℕ, ◌≤◌, Bool, true, false, ◌≡◌, refl, leb, Option, Some, None, is_some}
use Rattle.std.proofs.Common.{le-leb}
use Rattle.model.specs.Shares.{pick, greatest_share, checked}
use Rattle.model.specs.declared.Share.{Share}

-- a share is found valid
pub share_valid : (v : ℕ) (answer : Option Share) → v ≤ greatest_share → answer ≡ checked v → answer ≡ Some (record { copies = v })
share_valid v answer small is_checked = rw (is_checked, le-leb _ _ small)

-- something is found exactly where a number is a share
pub found_is_share : (v : ℕ) {answer : Option Share} → answer ≡ checked v → is_some answer ≡ leb v greatest_share
found_is_share v is_checked = rw is_checked (by_test (leb v greatest_share) (record { copies = v }))
  where
    by_test : (test : Bool) (share : Share) → is_some (pick test (Some share) None) ≡ test
    by_test true share = refl
    by_test false share = refl

-- a number found valid is a share
pub valid_is_share : (v : ℕ) {answer : Option Share} {share : Share} → answer ≡ checked v → answer ≡ Some share → leb v greatest_share ≡ true
valid_is_share v is_checked valid = rw (← found_is_share v is_checked, valid) refl

-- a number found beyond is none
pub beyond_no_share : (v : ℕ) {answer : Option Share} → answer ≡ checked v → answer ≡ None → leb v greatest_share ≡ false
beyond_no_share v is_checked beyond = rw (← found_is_share v is_checked, beyond) refl

-- a share found has so many copies
pub share_copies : (v : ℕ) {answer : Option Share} {share : Share} → answer ≡ checked v → answer ≡ Some share → share.copies ≡ v
share_copies v {answer} {share} is_checked found = by_test (leb v greatest_share) (rw (← is_checked) found)
  where
    by_test : (test : Bool) → pick test (Some (record { copies = v })) None ≡ Some share → share.copies ≡ v
    by_test true e = let same : share ≡ record { copies = v } = cc in rw same
    by_test false e = cc
