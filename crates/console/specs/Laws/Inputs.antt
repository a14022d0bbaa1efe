-- The bytes read lie within the list. Assumes nothing.
use Rattle.std.specs.Prelude.{ℕ, Option, Some, ◌≤◌, ◌≡◌}
use Rattle.console.specs.Inner.Inputs.{bytes_read}

-- as many bytes as are read
pub within_read : {input : Option ℕ} {count most : ℕ} → input ≡ Some count → bytes_read input ≤ most → count ≤ most
within_read is fits = rw is at fits
