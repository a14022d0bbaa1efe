-- The laws, a file for each topic.
pub mod Accepting
pub mod Ailing
pub mod Before
pub mod Distinct
pub mod Formed
pub mod HeldAlike
pub mod Orders
pub mod Placed
pub mod Reading
pub mod SameJob
pub mod Scanning
pub mod Sound
pub mod Taking
pub mod TextLines
pub mod Verdicts
pub mod Whole
pub mod Worked
