-- What the functions' proofs lean on
pub mod Left
pub mod Printing
pub mod Searching
-- Lines, of which some are whole and some too long
pub mod Lines
pub mod Long
-- Calls
pub mod Call
pub mod Texts
pub mod Runs
-- The head
pub mod Fields
pub mod Searches
pub mod Windows
pub mod Heads
