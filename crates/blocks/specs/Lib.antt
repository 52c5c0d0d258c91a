pub mod Ledger
-- What the functions promise
pub mod Opening
pub mod Block
-- What a run of calls prints
pub mod Run
