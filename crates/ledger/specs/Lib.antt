pub mod Listed
pub mod Ranges
pub mod Ledger
pub mod Tests
