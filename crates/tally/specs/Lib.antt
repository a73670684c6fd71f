pub mod Tally
pub mod Listed
