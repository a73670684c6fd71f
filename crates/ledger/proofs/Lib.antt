pub mod Zeros
pub mod Counts
pub mod Ledgers
pub mod Relied
pub mod Orders
