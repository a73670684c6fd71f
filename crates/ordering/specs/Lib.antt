pub mod Walk
pub mod View
pub mod Order
pub mod Promise
pub mod Marked
pub mod Listing
pub mod State
pub mod Shown
