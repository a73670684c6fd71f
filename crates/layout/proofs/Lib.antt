pub mod Words
pub mod Caps
pub mod Settings
pub mod Bounds
