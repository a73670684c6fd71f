pub mod Moving
pub mod Frames
pub mod Mixes
pub mod Adds
pub mod Marked
pub mod Facts
pub mod Heard
