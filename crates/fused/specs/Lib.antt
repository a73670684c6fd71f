pub mod Fused
pub mod Steps
pub mod Words
