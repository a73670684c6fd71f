pub mod Edges
pub mod Nodes
pub mod Kept
