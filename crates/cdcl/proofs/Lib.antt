pub mod Heaps
pub mod Trails
pub mod Loops
pub mod Walks
pub mod Decisions
pub mod Loads
