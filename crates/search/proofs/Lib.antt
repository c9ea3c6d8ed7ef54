pub mod Scans
pub mod Values
pub mod Marks
pub mod PlainEnds
