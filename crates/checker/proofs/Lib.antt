pub mod Forcing
pub mod Counting
pub mod Stepping
pub mod Rounds
pub mod TextRead
pub mod WrittenRead
