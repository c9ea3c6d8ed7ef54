pub mod Clauses
pub mod Plain
pub mod Ends
