pub mod Logic
pub mod Arena
pub mod Statements
pub mod Examples
