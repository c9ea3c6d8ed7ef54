pub mod Refusals
pub mod Requests
