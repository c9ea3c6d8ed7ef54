pub mod ThereAndBack
pub mod Writing
pub mod FileRows
pub mod Headings
pub mod Laying
pub mod Scans
pub mod Standing
