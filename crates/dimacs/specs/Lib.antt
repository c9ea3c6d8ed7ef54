pub mod Text
pub mod Scan
pub mod Pieces
pub mod Written
pub mod Statements
pub mod FileRows
pub mod Heading
pub mod Scanning
