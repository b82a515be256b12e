pub mod Scan
pub mod Points
pub mod Walk
