pub mod Accepted
pub mod Unique
pub mod Twice
pub mod Asks
pub mod Numbering
