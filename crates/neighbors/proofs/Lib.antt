pub mod Gathered
pub mod Lent
