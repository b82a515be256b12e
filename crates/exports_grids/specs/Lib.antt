pub mod Lent
pub mod Tells
