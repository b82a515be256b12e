pub mod Put
pub mod Values
pub mod Lent
