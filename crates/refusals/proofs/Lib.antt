pub mod Distinct
pub mod First
