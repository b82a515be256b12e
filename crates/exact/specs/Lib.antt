pub mod Signed
pub mod Formula
