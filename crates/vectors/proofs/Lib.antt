pub mod Digits
pub mod Summing
pub mod Drawing
pub mod Signs
pub mod Expecting
