pub mod Passing
pub mod Kept
pub mod Determined
pub mod Front
