pub mod Accepted
pub mod Determined
pub mod Rule
