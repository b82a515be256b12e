pub mod Trial
pub mod Used
pub mod Groups
pub mod Held
