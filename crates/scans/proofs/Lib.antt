pub mod Direction
pub mod Steps
pub mod Balance
pub mod Walk
