pub mod Accepted
pub mod Kept
pub mod Next
pub mod Demand
pub mod Beside
