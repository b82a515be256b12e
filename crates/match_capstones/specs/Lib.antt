pub mod Only
pub mod All
pub mod Neighbors
pub mod Scores
pub mod Order
pub mod Arrays
pub mod Answer
pub mod Proper
