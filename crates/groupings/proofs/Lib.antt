mod Uses
pub mod Few
pub mod Copy
pub mod Front
mod Neighbours
mod Going
pub mod Determined
