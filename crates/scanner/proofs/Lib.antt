mod RunEnds
pub mod Ahead
pub mod Alike
pub mod Dark
pub mod NextLine
mod Follows
pub mod Machine
pub mod Painted
