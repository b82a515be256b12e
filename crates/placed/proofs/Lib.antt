pub mod Under
pub mod Placing
pub mod Cells
