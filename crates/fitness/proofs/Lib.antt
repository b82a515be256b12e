pub mod Totals
pub mod Shapes
pub mod White
pub mod Order
