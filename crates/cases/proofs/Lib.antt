mod Geometry
mod Pictures
mod Marks
mod Grids
pub mod Document01
