pub mod Case
pub mod Geometry
pub mod Pictures
pub mod Marks
pub mod Grids
pub mod Table
