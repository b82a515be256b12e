pub mod Side
pub mod Group
pub mod Orient
pub mod Turn
pub mod Rotate
