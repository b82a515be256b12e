pub mod Order
pub mod Stack
pub mod Stretch
pub mod Fill
pub mod Fold
