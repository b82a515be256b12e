pub mod Create
pub mod Map
pub mod Unmap
