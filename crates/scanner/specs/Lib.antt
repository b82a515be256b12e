pub mod Edges
pub mod Cuts
pub mod Scan
pub mod Machine
pub mod Line
pub mod Lines
