pub mod Form
pub mod Machine
pub mod Reads
pub mod Told
