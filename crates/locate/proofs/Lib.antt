pub mod Printing
pub mod Determined
mod Tests
pub mod Refusals
