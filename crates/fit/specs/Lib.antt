pub mod Tests
pub mod Fit
