pub mod Found
pub mod Tests
pub mod Lookup
pub mod Numbers
