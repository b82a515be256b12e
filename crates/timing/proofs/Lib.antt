pub mod Counting
pub mod Versions
pub mod IdealLine
pub mod Measures
