mod Colours
pub mod Determined
