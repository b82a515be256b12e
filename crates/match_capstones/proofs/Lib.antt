mod Floats
mod Exact
pub mod Before
mod Fifth
mod All
mod Arrays
mod Next
mod Passed
pub mod Apart
mod Count
mod Swap
mod Rising
pub mod Meaning
pub mod Pairs
pub mod Refusals
pub mod Determined
pub mod Examples
