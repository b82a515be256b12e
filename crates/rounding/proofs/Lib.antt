mod Evened
mod Cases
pub mod Only
