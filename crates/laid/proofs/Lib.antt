pub mod Standing
pub mod Same
