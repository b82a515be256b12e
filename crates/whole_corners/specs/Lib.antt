pub mod Formulas
pub mod Frame
pub mod Outcome
pub mod Taken
