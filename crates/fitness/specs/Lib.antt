pub mod Expected
pub mod Total
pub mod Fitness
