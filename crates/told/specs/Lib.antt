pub mod Answer
pub mod Points
