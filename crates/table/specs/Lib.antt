pub mod Age
pub mod Table
pub mod Sound
