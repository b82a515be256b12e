mod Table
pub mod Rule
pub mod Inside
