pub mod Told
pub mod Ready
pub mod Staged
pub mod Accepted
pub mod Determined
