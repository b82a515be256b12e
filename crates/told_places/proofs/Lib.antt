pub mod Places
pub mod Made
