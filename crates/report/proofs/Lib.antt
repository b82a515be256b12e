pub mod Putting
mod Decimals
mod Hexes
mod Signs
mod Last
pub mod DecimalsOnly
pub mod HexesOnly
mod Examples
