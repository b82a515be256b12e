pub mod Picture
pub mod Count
pub mod Chain
pub mod Piece
pub mod Row
pub mod Pairs
pub mod Paint
