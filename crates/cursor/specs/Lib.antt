pub mod Hint
pub mod Moves
pub mod Walks
