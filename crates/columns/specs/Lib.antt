pub mod Plain
pub mod Kinds
pub mod Variants
pub mod Writing
