pub mod Pack
pub mod Packed
