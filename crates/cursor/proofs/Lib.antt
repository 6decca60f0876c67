pub mod Bounds
pub mod Walking
pub mod Hints
