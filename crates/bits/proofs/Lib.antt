pub mod Reading
pub mod Growing
pub mod Halves
pub mod Selecting
