pub mod Layouts
pub mod Passing
pub mod Passed
