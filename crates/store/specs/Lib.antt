pub mod Layout
pub mod Answers
pub mod Laws
pub mod Worked
