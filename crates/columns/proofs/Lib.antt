pub mod Lists
pub mod Appends
pub mod Within
pub mod Picked
pub mod Slices
pub mod Marked
pub mod Formed
pub mod Puts
