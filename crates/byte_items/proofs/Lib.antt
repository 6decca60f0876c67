pub mod InWords
mod Packing
