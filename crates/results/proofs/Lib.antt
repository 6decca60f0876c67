mod Parts
mod Storing
mod Pushes
mod Ranges
