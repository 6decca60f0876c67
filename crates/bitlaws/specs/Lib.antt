pub mod Bits
pub mod Forms
pub mod Laws
