-- Laws of the crate's definitions.
pub mod Lists
pub mod Members
pub mod Order
pub mod FixedPoint
pub mod Turns
pub mod Words
pub mod Ones
pub mod Valuation
pub mod Masks
pub mod Ranges
pub mod Refusals
