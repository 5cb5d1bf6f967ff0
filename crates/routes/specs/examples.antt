-- Worked values, computed by the checker.
pub mod Paper
pub mod Further
pub mod Together
pub mod Prices
