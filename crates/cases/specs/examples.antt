-- Worked values, computed by the checker.
pub mod Cases
pub mod Reach
pub mod Together
