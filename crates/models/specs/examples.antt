-- Worked values, computed by the checker.
pub mod Edits
