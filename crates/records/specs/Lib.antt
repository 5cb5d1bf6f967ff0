-- What the contracts of this crate say: a case file with another transition table, and places of a table.
pub mod Replaced
pub mod Places
pub mod internal
