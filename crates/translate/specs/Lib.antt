-- What the contracts of this crate say: the LTS2PBES tables, the cells that stand for them, and the equation file.
pub mod Whole
pub mod Tables
pub mod Cells
pub mod Unfolding
pub mod Bytes
pub mod Translating
pub mod internal
pub mod examples
