-- What serves the contracts of inner functions, and laws beneath the promises.
pub mod Writing
pub mod Shapes
pub mod Readable
pub mod Tabled
pub mod Parts
pub mod Flags
pub mod Sources
