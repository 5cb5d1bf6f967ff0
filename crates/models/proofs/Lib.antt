-- Laws of the crate's definitions, and its promises.
pub mod ModelLaws
pub mod Sets
pub mod Histories
pub mod Promises
