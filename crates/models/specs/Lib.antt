-- What the contracts of this crate say: a model that is edited, what each call answers and leaves, and what a history of calls says.
pub mod Model
pub mod History
pub mod examples
pub mod internal
