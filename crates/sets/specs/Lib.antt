-- What the contracts of this crate say: sets of states, the words that hold them, iteration to a fixed point; and what every call answers.
pub mod Lists
pub mod States
pub mod Words
pub mod Loop
pub mod Refusals
pub mod computed
pub mod internal
pub mod examples
