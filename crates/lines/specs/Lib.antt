-- What the programs read and print.
pub mod Streams
pub mod Printed
