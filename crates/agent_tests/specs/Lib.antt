pub mod TwoPasses
