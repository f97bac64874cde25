pub mod FieldFacts
pub mod ItemFacts
pub mod ItemLoops
pub mod MessageFacts
pub mod Shrinking
