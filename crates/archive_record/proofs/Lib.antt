pub mod RecordFacts
pub mod RowFacts
pub mod HeadFacts
pub mod FieldFacts
pub mod Rows
pub mod Shrinking
pub mod Words
