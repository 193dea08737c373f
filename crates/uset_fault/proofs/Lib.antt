pub mod ShownBytes
pub mod WordsBytes
