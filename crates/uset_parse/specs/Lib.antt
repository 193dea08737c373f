pub mod Reading
pub mod Front
pub mod ReadBack
pub mod Brackets
pub mod Denotation
