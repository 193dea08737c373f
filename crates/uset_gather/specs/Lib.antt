pub mod Painting
pub mod Gathered
