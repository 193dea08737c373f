pub mod Values
pub mod Numbered
pub mod Variables
pub mod Insertions
