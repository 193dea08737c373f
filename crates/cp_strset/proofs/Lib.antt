pub mod SoleChar
pub mod Canonical
pub mod OneList
pub mod Clones
pub mod Written
pub mod Equality
pub mod Printable
pub mod StringsLemmas
