pub mod StringSet
pub mod StringList
pub mod OrderLaws
pub mod PatternText
pub mod Laws
