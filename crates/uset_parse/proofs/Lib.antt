pub mod ReadingLemmas
pub mod NumberInBraces
pub mod EscapedItems
pub mod PatternRead
pub mod DatabasePatterns
pub mod ReadBackLemmas
mod BracketsRead
