pub mod MapBuilderLemmas
pub mod RowLemmas
pub mod NameLemmas
pub mod TestsLemmas
pub mod AboveLemmas
pub mod SpelledLemmas
pub mod EmojiLemmas
pub mod ScriptLemmas
pub mod CountLemmas
pub mod LoadingLemmas
pub mod DatabaseLemmas
pub mod Reading
mod Examples
pub mod SyntaxSets
pub mod BoundedSets
pub mod FindLemmas
