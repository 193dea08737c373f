pub mod AnswerLemmas
pub mod Linked
pub mod Padding
pub mod DeviceLemmas
pub mod CountLemmas
pub mod Listing
pub mod TextLines
pub mod Once
pub mod GeneratedPatterns
pub mod Existence
pub mod RunLemmas
mod WordsLemmas
pub mod GeneratedLemmas
pub mod Complete
mod LeftLemmas
pub mod BindingLemmas
pub mod LineLemmas
pub mod CharacterLemmas
pub mod ErrLines
mod Examples
