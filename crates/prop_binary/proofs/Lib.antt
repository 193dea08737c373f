pub mod TableLemmas
pub mod PositionLemmas
pub mod Ecma262Lemmas
