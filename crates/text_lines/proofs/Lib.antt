pub mod RunsLemmas
pub mod LinesLemmas
pub mod CutLemmas
pub mod LinesInOrder
