pub mod RangesLemmas
pub mod PaintingLemmas
pub mod LayersLemmas
pub mod GatheredLemmas
