pub mod ConversionLemmas
pub mod CoverLemmas
pub mod MappedLemmas
pub mod PagesLemmas
pub mod RowsLemmas
pub mod RunsLemmas
pub mod SearchLemmas
pub mod SetLemmas
