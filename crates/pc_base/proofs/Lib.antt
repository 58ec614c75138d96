pub mod DistinctLemmas
pub mod LineCuts
pub mod WidthLemmas
pub mod GrownLemmas
