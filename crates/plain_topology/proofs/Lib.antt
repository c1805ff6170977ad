pub mod PlaceFacts
pub mod PointFacts
pub mod EntryFacts
pub mod HeadlineFacts
pub mod PairFacts
pub mod OverlapFacts
