pub mod CornerLists
