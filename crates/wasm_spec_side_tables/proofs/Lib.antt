pub mod CountedLists
pub mod Lists
pub mod ClosedBlocks
pub mod LabelLinks
pub mod Entries
pub mod EntryPlaces
