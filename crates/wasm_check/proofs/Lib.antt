pub mod WorstStatuses
mod TypeListRoom
pub mod FilesByName
mod NamesFound
mod PrintedReports
