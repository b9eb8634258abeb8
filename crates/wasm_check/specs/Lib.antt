pub mod FeatureWords
pub mod Statuses
pub mod ExitStatuses
pub mod FoundFiles
pub mod CountedFiles
pub mod PrintedReports
