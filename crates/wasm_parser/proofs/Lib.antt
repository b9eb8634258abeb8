pub mod Order
pub mod Steps
pub mod Counts
pub mod RemaindersOfRuns
pub mod RunsOfRemainders
pub mod Law
pub mod RunFronts
pub mod PieceCounts
