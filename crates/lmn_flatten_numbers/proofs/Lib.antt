pub mod NumberSteps
pub mod LevelSteps
pub mod Insertions
pub mod TallySteps
pub mod Tables
pub mod Renamed
pub mod ScopeSteps
