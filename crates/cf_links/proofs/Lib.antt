pub mod CallsRings
pub mod CallsSearch
pub mod DirectoriesNames
pub mod DirectoriesPlaces
pub mod PartLaws
pub mod SignalLaws
