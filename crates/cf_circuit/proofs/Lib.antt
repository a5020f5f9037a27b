pub mod PlaneLaws
pub mod WireLaws
pub mod NeedLaws
pub mod TruthLaws
pub mod TruthCases
pub mod MatchLaws
pub mod CoverLaws
pub mod BuildLaws
