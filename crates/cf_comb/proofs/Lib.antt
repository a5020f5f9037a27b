pub mod TallyLaws
pub mod BitLaws
pub mod ExitSumLaws
pub mod WeightLaws
pub mod Entered
pub mod Weighing
pub mod MergeLaws
pub mod GatherLaws
