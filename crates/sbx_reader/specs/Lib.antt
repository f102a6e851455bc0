pub mod Fronts
pub mod Stages
