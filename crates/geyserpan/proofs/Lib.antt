pub mod Values
pub mod Kepts
pub mod ImageHandleValues
pub mod RunHandleValues
pub mod Fronts
pub mod SteppedOn
pub mod EngineSteppedOn
pub mod EngineHandleValues
