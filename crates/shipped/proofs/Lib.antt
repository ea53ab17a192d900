-- The functions that ship give what the planner's definitions say, and so keep the demands.
pub mod Meets
pub mod Demands
pub mod Known
pub mod Given
