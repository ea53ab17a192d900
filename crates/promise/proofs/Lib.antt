-- The demands are kept by every program that meets its contracts.
pub mod Meets
-- Demand 1
pub mod Refusals
-- Demand 2
pub mod Sound
pub mod Accepted
pub mod Admits
pub mod Exact
-- Demand 3
pub mod Grants
pub mod Slots
pub mod Promise
-- One table, one book; the fair count; a flow taken out; why a flow is silent; the empty programs
pub mod Tables
pub mod Fair
pub mod Removal
pub mod Asked
pub mod Why
pub mod Empty
