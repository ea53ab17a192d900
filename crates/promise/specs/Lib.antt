-- What a reader must believe of the promise: the three demands on any program, when a program meets its contracts, that a table is one
-- book, that the fair count is no worse than the deadline count, that taking a flow out never hurts, why a flow is silent, and which programs are empty.
pub mod Demands
pub mod Promise
pub mod Tables
pub mod Fair
pub mod Removal
pub mod Why
pub mod Empty
