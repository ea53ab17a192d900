-- Laws that the proofs of this crate's functions, and those above it, cite.
pub mod RecutLaws
pub mod EnteringLaws
pub mod LeavingLaws
pub mod Unique
