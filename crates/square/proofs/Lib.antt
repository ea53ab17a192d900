-- Laws that the proofs of this crate's functions, and those above it, cite.
pub mod KeptLaws
pub mod CarriedLaws
pub mod Unique
