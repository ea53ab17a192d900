-- Laws that the proofs of this crate's functions, and those above it, cite.
pub mod NumbersLaws
pub mod PastingLaws
pub mod Unique
