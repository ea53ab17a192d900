-- Laws that the proofs of this crate's functions, and those above it, cite.
pub mod PathLaws
pub mod SpreadLaws
pub mod GatherLaws
pub mod Unique
