-- Laws that the proofs of this crate's functions, and those above it, cite.
pub mod RefusalsLaws
pub mod DueLaws
pub mod Unique
