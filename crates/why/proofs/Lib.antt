-- Laws that the proofs of this crate's functions, and those above it, cite.
pub mod WhyLaws
pub mod AskLaws
pub mod Unique
