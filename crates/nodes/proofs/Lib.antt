-- Laws that the proofs of this crate's functions, and those above it, cite.
pub mod MaskLaws
pub mod LowestLaws
pub mod GrantsLaws
pub mod Unique
