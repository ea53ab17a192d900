-- Laws that the proofs of this crate's functions, and those above it, cite.
pub mod StepsLaws
pub mod SingleLaws
pub mod Callee
pub mod Unique
