-- Laws that the proofs of this crate's functions, and those above it, cite.
pub mod Padded
pub mod RisesLaws
pub mod LanesLaws
pub mod FiguresLaws
pub mod Unique
