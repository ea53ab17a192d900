-- Laws that the proofs of this crate's functions, and those above it, cite.
pub mod Places
pub mod WriterLaws
pub mod TurnLaws
pub mod ChoiceLaws
pub mod GrantingLaws
pub mod Unique
