-- What a reader must believe, in the order of docs/RULES.md. Each definition stands under a sentence that restates its rule.
-- The numbers that bound it.
pub mod Limits
-- The book, read from its end; the table.
pub mod First
pub mod Bytes
pub mod Layout
pub mod Facts
pub mod Table
-- Codes, in the order they are tested; 9 stands with the response bound, and 10 to 12 behind the slot.
pub mod Answers
pub mod Codes
pub mod Refusals
-- Conflict and interference. The response bound. One slot.
pub mod Conflict
pub mod Interference
pub mod Bound
pub mod Slot
pub mod Area
pub mod SlotCodes
pub mod Run
-- The calls, the proved cases, and lines of our own.
pub mod Exchange
pub mod Kept
pub mod Calls
pub mod Why
pub mod Cases
pub mod Pins
