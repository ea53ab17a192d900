-- What a reader must believe of the theorem about waiting: one flow over time, and what each piece assumes.
pub mod Course
pub mod Window
pub mod Counting
pub mod Waiting
pub mod Promise
