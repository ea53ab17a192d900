-- Laws about the definitions of specs/, and the theorem about waiting.
-- Case splits, and further laws of the trade's definitions
pub mod Cases
pub mod One
pub mod SumTo
pub mod Ceil
pub mod Worst
pub mod Granted
pub mod Released
-- The theorem about waiting: the window lemma, the counting lemma, the induction on time
pub mod Often
pub mod Acting
pub mod Window
pub mod Counting
pub mod Steady
pub mod Waiting
-- A run under any rule of waiting as an instance of it, and the greedy rule
pub mod Run
pub mod InOrder
pub mod Due
pub mod Kept
pub mod Promise
pub mod Greedy
