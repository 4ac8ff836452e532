pub mod Reply
pub mod Wide
pub mod Answers
pub mod Outcome
pub mod Promise
pub mod Verdict
