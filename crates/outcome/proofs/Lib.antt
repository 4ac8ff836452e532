-- laws of the outcomes: the reply of each answer, when a call is refused, and how a promise is kept
pub mod Replies
pub mod Refusals
pub mod Promises
pub mod Packing
pub mod Wide
pub mod Fits
pub mod Told
pub mod LongestLength
pub mod Occurrences
-- one law for every question
pub mod Questions
