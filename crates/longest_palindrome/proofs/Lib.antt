-- laws of the answers: what a good store's rows and a replay of its letters say of each question
pub mod Best
