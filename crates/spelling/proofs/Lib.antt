-- laws of spelling: what a good store's rows spell
pub mod Spellings
