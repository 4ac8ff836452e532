pub mod Claim
pub mod Pages
pub mod MinimalUnique
pub mod Uncertain
pub mod Pieces
pub mod Sheets
