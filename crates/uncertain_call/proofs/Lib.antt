-- the answer to a text
pub mod Answering
-- what a host reads in it; either case; texts of letters beside a record
pub mod Told
