pub mod LastStarts
