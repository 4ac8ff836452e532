-- the law by which the loop of opening is understood
pub mod Openings
