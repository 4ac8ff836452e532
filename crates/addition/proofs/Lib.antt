-- laws by which the code of an addition is understood
pub mod Additions
