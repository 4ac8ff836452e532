-- laws by which the code of the carried numbers is understood
pub mod Lowering
pub mod Carrying
