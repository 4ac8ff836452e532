-- laws by which the code of a removal is understood
pub mod Removals
