-- laws by which the code of an insertion is understood
pub mod Insertions
