-- laws of the ends of what is read: what begins the letters with one more at the right, when it stands again, where what ends them is known, what is known of an end, and the left end by them
pub mod Prefixes
pub mod Again
pub mod Known
pub mod Reaches
pub mod Left
