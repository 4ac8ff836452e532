-- laws of the search: what each letter and each edge say of the piece
pub mod Finding
