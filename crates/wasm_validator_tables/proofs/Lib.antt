mod BodySearch
mod TablesMade
