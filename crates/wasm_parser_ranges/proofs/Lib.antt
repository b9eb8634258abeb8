mod Pieces
mod SectionPlaces
mod NameSections
