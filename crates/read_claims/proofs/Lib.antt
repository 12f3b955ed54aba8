pub mod CheckedTableProof
pub mod CheckedPlacesProof
pub mod PlaceTheorem
