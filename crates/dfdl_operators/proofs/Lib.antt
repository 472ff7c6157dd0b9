pub mod DivisionLemmas
pub mod HeldLemmas
pub mod PlaceLemmas
pub mod QuotientLemmas
pub mod SignLemmas
pub mod SumLemmas
