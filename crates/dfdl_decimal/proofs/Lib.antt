pub mod DivisionLemmas
pub mod FixedLemmas
pub mod OrderLemmas
pub mod ProductLemmas
pub mod QuotientLemmas
pub mod SameLemmas
pub mod SumLemmas
