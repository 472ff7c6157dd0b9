pub mod LawLemmas
pub mod PaddingLemmas
