mod Table
mod Laws
pub mod Reader
pub mod Bytes
mod ReadingLaws
mod SingleLaws
mod PadLaws
mod FillLaws
mod TextListLaws
