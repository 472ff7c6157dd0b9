pub mod Numbers
pub mod Elements
pub mod Leads
pub mod Values
pub mod Spans
