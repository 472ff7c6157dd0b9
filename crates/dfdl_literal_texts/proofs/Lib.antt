mod Marks
mod Ends
mod Passes
mod Spaces
mod Steps
mod Repeats
mod PlainLaws
