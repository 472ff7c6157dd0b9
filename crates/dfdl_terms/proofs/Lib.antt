mod Marks
mod MarkLists
