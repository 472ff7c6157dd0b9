mod ByteLists
mod Layings
mod Moving
mod TypedEvents
