mod Placed
mod Counted
mod Stuck
mod Kept
mod Overfull
mod Fullness
mod Documents
