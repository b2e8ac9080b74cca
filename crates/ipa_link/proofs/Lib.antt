mod Steps
mod Progress
mod Stops
mod Written
