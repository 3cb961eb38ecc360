mod Held
mod Telling
