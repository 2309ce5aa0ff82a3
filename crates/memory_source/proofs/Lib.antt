mod Entries
mod Meets
