mod Among
mod Telling
