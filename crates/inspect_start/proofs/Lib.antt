mod Blank
mod Numerals
mod Outcomes
mod Splitting
mod Words
