-- Why two runs of an image use the same pages.
--   Places       where runs of a checked image stand, and how they step on
--   Flats        two flat runs side by side: the same place, the same bases
--   Turns        what a step of one board leaves of the entries of pages
--   Uses         what is told of the pages is told of their entries
--   Pairs        two boards step by step, up to their ends
pub mod Places
pub mod Flats
pub mod Turns
pub mod Uses
pub mod Pairs
pub mod Law
mod Alike
mod Following
