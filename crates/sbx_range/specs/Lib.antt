pub mod Ranges
pub mod Rows
pub mod Table
pub mod Refining
pub mod Laws
pub use Rattle.sbx_image.specs.Range
pub use Rattle.sbx_image.specs.Cell
