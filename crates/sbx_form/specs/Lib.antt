pub mod Forms
pub mod Laws
pub use Rattle.sbx_range.specs.Ranges
pub use Rattle.sbx_range.specs.Table
pub use Rattle.sbx_range.specs.Refining
pub use Rattle.sbx_range.specs.Rows
