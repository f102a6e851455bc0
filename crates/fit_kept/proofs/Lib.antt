pub mod ByLines
