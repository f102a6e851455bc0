-- What is told of an image.
use Rattle.std.specs.Prelude.{◌≡◌, ℕ, length, slice_get, Option, Some, None}
use Rattle.sbx_image.specs.Parts.{Parts}
use Rattle.sbx_image.specs.Function.{Function}
use Rattle.sbx_image.specs.Regions.{byte_count}
use Rattle.sbx_flat.specs.Runs.{budget}
use Rattle.geyserpan.specs.declared.facts.Facts.{Facts}

abbrev pub declared_depth : Option Function → ℕ
declared_depth None = 0
declared_depth (Some f) = f.depth

-- the call depth that the function where a run begins declares
abbrev pub depth_of : Parts → ℕ
depth_of parts = declared_depth (slice_get parts.functions 0)

-- Each is what the image declares or is made of.
pub record HasFacts (parts : Parts) (facts : Facts) : Type 0 where
  pub budget_is : facts.budget ≡ budget parts
  pub services_are : facts.services ≡ parts.services.0
  pub version_is : facts.version ≡ parts.version
  pub words_are : facts.words ≡ length parts.words
  pub data_is : facts.data_bytes ≡ byte_count parts.regions
  pub stack_is : facts.stack_pages ≡ parts.stack_pages
  pub functions_are : facts.functions ≡ length parts.functions
  pub depth_is : facts.depth ≡ depth_of parts
  pub zero_is : facts.zero ≡ 0
