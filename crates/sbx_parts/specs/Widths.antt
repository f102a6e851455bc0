-- What the types of an image's fields say of its numbers and lengths.
use Rattle.std.specs.Prelude.{◌<◌, ◌^◌, FitsSigned, length, All}
use Rattle.std.specs.List.{AllByRecursion}
use Rattle.std.specs.Int.{w32, w64}
use Rattle.sbx_parts.specs.declared.parts.Range.{Range}
use Rattle.sbx_parts.specs.declared.parts.Cell.{Cell}
use Rattle.sbx_parts.specs.declared.parts.Term.{Term}
use Rattle.sbx_parts.specs.declared.parts.Block.{Block}
use Rattle.sbx_parts.specs.declared.parts.Function.{Function}
use Rattle.sbx_parts.specs.declared.parts.Parts.{Parts}
use Rattle.sbx_parts.specs.declared.parts.Region.{Region}
use Rattle.sbx_parts.specs.Regions.{AreBytes}

-- Each number is one that its field can hold.
pub record IsTypedRange (r : Range) : Type 0 where
  pub lo : FitsSigned w32 r.lo
  pub hi : FitsSigned w32 r.hi

abbrev pub IsTypedCell : Cell → Type 0
IsTypedCell c = IsTypedRange c.range

abbrev pub IsTypedTerm : Term → Type 0
IsTypedTerm t = FitsSigned w32 t.coefficient

pub record IsTypedBlock (b : Block) : Type 0 where
  pub address : b.address < 2 ^ 32
  pub fuel : FitsSigned w64 b.fuel
  pub cells : AllByRecursion IsTypedCell b.cells
  pub terms : AllByRecursion IsTypedTerm b.terms

pub record IsTypedFunction (f : Function) : Type 0 where
  pub entry : f.entry < 2 ^ 32
  pub depth : f.depth < 2 ^ 16
  pub params : AllByRecursion IsTypedRange f.params
  pub results : AllByRecursion IsTypedRange f.results
  pub blocks : AllByRecursion IsTypedBlock f.blocks

-- The bytes of a region.
abbrev pub IsTypedRegion : Region → Type 0
IsTypedRegion r = AreBytes r.bytes

pub record IsTyped (p : Parts) : Type 0 where
  pub version : p.version < 2 ^ 16
  pub services : p.services.0 < 2 ^ 16
  pub words : AllByRecursion (λ w. w < 2 ^ 32) p.words
  pub regions : AllByRecursion IsTypedRegion p.regions
  pub functions : AllByRecursion IsTypedFunction p.functions

-- Each list has a length that its count can say.
abbrev pub IsCountedBlock : Block → Type 0
IsCountedBlock b = (length b.cells < 2 ^ 16) × (length b.terms < 2 ^ 16)

pub record IsCountedFunction (f : Function) : Type 0 where
  pub params : length f.params < 2 ^ 8
  pub results : length f.results < 2 ^ 8
  pub blocks : length f.blocks < 2 ^ 16
  pub each_block : All IsCountedBlock f.blocks
