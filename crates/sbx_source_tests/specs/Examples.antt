-- Four sources and what they mean, worked out from the definitions.
use Rattle.std.specs.Prelude.{◌≡◌, ℕ, pos, true, false, List, [], ◌∷◌, ◌++◌, Ok, Err, codes}
use Rattle.std.specs.List.{flat_map}
use Rattle.sbx_image.specs.Kind.TheVariants.{Leaf, Framed}
use Rattle.sbx_image.specs.Parts.{Parts}
use Rattle.sbx_asm.specs.declared.fault.Cause.TheVariants as causes
use Rattle.sbx_asm.specs.Rules.{at}
use Rattle.sbx_asm.specs.Images.{source_image}

-- each line and LF
abbrev pub lines_to_text : List (List ℕ) → List ℕ
lines_to_text lines = flat_map (λ line. line ++ 10 ∷ []) lines

-- puts out "Hi", and ends
abbrev pub hello : List ℕ
hello =
    lines_to_text (
    codes ".services exit,put"
    ∷ codes ".function main,leaf,0,0,16"
    ∷ codes ".fuel 16"
    ∷ codes "    mov 72,%o0 ! the letter H"
    ∷ codes "    ta 2"
    ∷ codes "    mov 105,%o0"
    ∷ codes "    ta 2"
    ∷ codes "    mov 0,%o0"
    ∷ codes "    ta 0" ∷ [])

abbrev pub hello_parts : Parts
hello_parts =
    record {
      version = 1;
      services = record { 0 = 5 };
      words = 0x90102048 ∷ 0x91D02002 ∷ 0x90102069 ∷ 0x91D02002 ∷ 0x90102000 ∷ 0x91D02000 ∷ [];
      regions = [];
      stack_pages = 1;
      functions =
          record {
            kind = Leaf;
            params = [];
            results = [];
            entry = 0x40000;
            frame = 0;
            stack_room = 0;
            budget = 16;
            depth = 0;
            blocks = record { address = 0x40000; fuel = pos 16; cells = []; terms = [] } ∷ [];
          } ∷ [];
    }

-- puts out "H" from a region that is read alone, and stores it in one that is written
abbrev pub letter : List ℕ
letter =
    lines_to_text (
    codes ".services exit,put"
    ∷ codes ".region ro"
    ∷ codes ".byte 72,105"
    ∷ codes ".region rw"
    ∷ codes "note: .skip 8"
    ∷ codes ".text"
    ∷ codes ".function main,leaf,0,0,14"
    ∷ codes ".fuel 14"
    ∷ codes "    sethi 512,%g1"
    ∷ codes "    ldub [%g1],%o0"
    ∷ codes "    ta 2"
    ∷ codes "    set note,%g2 ! 00081000"
    ∷ codes "    stb %o0,[%g2+7]"
    ∷ codes "    mov 0,%o0"
    ∷ codes "    ta 0" ∷ [])

abbrev pub letter_parts : Parts
letter_parts =
    record {
      version = 2;
      services = record { 0 = 5 };
      words = 0x03000200 ∷ 0xD0084000 ∷ 0x91D02002 ∷ 0x05000204 ∷ 0x8410A000 ∷ 0xD028A007 ∷ 0x90102000 ∷ 0x91D02000
          ∷ [];
      regions = record { bytes = 72 ∷ 105 ∷ 0 ∷ 0 ∷ 0 ∷ 0 ∷ 0 ∷ 0 ∷ []; writable = false }
          ∷ record { bytes = 0 ∷ 0 ∷ 0 ∷ 0 ∷ 0 ∷ 0 ∷ 0 ∷ 0 ∷ []; writable = true } ∷ [];
      stack_pages = 1;
      functions =
          record {
            kind = Leaf;
            params = [];
            results = [];
            entry = 0x40000;
            frame = 0;
            stack_room = 0;
            budget = 14;
            depth = 0;
            blocks = record { address = 0x40000; fuel = pos 14; cells = []; terms = [] } ∷ [];
          } ∷ [];
    }

-- a function with a depth calls one without; the data may be written
abbrev pub caller : List ℕ
caller =
    lines_to_text (
    codes ".services exit"
    ∷ codes ".function main,framed,96,96,32"
    ∷ codes ".fuel 32"
    ∷ codes ".depth 1"
    ∷ codes "    save %sp,-96,%sp"
    ∷ codes "    call zero"
    ∷ codes "    nop"
    ∷ codes "    ta 0"
    ∷ codes ".function zero,leaf,0,0,2"
    ∷ codes ".result 0,0,3"
    ∷ codes ".fuel 2"
    ∷ codes "    retl"
    ∷ codes "    mov 0,%o0"
    ∷ codes ".data"
    ∷ codes ".byte 7" ∷ [])

abbrev pub caller_parts : Parts
caller_parts =
    record {
      version = 3;
      services = record { 0 = 1 };
      words = 0x9DE3BFA0 ∷ 0x40000003 ∷ 0x01000000 ∷ 0x91D02000 ∷ 0x81C3E008 ∷ 0x90102000 ∷ [];
      regions = record { bytes = 7 ∷ 0 ∷ 0 ∷ 0 ∷ 0 ∷ 0 ∷ 0 ∷ 0 ∷ []; writable = true } ∷ [];
      stack_pages = 1;
      functions =
          record {
            kind = Framed;
            params = [];
            results = [];
            entry = 0x40000;
            frame = 96;
            stack_room = 96;
            budget = 32;
            depth = 1;
            blocks = record { address = 0x40000; fuel = pos 32; cells = []; terms = [] } ∷ [];
          }
          ∷ record {
            kind = Leaf;
            params = [];
            results = record { lo = pos 0; hi = pos 0; alignment = 3 } ∷ [];
            entry = 0x40010;
            frame = 0;
            stack_room = 0;
            budget = 2;
            depth = 0;
            blocks = record { address = 0x40010; fuel = pos 2; cells = []; terms = [] } ∷ [];
          } ∷ [];
    }

-- an empty source has no function
abbrev pub KnownSourcesHaveTheirMeanings : Type 0
KnownSourcesHaveTheirMeanings =
    (source_image [] ≡ Err (at 1 causes.Directive)) × (source_image hello ≡ Ok hello_parts)
    × (source_image letter ≡ Ok letter_parts) × (source_image caller ≡ Ok caller_parts)
