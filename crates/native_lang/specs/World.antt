-- What statements do.
use Rattle.std.specs.Prelude.{ℕ, zero, suc, ◌+◌, ◌-◌, ◌%◌, ◌^◌, List, [], ◌∷◌, ◌++◌, reverse, slice_index, slice_set}
use Rattle.std.specs.Prelude.{Option, Some, None, Bool, true, false}
use Rattle.v8_alu.specs.Outcomes.{division_of}
use Rattle.v8_alu.specs.Results.{from_flag}
use Rattle.v8_word.specs.declared.Icc.{Icc}
use Rattle.v8_alu.specs.declared.AluOut.{AluOut}
use Rattle.v8_alu.specs.declared.Division.{Division}
use Rattle.v8_alu.specs.declared.Division.TheVariants.{SdivCc, UdivCc}
use Rattle.sbx_flat.specs.declared.path.Traffic.{Traffic}
use Rattle.native_lang.specs.declared.stmt.Stmt.{Stmt}
use Rattle.native_lang.specs.declared.stmt.Stmt.TheVariants.{Set, Load, Store, Divide, Get, Put, Turns}
use Rattle.native_lang.specs.declared.stmt.Stmt.TheVariants.{Enter, Leave, Push, Pop}
use Rattle.native_lang.specs.declared.state.SavedWindow.{SavedWindow}
use Rattle.native_lang.specs.declared.state.Interpreter.{Interpreter}
use Rattle.native_lang.specs.Values.{value}
use Rattle.native_lang.specs.Memory.{bytes_of_width, loaded, stored}
use Rattle.native_lang.specs.Counts.{enters, leaves, makes}

-- what all functions share: variables by number, saved windows (the newest first), the block, the input that is left,
-- the output so far, and the counts
pub record World : Type 0 where
  pub variables : List ℕ
  pub saved : List SavedWindow
  pub block : List ℕ
  pub input : List ℕ
  pub output : List ℕ
  pub counts : Traffic

abbrev pub world_of : Interpreter → World
world_of m =
    record {
      variables = m.variables;
      saved = reverse m.saved.items;
      block = m.block.items;
      input = m.input.now;
      output = m.output.items;
      counts = m.traffic;
    }

abbrev pub sets : ℕ → ℕ → World → World
sets x word w = record w { variables = slice_set w.variables x word }

-- the next byte of the input, or 2^32 - 1 at its end
abbrev pub gets : ℕ → List ℕ → World → World
gets x [] w = sets x (2 ^ 32 - 1) w
gets x (byte ∷ rest) w = sets x byte (record w { input = rest })

-- the low byte goes out
abbrev pub puts : ℕ → World → World
puts word w = record w { output = w.output ++ (word % 2 ^ 8) ∷ [] }

-- ---- windows

abbrev pub eight_of : List ℕ → ℕ → List ℕ
eight_of v from =
    slice_index v from ∷ slice_index v (from + 1) ∷ slice_index v (from + 2) ∷ slice_index v (from + 3)
    ∷ slice_index v (from + 4) ∷ slice_index v (from + 5) ∷ slice_index v (from + 6) ∷ slice_index v (from + 7) ∷ []

-- the first k of these words, from a place on
abbrev pub put_words : List ℕ → ℕ → List ℕ → ℕ → List ℕ
put_words v from words zero = v
put_words v from words (suc k) = slice_set (put_words v from words k) (from + k) (slice_index words k)

-- locals and ins go on the stack of saved windows, and outs become ins: locals are 16 to 23, ins 24 to 31, outs 8 to 15
abbrev pub pushed : World → World
pushed w =
    record w {
      variables = put_words w.variables 24 (eight_of w.variables 8) 8;
      saved = (record { locals = eight_of w.variables 16; ins = eight_of w.variables 24 }) ∷ w.saved;
    }

-- and back
abbrev pub restored : List ℕ → SavedWindow → List ℕ
restored v s = put_words (put_words (put_words v 8 (eight_of v 24) 8) 16 s.locals 8) 24 s.ins 8

abbrev pub popped : List SavedWindow → World → Option World
popped [] w = None
popped (s ∷ rest) w = Some (record w { variables = restored w.variables s; saved = rest })

-- ---- statements; None is what a C program has no meaning for

abbrev pub loads : ℕ → Option ℕ → World → Option World
loads x None w = None
loads x (Some number) w = Some (sets x number w)

abbrev pub stores : Option (List ℕ) → World → Option World
stores None w = None
stores (Some block) w = Some (record w { block = block })

-- the division of y:a by b, as the manual's UDIV and SDIV: the saturated word, and whether it was saturated. b isn't 0
abbrev pub division : Bool → Division
division true = SdivCc
division false = UdivCc

-- the quotient needs no codes before it
abbrev pub no_codes : Icc
no_codes = record { n = false; z = false; v = false; c = false }

abbrev pub parted : Option AluOut → Option (ℕ × ℕ)
parted None = None
parted (Some result) = Some (result.value, from_flag result.icc.v)

abbrev pub divides : ℕ → ℕ → Option AluOut → World → Option World
divides x o None w = None
divides x o (Some result) w = Some (sets o (from_flag result.icc.v) (sets x result.value w))

abbrev pub does : ℕ → Stmt → World → Option World
does n (Set x e) w = Some (sets x (value w.variables e) w)
does n (Load x width e) w = loads x (loaded w.block (value w.variables e) (bytes_of_width width)) w
does n (Store width a e) w =
    stores (stored w.block (value w.variables a) (bytes_of_width width) (value w.variables e)) w
does n (Divide x o sign y a b) w =
    divides x o
    (division_of (division sign) (value w.variables a) (value w.variables b) no_codes (value w.variables y)) w
does n (Get x) w = Some (gets x w.input w)
does n (Put e) w = Some (puts (value w.variables e) w)
does n (Turns k) w = Some (record w { counts = makes k w.counts })
does n Enter w = Some (record w { counts = enters n w.counts })
does n Leave w = Some (record w { counts = leaves w.counts })
does n Push w = Some (pushed w)
does n Pop w = popped w.saved w
