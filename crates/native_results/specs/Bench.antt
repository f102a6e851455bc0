-- The variables on which the statements of a word that computes work: its operands, its result, the codes and Y.
use Rattle.std.specs.Prelude.{◌≡◌, ℕ, ◌<◌, ◌≤◌, ◌++◌, List, length, slice_index, Some}
use Rattle.v8_alu.specs.Results.{from_flag}
use Rattle.v8_alu.specs.declared.AluOut.{AluOut}
use Rattle.v8_word.specs.declared.Icc.{Icc}
use Rattle.native_lang.specs.declared.stmt.Stmt.{Stmt}
use Rattle.native_lang.specs.World.{World}
use Rattle.native_results.specs.DoesAll.{does_all}

pub record Bench : Type 0 where
  pub first : ℕ
  pub second : ℕ
  pub result : ℕ
  pub nowhere : ℕ
  pub n : ℕ
  pub z : ℕ
  pub v : ℕ
  pub c : ℕ
  pub y : ℕ

abbrev pub bench_of : List ℕ → Bench
bench_of v =
    record {
      first = slice_index v 40;
      second = slice_index v 41;
      result = slice_index v 42;
      nowhere = slice_index v 45;
      n = slice_index v 32;
      z = slice_index v 33;
      v = slice_index v 34;
      c = slice_index v 35;
      y = slice_index v 36;
    }

-- the bench of an operation on two words, with the codes and Y as they were
abbrev pub laid_out : Bench → ℕ → ℕ → Icc → ℕ → Bench
laid_out k a b icc y =
    record k {
      first = a;
      second = b;
      n = from_flag icc.n;
      z = from_flag icc.z;
      v = from_flag icc.v;
      c = from_flag icc.c;
      y = y;
    }

-- A bench has a result, with its codes and Y.
pub record Has (out : AluOut) (k : Bench) : Type 0 where
  pub result : k.result ≡ out.value
  pub n : k.n ≡ from_flag out.icc.n
  pub z : k.z ≡ from_flag out.icc.z
  pub v : k.v ≡ from_flag out.icc.v
  pub c : k.c ≡ from_flag out.icc.c
  pub y : k.y ≡ out.y

-- ---- statements that change the bench alone

-- They come to a world with this bench. The registers are as they were.
pub record WorksTo (windows : ℕ) (made : List Stmt) (w : World) (bench : Bench) : Type 0 where
  pub variables : List ℕ
  pub done : does_all windows made w ≡ Some (record w { variables = variables })
  pub size : length variables ≡ 256
  pub registers : (r : ℕ) → r < 32 → slice_index variables r ≡ slice_index w.variables r
  -- TAKEN and CALLED
  pub kept : (x : ℕ) → 43 ≤ x → x < 45 → slice_index variables x ≡ slice_index w.variables x
  pub is : bench_of variables ≡ bench

-- Statements that make a bench of the variables stand behind those that were there.
pub record Makes (f : List ℕ → Bench) (old new : List Stmt) : Type 0 where
  pub made : List Stmt
  pub behind : new ≡ old ++ made
  pub works : (windows : ℕ) (w : World) → length w.variables ≡ 256 → WorksTo windows made w (f w.variables)

-- of the bench that was
abbrev pub Turns : (Bench → Bench) → List Stmt → List Stmt → Type 0
Turns f old new = Makes (λ v. f (bench_of v)) old new
