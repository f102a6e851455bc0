-- Statements one behind the other, and what they make of the bench.
use Rattle.std.proofs.Common.{◌≡◌, ◌≢◌, ℕ, ◌<◌, ◌≤◌, List, [], ◌∷◌, ◌++◌, length, Option, Some, None, Result, Ok, Err, slice_index, slice_set, refl, ap, ◌∙◌, append_assoc, arith}
use Rattle.std.specs.Prelude.{◌==◌, IfOk, if◌then◌else◌}
use Rattle.std.proofs.lemmas.Grind.{common_steps}
use Rattle.std.proofs.lemmas.Bool.Decides.{nat_tests}
use Rattle.native_lang.specs.declared.expr.Expr.{Expr}
use Rattle.native_lang.specs.declared.stmt.Stmt.{Stmt}
use Rattle.native_lang.specs.declared.stmt.Stmt.TheVariants.{Set}
use Rattle.native_lang.specs.Values.{value}
use Rattle.native_lang.specs.World.{World, does}
use Rattle.native_results.specs.Bench.{Bench, Makes, Turns, WorksTo, bench_of}
use Rattle.native_results.specs.DoesAll.{does_all, then_on}

pub on_ok : {A E : Type 0} {P Q : A → Type 0} (r : Result A E) → ((a : A) → P a → Q a) → IfOk r P → IfOk r Q
on_ok (Ok a) f h = f a h
on_ok (Err e) f h = tt

-- ---- one after another

then_twice : (n : ℕ) (a b : List Stmt) (o : Option World) → ((w : World) → does_all n (a ++ b) w ≡ then_on (does_all n a w) (does_all n b)) →
    then_on o (does_all n (a ++ b)) ≡ then_on (then_on o (does_all n a)) (does_all n b)
then_twice n a b None h = refl
then_twice n a b (Some w) h = h w

pub does_append : (n : ℕ) (a b : List Stmt) (w : World) → does_all n (a ++ b) w ≡ then_on (does_all n a w) (does_all n b)
does_append n [] b w = refl
does_append n (s ∷ a) b w = then_twice n a b (does n s w) (does_append n a b)

-- ---- a variable set

pub read_set : (v : List ℕ) (x word i : ℕ) → length v ≡ 256 → x < 256 → slice_index (slice_set v x word) i ≡ (if i == x then word else slice_index v i)
read_set v x word i size low = grind (arith, nat_tests, common_steps)

pub other : (v : List ℕ) (x word i : ℕ) → i ≢ x → slice_index (slice_set v x word) i ≡ slice_index v i
other v x word i differs = grind (arith, common_steps)

pub long : (v : List ℕ) (x word : ℕ) → length v ≡ 256 → length (slice_set v x word) ≡ 256
long v x word size = grind (arith, common_steps)

-- the bench with a variable set
abbrev pub put : ℕ → ℕ → Bench → Bench
put x word k =
    record {
      first = if 40 == x then word else k.first;
      second = if 41 == x then word else k.second;
      result = if 42 == x then word else k.result;
      nowhere = if 45 == x then word else k.nowhere;
      n = if 32 == x then word else k.n;
      z = if 33 == x then word else k.z;
      v = if 34 == x then word else k.v;
      c = if 35 == x then word else k.c;
      y = if 36 == x then word else k.y;
    }

pub bench_put : (v : List ℕ) (x word : ℕ) → length v ≡ 256 → x < 256 → bench_of (slice_set v x word) ≡ put x word (bench_of v)
bench_put v x word size low = λ i. record {
  first = read_set v x word 40 size low i;
  second = read_set v x word 41 size low i;
  result = read_set v x word 42 size low i;
  nowhere = read_set v x word 45 size low i;
  n = read_set v x word 32 size low i;
  z = read_set v x word 33 size low i;
  v = read_set v x word 34 size low i;
  c = read_set v x word 35 size low i;
  y = read_set v x word 36 size low i;
}

-- ---- what is made

pub one : (x : ℕ) (e : Expr) (g : List ℕ → ℕ) (old new : List Stmt) → 32 ≤ x → x < 43 → new ≡ old ++ Set x e ∷ [] →
    ((v : List ℕ) → value v e ≡ g v) → Makes (λ v. put x (g v) (bench_of v)) old new
one x e g old new above below at same = record {
  made = Set x e ∷ [];
  behind = at;
  works = λ windows w size. record {
    variables = slice_set w.variables x (value w.variables e);
    done = refl;
    size = long w.variables x (value w.variables e) size;
    registers = λ r less. other w.variables x (value w.variables e) r (λ e. omega (arith, e, less, above));
    kept = λ k low high. other w.variables x (value w.variables e) k (λ e. omega (arith, e, low, below));
    is = bench_put w.variables x (value w.variables e) size (omega (arith, below)) ∙ ap (λ t. put x t (bench_of w.variables)) (same w.variables);
  };
}

pub works_on : (windows : ℕ) (w : World) (made : List Stmt) (k : Bench) (g : Bench → Bench) (mid new : List Stmt) → WorksTo windows made w k → (next : Turns g mid new) →
    WorksTo windows (made ++ next.made) w (g k)
works_on windows w made k g mid new a next =
    let b = next.works windows (record w { variables = a.variables }) a.size in
    record {
      variables = b.variables;
      done = does_append windows made next.made w ∙ ap (λ o. then_on o (does_all windows next.made)) a.done ∙ b.done;
      size = b.size;
      registers = λ r less. b.registers r less ∙ a.registers r less;
      kept = λ x low high. b.kept x low high ∙ a.kept x low high;
      is = b.is ∙ ap g a.is;
    }

pub chain : (f : List ℕ → Bench) (g : Bench → Bench) (old mid new : List Stmt) → Makes f old mid → Turns g mid new → Makes (λ v. g (f v)) old new
chain f g old mid new first next = record {
  made = first.made ++ next.made;
  behind = next.behind ∙ ap (λ l. l ++ next.made) first.behind ∙ append_assoc old first.made next.made;
  works = λ windows w size. works_on windows w first.made (f w.variables) g mid new (first.works windows w size) next;
}

-- a variable set after what was made
pub also : (f : List ℕ → Bench) (x : ℕ) (e : Expr) (g : Bench → ℕ) (old mid new : List Stmt) → 32 ≤ x → x < 43 → Makes f old mid →
    new ≡ mid ++ Set x e ∷ [] → ((v : List ℕ) → value v e ≡ g (bench_of v)) → Makes (λ v. put x (g (f v)) (f v)) old new
also f x e g old mid new above below first at same =
    chain f (λ k. put x (g k) k) old mid new first (one x e (λ v. g (bench_of v)) mid new above below at same)
