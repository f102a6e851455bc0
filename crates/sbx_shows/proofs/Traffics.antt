-- The counts of a board run are the window traffic of the flat path, one step more at its end each time.
use Rattle.std.proofs.Common.{◌≡◌, ℕ, ◌+◌, ◌-◌, ◌<◌, ◌≤◌, Bool, true, false, List, [], ◌∷◌, ◌++◌, Some, refl, ap, ◌∙◌, arith}
use Rattle.std.specs.Prelude.{◌==◌, if◌then◌else◌}
use Rattle.std.proofs.lemmas.Bool.Decides.{nat_tests}
use Rattle.v8_core.specs.Three.{Three}
use Rattle.v8_core.specs.Operation.TheVariants.{Save, Restore}
use Rattle.sbx_flat.specs.Parts.{Parts}
use Rattle.sbx_flat.specs.declared.path.Place.{Place}
use Rattle.sbx_flat.specs.declared.path.Traffic.{Traffic}
use Rattle.sbx_flat.specs.Traffic.{after_operation, after_place, after_word, no_traffic, traffic, traffic_from}
use Rattle.sbx_flat.specs.Turns.{asked, word_at}
use Rattle.sbx_shows.specs.Advances.{so_many}

from_more : (parts : Parts) (n : ℕ) (path : List Place) (p : Place) (t : Traffic) → traffic_from parts n (path ++ p ∷ []) t ≡ after_place parts n p (traffic_from parts n path t)
from_more parts n [] p t = refl
from_more parts n (q ∷ path) p t = from_more parts n path p (after_place parts n q t)

-- one step more
pub traffic_more : (parts : Parts) (n : ℕ) (path : List Place) (p : Place) → traffic parts n (path ++ p ∷ []) ≡ after_place parts n p (traffic parts n path)
traffic_more parts n path p = from_more parts n path p no_traffic

pub at_word : (parts : Parts) (n : ℕ) (p : Place) (word : ℕ) (t : Traffic) → p.annulled ≡ false → word_at parts.words p.pc ≡ Some word → after_place parts n p t ≡ after_operation n (asked word) t
unfolding after_place
at_word parts n p word t straight there =
    ap (λ (b : Bool). if b then record t { turns = t.turns + 1 } else after_word n (word_at parts.words p.pc) t) straight
    ∙ ap (λ o. after_word n o t) there

pub save_counts : (n r o u k : ℕ) (f : Three) → r + 1 < n → after_operation n (Save f) (so_many r o u k) ≡ so_many (r + 1) o u (k + 1)
save_counts n r o u k f free = let test : (r == n - 1) ≡ false = grind (arith, nat_tests) in
    ap (λ (b : Bool). if b then record (so_many r o u k) { overflows = o + 1; turns = k + 25 } else so_many (r + 1) o u (k + 1)) test

pub overflow_counts : (n r o u k : ℕ) (f : Three) → r + 1 ≡ n → after_operation n (Save f) (so_many r o u k) ≡ so_many r (o + 1) u (k + 25)
overflow_counts n r o u k f full = let test : (r == n - 1) ≡ true = grind (arith, nat_tests) in
    ap (λ (b : Bool). if b then so_many r (o + 1) u (k + 25) else record (so_many r o u k) { windows = r + 1; turns = k + 1 }) test

pub restore_counts : (n r o u k : ℕ) (f : Three) → 2 ≤ r → after_operation n (Restore f) (so_many r o u k) ≡ so_many (r - 1) o u (k + 1)
restore_counts n r o u k f some = let test : (r == 1) ≡ false = grind (arith, nat_tests) in
    ap (λ (b : Bool). if b then record (so_many r o u k) { underflows = u + 1; turns = k + 25 } else so_many (r - 1) o u (k + 1)) test

pub underflow_counts : (n o u k : ℕ) (f : Three) → after_operation n (Restore f) (so_many 1 o u k) ≡ so_many 1 o (u + 1) (k + 25)
underflow_counts n o u k f = refl
