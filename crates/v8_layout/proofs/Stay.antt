-- Tables whose words change in R and M alone are those of a loaded board still.
use Rattle.std.proofs.Common.{◌≡◌, ℕ, ◌+◌, ◌*◌, ◌%◌, ◌<◌, ◌≤◌, Bool, true, false, cond, List, Some, IsSomeAnd, refl, ap, ◌∙◌, subst, arith}
use Rattle.std.specs.Prelude.{◌==◌}
use Rattle.v8_mmu.specs.Ram.{entry_of}
use Rattle.v8_layout.specs.Layout.{Pages, HasTables, HasEntry, unmarked, region_entry, program_entry, system_region_entry, code_entry, data_entry, stack_entry, system_entry}
use Rattle.v8_layout.specs.Laws.{SameTables}
use Rattle.v8_layout.proofs.Entries.{PageEntry, entry_from, entry_back, unmarked_same}

-- the new word, like the old one
like_old : (old new : List ℕ) → SameTables old new → (p w : ℕ) → 0x2000 ≤ p → p < 0x2E00 → p % 4 ≡ 0 → entry_of old p ≡ Some w → PageEntry new p (unmarked w)
like_old old new same p w low high whole there =
    let was : IsSomeAnd (Some w) (λ v. IsSomeAnd (entry_of new p) (λ x. unmarked x ≡ unmarked v)) =
    subst (λ o. IsSomeAnd o (λ v. IsSomeAnd (entry_of new p) (λ x. unmarked x ≡ unmarked v))) there (same.words p low high whole) in
    entry_from new p (unmarked w) was

exact_kept : (old new : List ℕ) → SameTables old new → (p w : ℕ) → 0x2000 ≤ p → p < 0x2E00 → p % 4 ≡ 0 → (w % 4 ≡ 2 → ⊥) → entry_of old p ≡ Some w → entry_of new p ≡ Some w
exact_kept old new same p w low high whole exact there =
    let e = like_old old new same p w low high whole there in
    e.there ∙ ap Some (unmarked_same e.word w exact e.is)

entry_kept : (old new : List ℕ) → SameTables old new → (p t : ℕ) → 0x2000 ≤ p → p < 0x2E00 → p % 4 ≡ 0 → HasEntry old p t → HasEntry new p t
entry_kept old new same p t low high whole h =
    let was = entry_from old p t h in
    let e = like_old old new same p was.word low high whole was.there in
    entry_back new p t (record { word = e.word; there = e.there; is = e.is ∙ was.is })

-- no entry of the upper tables is a page's
one_of_two : (b c : Bool) (x y : ℕ) → x % 4 ≡ 1 → y % 4 ≡ 1 → cond b x (cond c y 0) % 4 ≡ 2 → ⊥
one_of_two true c x y a b e = omega arith
one_of_two false true x y a b e = omega arith
one_of_two false false x y a b e = omega arith

one_of_three : (b c d : Bool) (x y z : ℕ) → x % 4 ≡ 1 → y % 4 ≡ 1 → z % 4 ≡ 1 → cond b x (cond c y (cond d z 0)) % 4 ≡ 2 → ⊥
one_of_three true c d x y z k l m e = omega arith
one_of_three false c d x y z k l m e = one_of_two c d y z l m e

one_of_one : (b : Bool) (x : ℕ) → x % 4 ≡ 1 → cond b x 0 % 4 ≡ 2 → ⊥
one_of_one true x a e = omega arith
one_of_one false x a e = omega arith

pub tables_kept : (g : Pages) (old new : List ℕ) → HasTables g old → SameTables old new → HasTables g new
tables_kept g old new t same =
    record {
      size = same.size ∙ t.size;
      context = exact_kept old new same 0x2000 0x241 (omega arith) (omega arith) refl (λ e. one_of_one true 0x241 refl e) t.context;
      contexts = λ i one small. exact_kept old new same (0x2000 + 4 * i) 0 (omega arith) (omega arith) (omega arith) (λ e. omega arith) (t.contexts i one small);
      regions = λ i small. exact_kept old new same (0x2400 + 4 * i) (region_entry i) (omega arith) (omega arith) (omega arith)
          (one_of_two (i == 0) (i == 0xF0) 0x281 0x291 refl refl) (t.regions i small);
      programs = λ i small. exact_kept old new same (0x2800 + 4 * i) (program_entry i) (omega arith) (omega arith) (omega arith)
          (one_of_three (i == 1) (i == 2) (i == 3) 0x2A1 0x2B1 0x2C1 refl refl refl) (t.programs i small);
      systems = λ i small. exact_kept old new same (0x2900 + 4 * i) (system_region_entry i) (omega arith) (omega arith) (omega arith) (one_of_one (i == 0) 0x2D1 refl) (t.systems i small);
      code_pages = λ i small. entry_kept old new same (0x2A00 + 4 * i) (code_entry g i) (omega arith) (omega arith) (omega arith) (t.code_pages i small);
      data_pages = λ i small. entry_kept old new same (0x2B00 + 4 * i) (data_entry g i) (omega arith) (omega arith) (omega arith) (t.data_pages i small);
      stack_pages = λ i small. entry_kept old new same (0x2C00 + 4 * i) (stack_entry g i) (omega arith) (omega arith) (omega arith) (t.stack_pages i small);
      system_pages = λ i small. entry_kept old new same (0x2D00 + 4 * i) (system_entry i) (omega arith) (omega arith) (omega arith) (t.system_pages i small);
    }
