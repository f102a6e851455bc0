-- RAM whose words are those of the page tables has the tables.
use Rattle.std.proofs.Common.{◌≡◌, ℕ, ◌+◌, ◌-◌, ◌*◌, ◌/◌, ◌%◌, ◌<◌, ◌≤◌, Bool, true, false, cond, List, length, Some, refl, ap, ◌∙◌, arith}
use Rattle.std.specs.Prelude.{◌==◌, ◌&&◌, nat_le, nat_lt}
use Rattle.std.proofs.lemmas.Bool.Decides.{nat_tests}
use Rattle.v8_mmu.specs.Ram.{entry_of}
use Rattle.v8_layout.specs.Layout.{Pages, HasTables, HasEntry, unmarked, region_entry, program_entry, system_region_entry, code_entry, data_count, data_entry, stack_entry, system_entry}
use Rattle.v8_layout.specs.Tables.{table_word}
use Rattle.v8_layout.proofs.Entries.{acc_small, data_entry_word, entry_back}

beyond : (k a i : ℕ) → k ≡ a + i → k - a ≡ i
beyond k a i e = omega arith

low_test : (k a : ℕ) → k < a → nat_lt k a ≡ true
low_test k a h = grind (arith, nat_tests)

high_test : (k a : ℕ) → a ≤ k → nat_lt k a ≡ false
high_test k a h = grind (arith, nat_tests)

not_first : (k : ℕ) → 0 < k → (k == 0) ≡ false
not_first k h = grind (arith, nat_tests)

region_word : (g : Pages) (i : ℕ) → i < 256 → table_word g (256 + i) ≡ region_entry i
unfolding table_word
region_word g i small =
    rw (not_first (256 + i) (omega arith)) (rw (high_test (256 + i) 256 (omega arith)) (rw (low_test (256 + i) 512 (omega arith)) (ap region_entry (beyond (256 + i) 256 i refl))))

program_word : (g : Pages) (i : ℕ) → i < 64 → table_word g (512 + i) ≡ program_entry i
unfolding table_word
program_word g i small =
    rw (not_first (512 + i) (omega arith))
    (rw (high_test (512 + i) 256 (omega arith))
    (rw (high_test (512 + i) 512 (omega arith)) (rw (low_test (512 + i) 576 (omega arith)) (ap program_entry (beyond (512 + i) 512 i refl)))))

system_region_word : (g : Pages) (i : ℕ) → i < 64 → table_word g (576 + i) ≡ system_region_entry i
unfolding table_word
system_region_word g i small =
    rw (not_first (576 + i) (omega arith))
    (rw (high_test (576 + i) 256 (omega arith))
    (rw (high_test (576 + i) 512 (omega arith)) (rw (high_test (576 + i) 576 (omega arith)) (rw (low_test (576 + i) 640 (omega arith))
    (ap system_region_entry (beyond (576 + i) 576 i refl))))))

code_word : (g : Pages) (i : ℕ) → i < 64 → table_word g (640 + i) ≡ code_entry g i
unfolding table_word
code_word g i small =
    rw (not_first (640 + i) (omega arith))
    (rw (high_test (640 + i) 256 (omega arith))
    (rw (high_test (640 + i) 512 (omega arith)) (rw (high_test (640 + i) 576 (omega arith)) (rw (high_test (640 + i) 640 (omega arith))
    (rw (low_test (640 + i) 704 (omega arith)) (ap (code_entry g) (beyond (640 + i) 640 i refl)))))))

data_word : (g : Pages) (i : ℕ) → i < 64 → table_word g (704 + i) ≡ data_entry g i
unfolding table_word
data_word g i small =
    rw (not_first (704 + i) (omega arith))
    (rw (high_test (704 + i) 256 (omega arith))
    (rw (high_test (704 + i) 512 (omega arith)) (rw (high_test (704 + i) 576 (omega arith)) (rw (high_test (704 + i) 640 (omega arith))
    (rw (high_test (704 + i) 704 (omega arith)) (rw (low_test (704 + i) 768 (omega arith)) (ap (data_entry g) (beyond (704 + i) 704 i refl))))))))

stack_word : (g : Pages) (i : ℕ) → i < 64 → table_word g (768 + i) ≡ stack_entry g i
unfolding table_word
stack_word g i small =
    rw (not_first (768 + i) (omega arith))
    (rw (high_test (768 + i) 256 (omega arith))
    (rw (high_test (768 + i) 512 (omega arith)) (rw (high_test (768 + i) 576 (omega arith)) (rw (high_test (768 + i) 640 (omega arith))
    (rw (high_test (768 + i) 704 (omega arith)) (rw (high_test (768 + i) 768 (omega arith)) (rw (low_test (768 + i) 832 (omega arith)) (ap (stack_entry g) (beyond (768 + i) 768 i refl)))))))))

system_word : (g : Pages) (i : ℕ) → i < 64 → table_word g (832 + i) ≡ system_entry i
unfolding table_word
system_word g i small =
    rw (not_first (832 + i) (omega arith))
    (rw (high_test (832 + i) 256 (omega arith))
    (rw (high_test (832 + i) 512 (omega arith)) (rw (high_test (832 + i) 576 (omega arith)) (rw (high_test (832 + i) 640 (omega arith))
    (rw (high_test (832 + i) 704 (omega arith)) (rw (high_test (832 + i) 768 (omega arith)) (rw (high_test (832 + i) 832 (omega arith)) (ap system_entry (beyond (832 + i) 832 i refl)))))))))

context_word : (g : Pages) (i : ℕ) → 0 < i → i < 256 → table_word g i ≡ 0
unfolding table_word
context_word g i one small = rw (not_first i one) (rw (low_test i 256 small) refl)

-- entries as they are written have no marks
plain_one : (w : ℕ) → w % 128 < 32 → unmarked w ≡ w
plain_one w small = by_kind (w % 4 == 2)
  where
    by_kind : (b : Bool) → cond b (w / 128 * 128 + w % 32) w ≡ w
    by_kind true = omega arith
    by_kind false = refl

plain_choice : (b : Bool) (x y : ℕ) → unmarked x ≡ x → unmarked y ≡ y → unmarked (cond b x y) ≡ cond b x y
plain_choice true x y a c = a
plain_choice false x y a c = c

as_entry : (ram : List ℕ) (p t : ℕ) → entry_of ram p ≡ Some t → unmarked t ≡ t → HasEntry ram p t
as_entry ram p t there plain = entry_back ram p t (record { word = t; there = there; is = plain })

pub words_make_tables : (g : Pages) (ram : List ℕ) → length ram ≡ 0x100000 → ((k : ℕ) → k < 896 → entry_of ram (0x2000 + 4 * k) ≡ Some (table_word g k)) → HasTables g ram
unfolding table_word
words_make_tables g ram size words =
    let at : (a i p : ℕ) → a + i < 896 → 0x2000 + 4 * a + 4 * i ≡ p → entry_of ram p ≡ Some (table_word g (a + i)) =
    λ (a i p : ℕ) (less : a + i < 896) (is : 0x2000 + 4 * a + 4 * i ≡ p). let sum : p ≡ 0x2000 + 4 * (a + i) = omega arith in ap (entry_of ram) sum ∙ words (a + i) less in
    record {
      size = size;
      context = words 0 (omega arith);
      contexts = λ i one small. words i (omega arith) ∙ ap Some (context_word g i one small);
      regions = λ i small. at 256 i (0x2400 + 4 * i) (omega arith) (omega arith) ∙ ap Some (region_word g i small);
      programs = λ i small. at 512 i (0x2800 + 4 * i) (omega arith) (omega arith) ∙ ap Some (program_word g i small);
      systems = λ i small. at 576 i (0x2900 + 4 * i) (omega arith) (omega arith) ∙ ap Some (system_region_word g i small);
      code_pages = λ i small. as_entry ram (0x2A00 + 4 * i) (code_entry g i) (at 640 i (0x2A00 + 4 * i) (omega arith) (omega arith) ∙ ap Some (code_word g i small))
          (plain_choice (nat_lt i g.code_count) (0x1012 + 0x100 * i) 0 (plain_one (0x1012 + 0x100 * i) (omega arith)) refl);
      data_pages = λ i small. as_entry ram (0x2B00 + 4 * i) (data_entry g i) (at 704 i (0x2B00 + 4 * i) (omega arith) (omega arith) ∙ ap Some (data_word g i small))
          (plain_choice (nat_lt i (data_count g)) (data_entry_word g i) 0 (plain_one (data_entry_word g i) (let acc = acc_small g i in omega arith)) refl);
      stack_pages = λ i small. as_entry ram (0x2C00 + 4 * i) (stack_entry g i) (at 768 i (0x2C00 + 4 * i) (omega arith) (omega arith) ∙ ap Some (stack_word g i small))
          (plain_choice (nat_le (64 - g.stack_count) i && nat_lt i 64) (0x9006 + 0x100 * (i - 48)) 0 (plain_one (0x9006 + 0x100 * (i - 48)) (omega arith)) refl);
      system_pages = λ i small. as_entry ram (0x2D00 + 4 * i) (system_entry i) (at 832 i (0x2D00 + 4 * i) (omega arith) (omega arith) ∙ ap Some (system_word g i small))
          (plain_choice (i == 0) 0x1A _ refl (plain_choice (i == 1) 0x11A _ refl (plain_choice (i == 16) 0x1000001E 0 refl refl)));
    }
