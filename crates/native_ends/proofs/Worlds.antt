-- What a world shows besides the words of one instruction: other places, counts, services, and the words of a new frame.
use Rattle.std.proofs.Common.{◌≡◌, ℕ, ◌+◌, ◌-◌, ◌%◌, ◌^◌, ◌<◌, ◌≤◌, Bool, true, false, List, [], ◌∷◌, ◌++◌, Option, slice_index, slice_set, refl, sym, ap, ◌∙◌, subst, arith}
use Rattle.std.specs.Prelude.{◌==◌, nat_lt, if◌then◌else◌}
use Rattle.std.proofs.lemmas.Bool.Decides.{nat_tests}
use Rattle.std.proofs.lemmas.Grind.{get_or-set_at}
use Rattle.std.proofs.lemmas.List.{get_or-set_other, length-set}
use Rattle.sbx_image.specs.Parts.{Parts}
use Rattle.sbx_flat.specs.Effects.{gets as flat_gets, puts as flat_puts}
use Rattle.sbx_flat.specs.Registers.{IsFresh}
use Rattle.sbx_flat.specs.States.{State, advanced, reg, with_reg}
use Rattle.sbx_flat.specs.WellFormed.{IsWellFormed}
use Rattle.sbx_flat.specs.declared.path.Traffic.{Traffic}
use Rattle.sbx_flat.proofs.Kept.{word_small}
use Rattle.native_lang.specs.Memory.{number_in}
use Rattle.native_lang.specs.World.{World, gets, puts, sets}
use Rattle.native_results.specs.ShowsState.{ShowsState, fresh_words, left_word}
use Rattle.native_results.proofs.Shown.{assigned, assigned_shown, turned_over}

module _ (parts : Parts) where
  -- the place in the code and the exit word are none of a world's
  pub elsewhere_shows : (w : World) (s : State) (pc npc : ℕ) (annulled : Bool) (exit : Option ℕ) → ShowsState parts w s → ShowsState parts w (record s { pc = pc; npc = npc; annulled = annulled; exit = exit })
  elsewhere_shows w s pc npc annulled exit h = record {
    variables = h.variables;
    registers = h.registers;
    icc = h.icc;
    y = h.y;
    windows = h.windows;
    block = h.block;
    block_bytes = h.block_bytes;
    slots = h.slots;
    memory = h.memory;
    input = h.input;
    output = h.output;
    pages = h.pages;
  }

  -- a register, and a variable that is none of the machine's
  pub register_shows : (w : World) (s : State) (n v : ℕ) → n < 32 → (n == 0) ≡ false → ShowsState parts w s → ShowsState parts (sets n v w) (with_reg n v s)
  register_shows w s n v low some h =
      let is : assigned n v w.variables ≡ slice_set w.variables n v = ap (λ (b : Bool). if b then w.variables else slice_set w.variables n v) some in
      let there : ShowsState parts (sets n v w) (advanced (with_reg n v s)) =
      subst (λ (xs : List ℕ). ShowsState parts (record w { variables = xs }) (advanced (with_reg n v s))) is (assigned_shown parts w s n v low h) in
      elsewhere_shows (sets n v w) (advanced (with_reg n v s)) s.pc s.npc s.annulled s.exit there

  pub scratch_shows : (w : World) (s : State) (x v : ℕ) → 37 ≤ x → ShowsState parts w s → ShowsState parts (sets x v w) s
  scratch_shows w s x v high h =
      let kept : (r : ℕ) → r < 37 → slice_index (slice_set w.variables x v) r ≡ slice_index w.variables r =
      λ r less. get_or-set_other w.variables x r v 0 (λ e. omega (arith, e, less, high)) in
      turned_over parts w s (slice_set w.variables x v) s.icc s.y h (length-set w.variables x v ∙ h.variables) (λ r less. kept r (omega (arith, less)))
      (record {
        n = kept 32 (omega arith) ∙ h.icc.n;
        z = kept 33 (omega arith) ∙ h.icc.z;
        v = kept 34 (omega arith) ∙ h.icc.v;
        c = kept 35 (omega arith) ∙ h.icc.c;
      })
      (kept 36 (omega arith) ∙ h.y)

  pub scratch_is : (w : World) (s : State) (x v : ℕ) → x < 256 → ShowsState parts w s → slice_index (sets x v w).variables x ≡ v
  scratch_is w s x v low h = let size = h.variables in get_or-set_at w.variables x x v 0 refl (omega (arith, low, size))

  -- nor are the counts a state's
  pub counted_shows : (w : World) (s : State) (counts : Traffic) → ShowsState parts w s → ShowsState parts (record w { counts = counts }) s
  counted_shows w s counts h = record {
    variables = h.variables;
    registers = h.registers;
    icc = h.icc;
    y = h.y;
    windows = h.windows;
    block = h.block;
    block_bytes = h.block_bytes;
    slots = h.slots;
    memory = h.memory;
    input = h.input;
    output = h.output;
    pages = h.pages;
  }

  read_shows : (w : World) (s : State) (rest : List ℕ) → ShowsState parts w s → ShowsState parts (record w { input = rest }) (record s { input = rest })
  read_shows w s rest h = record {
    variables = h.variables;
    registers = h.registers;
    icc = h.icc;
    y = h.y;
    windows = h.windows;
    block = h.block;
    block_bytes = h.block_bytes;
    slots = h.slots;
    memory = h.memory;
    input = refl;
    output = h.output;
    pages = h.pages;
  }

  pub gets_shows : (w : World) (s : State) → ShowsState parts w s → ShowsState parts (gets 8 w.input w) (flat_gets s.input s)
  gets_shows w s h = subst (λ (xs : List ℕ). ShowsState parts (gets 8 w.input w) (flat_gets xs s)) h.input (of w.input)
    where
      of : (xs : List ℕ) → ShowsState parts (gets 8 xs w) (flat_gets xs s)
      of [] = register_shows w s 8 (2 ^ 32 - 1) (omega arith) refl h
      of (byte ∷ rest) =
          (let u : World = record w { input = rest } in
          let t : State = record s { input = rest } in
          register_shows u t 8 byte (omega arith) refl (read_shows w s rest h))

  pub register_is : (w : World) (s : State) (r : ℕ) → r < 32 → ShowsState parts w s → slice_index w.variables r ≡ reg s r
  unfolding reg
  register_is w s r low h = sym (h.registers r low)

  pub puts_shows : (w : World) (s : State) → ShowsState parts w s → ShowsState parts (puts (slice_index w.variables 8) w) (flat_puts s)
  puts_shows w s h = record {
    variables = h.variables;
    registers = h.registers;
    icc = h.icc;
    y = h.y;
    windows = h.windows;
    block = h.block;
    block_bytes = h.block_bytes;
    slots = h.slots;
    memory = h.memory;
    input = h.input;
    output = ap (λ (x : ℕ). w.output ++ (x % 2 ^ 8) ∷ []) (register_is w s 8 (omega arith) h) ∙ ap (λ (xs : List ℕ). xs ++ (reg s 8 % 2 ^ 8) ∷ []) h.output;
    pages = h.pages;
  }

  -- ---- the words of a new frame are words

  number_small : (block : List ℕ) (place : ℕ) → ((k : ℕ) → slice_index block k < 2 ^ 8) → number_in block place 4 < 2 ^ 32
  number_small block place bytes =
      let a = bytes (place + 0) in
      let b = bytes (place + 1) in
      let c = bytes (place + 2) in
      let d = bytes (place + 3) in
      omega (arith, a, b, c, d)

  left_small : (w : World) (s : State) (n : ℕ) → IsWellFormed parts.stack_pages s → ShowsState parts w s → left_word w n < 2 ^ 32
  left_small w s n well h = by_test (nat_lt n 32) refl
    where
      by_test : (b : Bool) → nat_lt n 32 ≡ b → (if b then slice_index w.variables n else 0) < 2 ^ 32
      by_test true e =
          (let low : n < 32 = grind (arith, nat_tests) in
          subst (λ x. x < 2 ^ 32) (h.registers n low) (word_small s.registers n well.calls.words))
      by_test false e = omega arith

  pub fresh_are_words : (w : World) (s : State) → IsWellFormed parts.stack_pages s → ShowsState parts w s → IsFresh (fresh_words w)
  fresh_are_words w s well h = record {
    locals = λ n. left_small w s n well h;
    outs = λ n. left_small w s n well h;
    slots = λ a. number_small w.block (a - 0x80000) h.block_bytes;
  }
