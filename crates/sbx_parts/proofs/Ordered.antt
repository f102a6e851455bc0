-- Parts that keep every limit and order have their functions and blocks one after another.
use Rattle.std.proofs.Common.{◌≡◌, ℕ, zero, suc, ◌+◌, ◌-◌, ◌*◌, ◌/◌, ◌%◌, ◌<◌, ◌≤◌, Bool, true, false, List, [], ◌∷◌, length, Ok, refl, sym, ap, ◌∙◌, subst, arith}
use Rattle.std.specs.Prelude.{◌==◌, ◌&&◌, nat_lt, slice_get}
use Rattle.std.proofs.lemmas.Bool.Decides.{nat_tests}
use Rattle.std.proofs.lemmas.Option.{slice_get_past}
use Rattle.sbx_parts.specs.declared.order.Next.{Next}
use Rattle.sbx_parts.specs.declared.order.Next.TheVariants.{Exactly, Above}
use Rattle.sbx_parts.specs.declared.parts.Block.{Block}
use Rattle.sbx_parts.specs.declared.parts.Function.{Function}
use Rattle.sbx_parts.specs.declared.parts.Parts.{Parts}
use Rattle.sbx_parts.specs.Rules.{admits, each, FunctionsSoFar, code_start, block_keeps, function_keeps, parts_keep}
use Rattle.sbx_parts.specs.Order.{IsFunction, IsBlock, or_function, or_block, function_at, block_at, code_end, entry_or_end, address_or_end, function_end}
use Rattle.sbx_parts.specs.Order.{block_end, words_in, address_of, HasWords, AreInOrder, StandsAt, HasPlace, HavePlaces}
use Rattle.sbx_parts.proofs.Steps.{bind_ok, both_true, is_between}
use Rattle.sbx_parts.proofs.Limits.{block_kept, function_kept, parts_kept, words_within}

-- ---- numbers that rise

-- each of the first n numbers ends by the start of any later one
pub rises : (start : ℕ → ℕ) (n : ℕ) → ((k : ℕ) → k < n → start k < start (suc k)) → (i j : ℕ) → i < j → j ≤ n → start (suc i) ≤ start j
rises start n up i zero less most = absurd (omega arith)
rises start n up i (suc j) less most = by_next (λ before. rises start n up i j before (omega arith)) (nat_lt i j) refl
  where
    by_next : (i < j → start (suc i) ≤ start j) → (b : Bool) → nat_lt i j ≡ b → start (suc i) ≤ start (suc j)
    by_next before true e =
        let so_far : start (suc i) ≤ start j = before (grind (arith, nat_tests)) in
        let step : start j < start (suc j) = up j (omega arith) in
        omega arith
    by_next before false e = let same : i ≡ j = grind (arith, nat_tests) in subst (λ k. start (suc i) ≤ start (suc k)) same (omega arith)

-- the first is the least of them
pub first_is_least : (start : ℕ → ℕ) (n : ℕ) → ((k : ℕ) → k < n → start k < start (suc k)) → (i : ℕ) → i ≤ n → start 0 ≤ start i
first_is_least start n up zero most = omega arith
first_is_least start n up (suc i) most =
    let so_far : start 0 ≤ start i = first_is_least start n up i (omega arith) in
    let step : start i < start (suc i) = up i (omega arith) in
    omega arith

pub record Between (start : ℕ → ℕ) (a n : ℕ) : Type 0 where
  pub number : ℕ
  pub less : number < n
  pub low : start number ≤ a
  pub high : a < start (suc number)

-- a number from the first start on, below the n-th, is between two of them
pub between_two : (start : ℕ → ℕ) (a : ℕ) → start 0 ≤ a → (n : ℕ) → a < start n → Between start a n
between_two start a low zero high = absurd (omega arith)
between_two start a low (suc n) high = by_test (between_two start a low n) (nat_lt a (start n)) refl
  where
    by_test : (a < start n → Between start a n) → (b : Bool) → nat_lt a (start n) ≡ b → Between start a (suc n)
    by_test before true e =
        let found = before (grind (arith, nat_tests)) in
        let less = found.less in
        record { number = found.number; less = omega arith; low = found.low; high = found.high }
    by_test before false e = record { number = n; less = omega arith; low = grind (arith, nat_tests); high = high }

-- ---- what the checker's loops leave

-- whole words of the code so far, where the next address is the only one
IsFine : ℕ → Next → Type 0
IsFine end (Exactly a) = (code_start ≤ a) × (a % 4 ≡ 0) × (a < end)
IsFine end (Above a) = code_start ≤ a

record IsIn (end a : ℕ) : Type 0 where
  low : code_start ≤ a
  whole : a % 4 ≡ 0
  high : a < end

admitted : (end : ℕ) (next : Next) (a : ℕ) → IsFine end next → admits end next a ≡ true → IsIn end a
unfolding IsFine
admitted end (Exactly only) a fine e =
    let same : a ≡ only = grind (arith, nat_tests) in
    subst (IsIn end) (sym same) (record { low = fine.0; whole = fine.1; high = fine.2 })
admitted end (Above last) a fine e =
    let first = both_true (nat_lt last a) ((a % 4 == 0) && nat_lt a end) e in
    let others = both_true (a % 4 == 0) (nat_lt a end) first.1 in
    let past : last < a = (let x = first.0 in grind (arith, nat_tests)) in
    record { low = omega (arith, fine); whole = (let x = others.0 in grind (arith, nat_tests)); high = (let x = others.1 in grind (arith, nat_tests)) }

is_only : (end only a : ℕ) → admits end (Exactly only) a ≡ true → a ≡ only
is_only end only a e = grind (arith, nat_tests)

is_past : (end last a : ℕ) → admits end (Above last) a ≡ true → last < a
is_past end last a e = let x = (both_true (nat_lt last a) ((a % 4 == 0) && nat_lt a end) e).0 in grind (arith, nat_tests)

abbrev block_of : List Block → ℕ → Block
block_of bs b = or_block (slice_get bs b)

record BlockStands (end : ℕ) (bs : List Block) (out : Next) (b : ℕ) : Type 0 where
  is_in : IsIn end (block_of bs b).address
  next : suc b < length bs → (block_of bs b).address < (block_of bs (suc b)).address
  last : length bs ≡ suc b → out ≡ Above (block_of bs b).address

block_stands : (end : ℕ) (next : Next) (bs : List Block) (out : Next) → each (block_keeps end) next bs ≡ Ok out → IsFine end next → (b : ℕ) → b < length bs → BlockStands end bs out b
unfolding each IsFine
block_stands end next [] out e fine b less = absurd (omega arith)
block_stands end next (x ∷ []) out e fine zero less =
    let first = bind_ok (block_keeps end next x) (λ s. each (block_keeps end) s []) out e in
    let kept = block_kept end next x first.0 first.1 in
    let same : first.0 ≡ out = cc in
    record { is_in = admitted end next x.address fine kept.address; next = λ h. absurd (omega arith); last = λ h. sym (kept.state_is ∙ same) }
block_stands end next (x ∷ []) out e fine (suc b) less = absurd (omega arith)
block_stands end next (x ∷ y ∷ ys) out e fine zero less =
    let first = bind_ok (block_keeps end next x) (λ s. each (block_keeps end) s (y ∷ ys)) out e in
    let kept = block_kept end next x first.0 first.1 in
    let second = bind_ok (block_keeps end first.0 y) (λ s. each (block_keeps end) s ys) out first.2 in
    let then_kept = block_kept end first.0 y second.0 second.1 in
    record {
      is_in = admitted end next x.address fine kept.address;
      next = λ h. is_past end x.address y.address (subst (λ n. admits end n y.address ≡ true) (sym kept.state_is) then_kept.address);
      last = λ h. absurd (omega arith);
    }
block_stands end next (x ∷ y ∷ ys) out e fine (suc b) less =
    let first = bind_ok (block_keeps end next x) (λ s. each (block_keeps end) s (y ∷ ys)) out e in
    let kept = block_kept end next x first.0 first.1 in
    let x_in = admitted end next x.address fine kept.address in
    let s = block_stands end first.0 (y ∷ ys) out first.2 (subst (IsFine end) kept.state_is x_in.low) b (omega arith) in
    record { is_in = s.is_in; next = λ h. s.next (omega arith); last = λ h. s.last (omega arith) }

abbrev function_of : List Function → ℕ → Function
function_of fs f = or_function (slice_get fs f)

record FunctionStands (end : ℕ) (fs : List Function) (f : ℕ) : Type 0 where
  entry : IsIn end (function_of fs f).entry
  some : 1 ≤ length (function_of fs f).blocks
  out : Next
  blocks : each (block_keeps end) (Exactly (function_of fs f).entry) (function_of fs f).blocks ≡ Ok out
  next : suc f < length fs → admits end out (function_of fs (suc f)).entry ≡ true

-- the last block's address is one of the code
last_of : (n : ℕ) → 1 ≤ n → (k : ℕ) × (n ≡ suc k)
last_of zero some = absurd (omega arith)
last_of (suc k) some = (k, refl)

fine_after : (end : ℕ) (bs : List Block) (entry : ℕ) (out : Next) → 1 ≤ length bs → IsIn end entry → each (block_keeps end) (Exactly entry) bs ≡ Ok out → IsFine end out
unfolding IsFine
fine_after end bs entry out some entry_in blocks =
    let k = last_of (length bs) some in
    let stands = block_stands end (Exactly entry) bs out blocks (entry_in.low, entry_in.whole, entry_in.high) k.0 (omega (arith, k.1)) in
    subst (IsFine end) (sym (stands.last k.1)) stands.is_in.low

function_stands : (version end : ℕ) (place : FunctionsSoFar) (fs : List Function) (out : FunctionsSoFar) → each (function_keeps version end) place fs ≡ Ok out →
    IsFine end place.0 → (f : ℕ) → f < length fs → FunctionStands end fs f
unfolding each
function_stands version end place [] out e fine f less = absurd (omega arith)
function_stands version end place (x ∷ []) out e fine zero less =
    let first = bind_ok (function_keeps version end place x) (λ s. each (function_keeps version end) s []) out e in
    let kept = function_kept version end place x first.0 first.1 in
    record {
      entry = admitted end place.0 x.entry fine kept.entry;
      some = (is_between 1 (4096 - place.1) (length x.blocks) kept.block_count).0;
      out = kept.next;
      blocks = kept.blocks;
      next = λ h. absurd (omega arith);
    }
function_stands version end place (x ∷ []) out e fine (suc f) less = absurd (omega arith)
function_stands version end place (x ∷ y ∷ ys) out e fine zero less =
    let first = bind_ok (function_keeps version end place x) (λ s. each (function_keeps version end) s (y ∷ ys)) out e in
    let kept = function_kept version end place x first.0 first.1 in
    let second = bind_ok (function_keeps version end first.0 y) (λ s. each (function_keeps version end) s ys) out first.2 in
    let then_kept = function_kept version end first.0 y second.0 second.1 in
    record {
      entry = admitted end place.0 x.entry fine kept.entry;
      some = (is_between 1 (4096 - place.1) (length x.blocks) kept.block_count).0;
      out = kept.next;
      blocks = kept.blocks;
      next = λ h. subst (λ n. admits end n y.entry ≡ true) (sym kept.next_is) then_kept.entry;
    }
function_stands version end place (x ∷ y ∷ ys) out e fine (suc f) less =
    let first = bind_ok (function_keeps version end place x) (λ s. each (function_keeps version end) s (y ∷ ys)) out e in
    let kept = function_kept version end place x first.0 first.1 in
    let x_in = admitted end place.0 x.entry fine kept.entry in
    let s = function_stands version end first.0 (y ∷ ys) out first.2
    (subst (IsFine end) kept.next_is
    (fine_after end x.blocks x.entry kept.next (is_between 1 (4096 - place.1) (length x.blocks) kept.block_count).0 x_in kept.blocks)) f (omega arith) in
    record { entry = s.entry; some = s.some; out = s.out; blocks = s.blocks; next = λ h. s.next (omega arith) }

-- ---- where functions and blocks start, with the end as one more start

function_start : Parts → ℕ → ℕ
function_start parts f = entry_or_end (code_end parts) (slice_get parts.functions f)

block_start : Parts → ℕ → ℕ → ℕ
block_start parts f b = address_or_end (function_end parts f) (slice_get (function_at parts f).blocks b)

entry_there : (end : ℕ) (fs : List Function) (f : ℕ) → f < length fs → entry_or_end end (slice_get fs f) ≡ (function_of fs f).entry
entry_there end [] f less = absurd (omega arith)
entry_there end (x ∷ xs) zero less = refl
entry_there end (x ∷ xs) (suc f) less = entry_there end xs f (omega arith)

address_there : (end : ℕ) (bs : List Block) (b : ℕ) → b < length bs → address_or_end end (slice_get bs b) ≡ (block_of bs b).address
address_there end [] b less = absurd (omega arith)
address_there end (x ∷ xs) zero less = refl
address_there end (x ∷ xs) (suc b) less = address_there end xs b (omega arith)

module _ (parts : Parts) (keeps : parts_keep parts ≡ Ok tt) where
  functions : (f : ℕ) → IsFunction parts f → FunctionStands (code_end parts) parts.functions f
  unfolding IsFine
  functions f is =
      let kept = parts_kept parts keeps in
      let some = (words_within parts keeps).0 in
      function_stands parts.version (code_end parts) (Exactly code_start, 0) parts.functions kept.last kept.functions (omega arith, refl, omega arith) f is

  blocks : (f : ℕ) (is : IsFunction parts f) (b : ℕ) → b < length (function_at parts f).blocks → BlockStands (code_end parts) (function_at parts f).blocks (functions f is).out b
  unfolding IsFine
  blocks f is b less =
      let at = functions f is in
      block_stands (code_end parts) (Exactly (function_at parts f).entry) (function_at parts f).blocks at.out at.blocks (at.entry.low, at.entry.whole, at.entry.high) b less

  -- the first block of a function is at its entry
  first_block : (f : ℕ) → IsFunction parts f → (block_at parts f 0).address ≡ (function_at parts f).entry
  unfolding each
  first_block f is =
      let at = functions f is in
      by_blocks (function_at parts f).blocks (function_at parts f).entry at.out at.some at.blocks
    where
      by_blocks : (bs : List Block) (entry : ℕ) (out : Next) → 1 ≤ length bs → each (block_keeps (code_end parts)) (Exactly entry) bs ≡ Ok out → (block_of bs 0).address ≡ entry
      by_blocks [] entry out some e = absurd (omega arith)
      by_blocks (x ∷ xs) entry out some e =
          let first = bind_ok (block_keeps (code_end parts) (Exactly entry) x) (λ s. each (block_keeps (code_end parts)) s xs) out e in
          is_only (code_end parts) entry x.address (block_kept (code_end parts) (Exactly entry) x first.0 first.1).address

  -- a function's last block stands before the next function
  past_last : (f : ℕ) (is : IsFunction parts f) (b : ℕ) → length (function_at parts f).blocks ≡ suc b → (block_at parts f b).address < function_end parts f
  past_last f is b last = by_next (nat_lt (f + 1) (length parts.functions)) refl
    where
      at : FunctionStands (code_end parts) parts.functions f
      at = functions f is

      stands : BlockStands (code_end parts) (function_at parts f).blocks at.out b
      stands = blocks f is b (omega (arith, last))

      by_next : (t : Bool) → nat_lt (f + 1) (length parts.functions) ≡ t → (block_at parts f b).address < function_end parts f
      by_next true e =
          let less : f + 1 < length parts.functions = grind (arith, nat_tests) in
          let one : suc f ≡ f + 1 = omega arith in
          let admits_next : admits (code_end parts) at.out (function_at parts (suc f)).entry ≡ true = at.next (omega arith) in
          let past : (block_at parts f b).address < (function_at parts (suc f)).entry =
          is_past (code_end parts) (block_at parts f b).address (function_at parts (suc f)).entry
          (subst (λ n. admits (code_end parts) n (function_at parts (suc f)).entry ≡ true) (stands.last last) admits_next) in
          let there : function_end parts f ≡ (function_at parts (f + 1)).entry = entry_there (code_end parts) parts.functions (f + 1) less in
          let same : (function_at parts (suc f)).entry ≡ (function_at parts (f + 1)).entry = ap (λ k. (function_at parts k).entry) one in
          omega arith
      by_next false e =
          let most : length parts.functions ≤ f + 1 = grind (arith, nat_tests) in
          let there : function_end parts f ≡ code_end parts = ap (entry_or_end (code_end parts)) (slice_get_past parts.functions (f + 1) most) in
          let high = stands.is_in.high in
          omega arith

  block_up : (f : ℕ) → IsFunction parts f → (b : ℕ) → b < length (function_at parts f).blocks → block_start parts f b < block_start parts f (suc b)
  unfolding block_start
  block_up f is b less = by_next (nat_lt (suc b) (length (function_at parts f).blocks)) refl
    where
      here : block_start parts f b ≡ (block_at parts f b).address
      here = address_there (function_end parts f) (function_at parts f).blocks b less

      by_next : (t : Bool) → nat_lt (suc b) (length (function_at parts f).blocks) ≡ t → block_start parts f b < block_start parts f (suc b)
      by_next true e =
          let more : suc b < length (function_at parts f).blocks = grind (arith, nat_tests) in
          let there : block_start parts f (suc b) ≡ (block_at parts f (suc b)).address = address_there (function_end parts f) (function_at parts f).blocks (suc b) more in
          let up = (blocks f is b less).next more in
          let at = here in
          omega arith
      by_next false e =
          let most : length (function_at parts f).blocks ≤ suc b = grind (arith, nat_tests) in
          let there : block_start parts f (suc b) ≡ function_end parts f = ap (address_or_end (function_end parts f)) (slice_get_past (function_at parts f).blocks (suc b) most) in
          let past = past_last f is b (omega arith) in
          let at = here in
          omega arith

  -- ---- the same of functions

  block_ends : (f : ℕ) → IsFunction parts f → block_start parts f (length (function_at parts f).blocks) ≡ function_end parts f
  unfolding block_start
  block_ends f is = ap (address_or_end (function_end parts f)) (slice_get_past (function_at parts f).blocks (length (function_at parts f).blocks) (omega arith))

  block_is : (f : ℕ) (b : ℕ) → b < length (function_at parts f).blocks → block_start parts f b ≡ (block_at parts f b).address
  unfolding block_start
  block_is f b less = address_there (function_end parts f) (function_at parts f).blocks b less

  -- a block ends at or before the start of any later one, or the function's end
  blocks_rise : (f : ℕ) → IsFunction parts f → (b c : ℕ) → b < c → c ≤ length (function_at parts f).blocks → block_start parts f (suc b) ≤ block_start parts f c
  blocks_rise f is = rises (block_start parts f) (length (function_at parts f).blocks) (block_up f is)

  function_is : (f : ℕ) → IsFunction parts f → function_start parts f ≡ (function_at parts f).entry
  unfolding function_start
  function_is f is = entry_there (code_end parts) parts.functions f is

  function_ends : (f : ℕ) → function_start parts (suc f) ≡ function_end parts f
  unfolding function_start
  function_ends f = let one : suc f ≡ f + 1 = omega arith in ap (λ k. entry_or_end (code_end parts) (slice_get parts.functions k)) one

  first_is : (f : ℕ) → IsFunction parts f → block_start parts f 0 ≡ (function_at parts f).entry
  first_is f is = let some = (functions f is).some in block_is f 0 (omega arith) ∙ first_block f is

  from_entry : (f : ℕ) → IsFunction parts f → (b : ℕ) → b < length (function_at parts f).blocks → (function_at parts f).entry ≤ (block_at parts f b).address
  from_entry f is b less =
      let least = first_is_least (block_start parts f) (length (function_at parts f).blocks) (block_up f is) b (omega arith) in
      let first = first_is f is in
      let here = block_is f b less in
      omega arith

  to_end : (f : ℕ) → IsFunction parts f → (b : ℕ) → b < length (function_at parts f).blocks → block_start parts f (suc b) ≤ function_end parts f
  to_end f is b less =
      let last = blocks_rise f is b (length (function_at parts f).blocks) less (omega arith) in
      let ends = block_ends f is in
      omega arith

  function_up : (f : ℕ) → IsFunction parts f → function_start parts f < function_start parts (suc f)
  function_up f is =
      let some = (functions f is).some in
      let up = block_up f is 0 (omega arith) in
      let end = to_end f is 0 (omega arith) in
      let first = first_is f is in
      let here = function_is f is in
      let ends = function_ends f in
      omega arith

  functions_rise : (f g : ℕ) → f < g → g ≤ length parts.functions → function_start parts (suc f) ≤ function_start parts g
  functions_rise = rises (function_start parts) (length parts.functions) function_up

  -- ---- ends are ends of words of the code

  IsEnd : ℕ → Type 0
  IsEnd e = (e % 4 ≡ 0) × (e ≤ code_end parts)

  function_end_is : (f : ℕ) → IsFunction parts f → IsEnd (function_end parts f)
  unfolding IsEnd
  function_end_is f is = by_next (nat_lt (f + 1) (length parts.functions)) refl
    where
      by_next : (t : Bool) → nat_lt (f + 1) (length parts.functions) ≡ t → IsEnd (function_end parts f)
      by_next true e =
          let less : f + 1 < length parts.functions = grind (arith, nat_tests) in
          let entry = (functions (f + 1) less).entry in
          let there : function_end parts f ≡ (function_at parts (f + 1)).entry = entry_there (code_end parts) parts.functions (f + 1) less in
          let high = entry.high in
          subst IsEnd (sym there) (entry.whole, omega arith)
      by_next false e =
          let most : length parts.functions ≤ f + 1 = grind (arith, nat_tests) in
          let there : function_end parts f ≡ code_end parts = ap (entry_or_end (code_end parts)) (slice_get_past parts.functions (f + 1) most) in
          subst IsEnd (sym there) (omega arith, omega arith)

  block_end_is : (f : ℕ) → IsFunction parts f → (b : ℕ) → b < length (function_at parts f).blocks → IsEnd (block_start parts f (suc b))
  unfolding IsEnd
  block_end_is f is b less = by_next (nat_lt (suc b) (length (function_at parts f).blocks)) refl
    where
      by_next : (t : Bool) → nat_lt (suc b) (length (function_at parts f).blocks) ≡ t → IsEnd (block_start parts f (suc b))
      by_next true e =
          let more : suc b < length (function_at parts f).blocks = grind (arith, nat_tests) in
          let at = (blocks f is (suc b) more).is_in in
          let high = at.high in
          subst IsEnd (sym (block_is f (suc b) more)) (at.whole, omega arith)
      by_next false e =
          let same : suc b ≡ length (function_at parts f).blocks = (let most : length (function_at parts f).blocks ≤ suc b = grind (arith, nat_tests) in omega arith) in
          subst IsEnd (sym (ap (block_start parts f) same ∙ block_ends f is)) (function_end_is f is)

  end_is : (f b : ℕ) → block_end parts f b ≡ block_start parts f (suc b)
  unfolding block_start
  end_is f b = let one : b + 1 ≡ suc b = omega arith in ap (λ k. address_or_end (function_end parts f) (slice_get (function_at parts f).blocks k)) one

  -- ---- the law

  has_words : (f b : ℕ) → IsBlock parts f b → HasWords parts f b
  unfolding words_in address_of IsEnd
  has_words f b is =
      let at = (blocks f is.0 b is.1).is_in in
      let low : code_start ≤ (block_at parts f b).address = at.low in
      let whole : (block_at parts f b).address % 4 ≡ 0 = at.whole in
      let end_there : block_end parts f b ≡ block_start parts f (suc b) = end_is f b in
      let end = block_end_is f is.0 b is.1 in
      let end_whole : block_start parts f (suc b) % 4 ≡ 0 = end.0 in
      let end_high : block_start parts f (suc b) ≤ code_end parts = end.1 in
      let up = block_up f is.0 b is.1 in
      let here = block_is f b is.1 in
      record {
        some = omega arith;
        ends = omega arith;
        each = λ i less. (((block_at parts f b).address - code_start) / 4 + i, omega arith, omega arith);
      }

  first_at : (f b : ℕ) → address_of parts f b 0 ≡ (block_at parts f b).address
  unfolding address_of
  first_at f b = omega arith

-- the first function begins the code
begins : (version end count : ℕ) (fs : List Function) (out : FunctionsSoFar) → 1 ≤ length fs →
    each (function_keeps version end) (Exactly code_start, count) fs ≡ Ok out → (function_of fs 0).entry ≡ code_start
unfolding each
begins version end count [] out some e = absurd (omega arith)
begins version end count (x ∷ xs) out some e =
    let first = bind_ok (function_keeps version end (Exactly code_start, count) x) (λ s. each (function_keeps version end) s xs) out e in
    is_only end code_start x.entry (function_kept version end (Exactly code_start, count) x first.0 first.1).entry

pub in_order : (parts : Parts) → parts_keep parts ≡ Ok tt → AreInOrder parts
in_order parts keeps =
    let kept = parts_kept parts keeps in
    let some_function = (is_between 1 256 (length parts.functions) kept.function_count).0 in
    let first_function : IsFunction parts 0 = omega arith in
    let few = (words_within parts keeps).1 in
    let entry : (f : ℕ) → IsFunction parts f → IsBlock parts f 0 × ((function_at parts f).entry ≡ address_of parts f 0 0) =
    λ f is. ((is, (let some = (functions parts keeps f is).some in omega arith)), sym (first_at parts keeps f 0 ∙ first_block parts keeps f is)) in
    record {
      first = ((entry 0 first_function).0, sym (entry 0 first_function).1 ∙ begins parts.version (code_end parts) 0 parts.functions kept.last some_function kept.functions);
      entries = entry;
      blocks = has_words parts keeps;
      ascending = λ f b c before is.
          let rise = blocks_rise parts keeps f is.0 b c before (omega (arith, is.1)) in
          let end = end_is parts keeps f b in
          let there = block_is parts keeps f c is.1 in
          let first = first_at parts keeps f c in
          omega arith;
      functions = λ f g b c before is later.
          let end = end_is parts keeps f b in
          let last = to_end parts keeps f is.0 b is.1 in
          let ends = function_ends parts keeps f in
          let rise = functions_rise parts keeps f g before (omega (arith, later.0)) in
          let there = function_is parts keeps g later.0 in
          let from = from_entry parts keeps g later.0 c later.1 in
          let first = first_at parts keeps g c in
          omega arith;
      small = omega arith;
    }

-- ---- one place for each word

-- of two blocks that have an address, none ends before the other starts
record IsWithin (parts : Parts) (a f b : ℕ) : Type 0 where
  low : address_of parts f b 0 ≤ a
  high : a < block_end parts f b

within : (parts : Parts) → AreInOrder parts → (a f b i : ℕ) → StandsAt parts a f b i → IsWithin parts a f b
unfolding address_of
within parts order a f b i stands =
    let ends = (order.blocks f b stands.block).ends in
    let less = stands.word in
    let there = stands.there in
    record { low = omega arith; high = omega arith }

same_number : (P : Type 0) (a b : ℕ) → (a < b → P) → (b < a → P) → (a ≡ b → P) → P
same_number P a b less more same = by_order (nat_lt a b) (nat_lt b a) refl refl
  where
    by_order : (c d : Bool) → nat_lt a b ≡ c → nat_lt b a ≡ d → P
    by_order true d e f = less (grind (arith, nat_tests))
    by_order false true e f = more (grind (arith, nat_tests))
    by_order false false e f = same (let x : b ≤ a = grind (arith, nat_tests) in let y : a ≤ b = grind (arith, nat_tests) in omega arith)

only_one : (parts : Parts) → AreInOrder parts → (a f b i g c j : ℕ) → StandsAt parts a f b i → StandsAt parts a g c j → (g ≡ f) × (c ≡ b) × (j ≡ i)
unfolding address_of
only_one parts order a f b i g c j one other =
    same_number _ g f
    (λ less. let w = within parts order a g c j other in let e = order.functions g f c b less other.block one.block in absurd (omega arith))
    (λ more. let w = within parts order a g c j other in let h = here in let e = order.functions f g b c more one.block other.block in absurd (omega arith))
    (λ same.
    let there : StandsAt parts a f c j = subst (λ k. StandsAt parts a k c j) same other in
    same_number _ c b
    (λ less. let w = within parts order a f c j there in let e = order.ascending f c b less one.block in absurd (omega arith))
    (λ more. let w = within parts order a f c j there in let h = here in let e = order.ascending f b c more there.block in absurd (omega arith))
    (λ alike.
    let at : StandsAt parts a f b j = subst (λ k. StandsAt parts a f k j) alike there in
    let x = at.there in
    let y = one.there in
    (same, alike, omega arith)))
  where
    here : IsWithin parts a f b
    here = within parts order a f b i one

pub have_places : (parts : Parts) → parts_keep parts ≡ Ok tt → HavePlaces parts
unfolding address_of function_start
have_places parts keeps k less = holds_word
  where
    order : AreInOrder parts
    order = in_order parts keeps

    a : ℕ
    a = code_start + 4 * k

    in_function : Between (function_start parts) a (length parts.functions)
    in_function =
        let ends : function_start parts (length parts.functions) ≡ code_end parts = ap (entry_or_end (code_end parts)) (slice_get_past parts.functions (length parts.functions) (omega arith)) in
        let first = function_is parts keeps 0 order.first.0.0 in
        let begins_code = (order.entries 0 order.first.0.0).1 ∙ order.first.1 in
        between_two (function_start parts) a (omega arith) (length parts.functions) (omega arith)

    f : ℕ
    f = in_function.number

    in_block : Between (block_start parts f) a (length (function_at parts f).blocks)
    in_block =
        let low = in_function.low in
        let high = in_function.high in
        let ends = block_ends parts keeps f in_function.less in
        let function_ends_there = function_ends parts keeps f in
        let first = first_is parts keeps f in_function.less in
        let here = function_is parts keeps f in_function.less in
        between_two (block_start parts f) a (omega arith) (length (function_at parts f).blocks) (omega arith)

    b : ℕ
    b = in_block.number

    stands : StandsAt parts a f b ((a - (block_at parts f b).address) / 4)
    stands =
        let is : IsBlock parts f b = (in_function.less, in_block.less) in
        let at = (blocks parts keeps f in_function.less b in_block.less).is_in in
        let whole : (block_at parts f b).address % 4 ≡ 0 = at.whole in
        let here = block_is parts keeps f b in_block.less in
        let low = in_block.low in
        let high = in_block.high in
        let end = end_is parts keeps f b in
        let words = order.blocks f b is in
        let ends : (block_at parts f b).address + 4 * words_in parts f b ≡ block_end parts f b = words.ends in
        record { block = is; word = omega arith; there = omega arith }

    holds_word : HasPlace parts a
    holds_word = record { function = f; block = b; word = (a - (block_at parts f b).address) / 4; there = stands; only = λ g c j other. only_one parts order a f b _ g c j stands other }
