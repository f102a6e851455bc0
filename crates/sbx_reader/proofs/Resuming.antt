-- Reading on behind a whole item tells what reading from the start tells, whatever comes behind the bytes.
use Rattle.std.proofs.Common.{◌≡◌, ◌≢◌, ℕ, zero, suc, ◌+◌, ◌-◌, ◌*◌, ◌≤◌, ◌<◌, Bool, true, false, List, [], ◌∷◌, ◌++◌, length, take, drop, Option, None, Result}
use Rattle.std.proofs.Common.{Ok, Err, refl, sym, subst, ◌∙◌, arith, inl, inr}
use Rattle.std.specs.Prelude.{◌==◌}
use Rattle.std.specs.Int.{w32, byte_len, from_be_bytes}
use Rattle.std.proofs.lemmas.Bool.{cases_lt, lt-ltb, le-ltb, ne_eqb, eqb-false}
use Rattle.std.proofs.lemmas.List.{append-nil, length-append, length-drop, drop-drop, nil_from_length, take_all}
use Rattle.sbx_image.specs.ImageFault.{ImageFault}
use Rattle.sbx_image.specs.ImageFault.TheVariants as fault
use Rattle.sbx_image.specs.Next.{Next}
use Rattle.sbx_image.specs.Next.TheVariants.{Exactly}
use Rattle.sbx_image.specs.Block.{Block}
use Rattle.sbx_image.specs.Function.{Function}
use Rattle.sbx_image.specs.Range.{Range}
use Rattle.sbx_image.specs.Parts.{Parts}
use Rattle.sbx_image.specs.Region.{Region}
use Rattle.sbx_image.specs.declared.heads.Header.{Header}
use Rattle.sbx_image.specs.declared.heads.Shape.{Shape}
use Rattle.sbx_image.specs.declared.heads.FunctionHead.{FunctionHead}
use Rattle.sbx_image.specs.Rules.{◌>>=◌, wants, FunctionsSoFar, code_start}
use Rattle.sbx_image.specs.Reading.{number_at, bytes_at, items_at, range_at, block_at, function_head_at, function_at, header_at, shapes_at, shape_bytes, regions_at, parts_at, reading}
use Rattle.want.specs.Wants.{refused}
use Rattle.sbx_reader.specs.declared.stages.Stage.{Stage}
use Rattle.sbx_reader.specs.declared.stages.Stage.TheVariants.{Front, Body, Functions, Blocks}
use Rattle.sbx_reader.specs.Fronts.{lasting, told, front}
use Rattle.sbx_reader.specs.Stages.{functions_end, rest_of, lasting_of, IsWhole, IsItem, GoesOn, IsResumed}
use Rattle.sbx_reader.proofs.Lasting.{Lasts, done_lasts, then_lasts, ranges_last, block_lasts, function_head_lasts, header_lasts, shapes_last, bytes_last}
use Rattle.sbx_reader.proofs.Leaving.{Leaves, done_leaves, then_leaves, bytes_leave, ranges_leave, block_leaves, function_head_leaves, header_leaves, shapes_leave, behind_drop}

pub then_then : {A B C : Type 0} (r : Result A ImageFault) (f : A → Result B ImageFault) (g : B → Result C ImageFault) → ((r >>= f) >>= g) ≡ (r >>= λ x. f x >>= g)
then_then (Ok x) f g = refl
then_then (Err e) f g = refl

pub lasting_err : (e : ImageFault) → e ≢ fault.Short → lasting e ≡ Err e
lasting_err fault.Short ne = absurd (ne refl)
lasting_err fault.Magic ne = refl
lasting_err fault.Version ne = refl
lasting_err fault.Service ne = refl
lasting_err fault.Limit ne = refl
lasting_err fault.Trailing ne = refl
lasting_err fault.Order ne = refl
lasting_err fault.Range ne = refl
lasting_err (fault.Memory want) ne = refl

-- an item, and those behind it
abbrev joined : {A C : Type 0} → A → List A × C → Result (List A × C) ImageFault
joined first others = Ok (first ∷ others.0, others.1)

-- ---- an item, whatever it is

abbrev rest_at : {H : Type 0} → H × List ℕ → List ℕ
rest_at x = x.1

-- What comes first at a stage: it is read, and the rest is that of the next stage; it stays the same before more bytes, and takes a byte or more.
pub record Reads {H : Type 0} (stage : Stage) (next : H → Stage) (item : List ℕ → Result (H × List ℕ) ImageFault) : Type 0 where
  pub same : (bytes : List ℕ) → rest_of stage bytes ≡ (item bytes >>= λ x. rest_of (next x.0) x.1)
  pub lasts : (more bytes : List ℕ) → Lasts (λ x. (x.0, x.1 ++ more)) (item bytes) (item (bytes ++ more))
  pub leaves : (bytes : List ℕ) → Leaves 1 rest_at bytes (item bytes)

pub whole_ok : {H : Type 0} (stage : Stage) (next : H → Stage) (item : List ℕ → Result (H × List ℕ) ImageFault) → Reads stage next item
    → (bytes : List ℕ) (h : H) (rest : List ℕ) (count : ℕ) → item bytes ≡ Ok (h, rest) → count ≡ length bytes - length rest → IsWhole stage bytes (Ok (next h, count))
whole_ok stage next item reads bytes h rest count e n =
    let left = behind_drop 1 bytes rest (reads.leaves bytes (h, rest) e) in (
      omega (arith, left.0, n),
      omega (arith, left.0, n),
      λ more. rw (reads.same (bytes ++ more), (reads.lasts more bytes).ok (h, rest) e, n, left.1) refl,
    )

pub whole_err : {H : Type 0} (stage : Stage) (next : H → Stage) (item : List ℕ → Result (H × List ℕ) ImageFault) → Reads stage next item
    → (bytes : List ℕ) (e : ImageFault) → (e ≢ fault.Memory refused → item bytes ≡ Err e) → IsWhole stage bytes (Err e)
whole_err stage next item reads bytes e p kept = (
  λ short. let q : item bytes ≡ Err fault.Short = rw (sym short) (p kept) in rw (reads.same bytes, q) refl,
  λ ne more. rw (reads.same (bytes ++ more), (reads.lasts more bytes).err e ne (p kept)) (lasting_err e ne),
)

-- ---- a block

abbrev placed : Block × (Next × List ℕ) → Result (Next × List ℕ) ImageFault
placed x = Ok x.1

-- a block, as where the next one may lie
unfoldable pub block_item : ℕ → Next → List ℕ → Result (Next × List ℕ) ImageFault
block_item end next bytes = block_at end (next, bytes) >>= placed

block_then : (version end left total n : ℕ) (next : Next) (bytes : List ℕ)
    → rest_of (Blocks version end left next total (suc n)) bytes ≡ (block_item end next bytes >>= λ x. rest_of (Blocks version end left x.0 total n) x.1)
unfolding rest_of items_at block_item
block_then version end left total n next bytes = cases (block_at end (next, bytes)) where
  cases : (r : Result (Block × (Next × List ℕ)) ImageFault) →
      ((r >>= λ first. items_at (block_at end) n first.1 >>= joined first.0) >>= λ read. functions_end version end left (read.1.0, total) read.1.1)
      ≡ ((r >>= placed) >>= λ x. items_at (block_at end) n (x.0, x.1) >>= λ read. functions_end version end left (read.1.0, total) read.1.1)
  cases (Ok b) = then_then (items_at (block_at end) n b.1) (joined b.0) (λ read. functions_end version end left (read.1.0, total) read.1.1)
  cases (Err e) = refl

pub block_reads : (version end left total n : ℕ) (next : Next) → Reads (Blocks version end left next total (suc n)) (λ x. Blocks version end left x total n) (block_item end next)
unfolding block_item
block_reads version end left total n next = record {
  same = block_then version end left total n next;
  lasts = λ more bytes. then_lasts _ _ _ _ _ (block_lasts more end (next, bytes)) (λ x. done_lasts _ _);
  leaves = λ bytes. then_leaves 1 (λ x. x.1.1) rest_at bytes _ _ (block_leaves end next bytes) (λ x. done_leaves rest_at x.1);
}

pub block_ok : (end : ℕ) (next : Next) (bytes : List ℕ) (x : Block × (Next × List ℕ)) → block_at end (next, bytes) ≡ Ok x → block_item end next bytes ≡ Ok x.1
unfolding block_item
block_ok end next bytes x e = rw e refl

pub block_err : (end : ℕ) (next : Next) (bytes : List ℕ) (e : ImageFault) → block_at end (next, bytes) ≡ Err e → block_item end next bytes ≡ Err e
unfolding block_item
block_err end next bytes e p = rw p refl

no_blocks : (version end left total : ℕ) (next : Next) (bytes : List ℕ) → rest_of (Functions version end left next total) bytes ≡ rest_of (Blocks version end left next total 0) bytes
unfolding rest_of items_at
no_blocks version end left total next bytes = refl

-- What is whole at a stage is whole at one that reads alike.
alike : (one other : Stage) → ((bytes : List ℕ) → rest_of one bytes ≡ rest_of other bytes) → (bytes : List ℕ) (r : Result (Stage × ℕ) ImageFault) → IsWhole one bytes r → IsWhole other bytes r
alike one other same bytes (Ok x) p = (p.0, p.1, λ more. sym (same (bytes ++ more)) ∙ p.2 more)
alike one other same bytes (Err e) p = λ kept. (λ short. rw (sym (same bytes)) ((p kept).0 short), λ ne more. rw (sym (same (bytes ++ more))) ((p kept).1 ne more))

pub last_block : (version end left total blocks : ℕ) (next : Next) (stage : Stage) (bytes : List ℕ) (r : Result (Stage × ℕ) ImageFault) → stage ≡ Blocks version end left next total blocks → blocks ≡ 0
    → IsWhole (Functions version end left next total) bytes r → IsWhole stage bytes r
last_block version end left total blocks next stage bytes r is none p =
    rw (is, none) (alike (Functions version end left next total) (Blocks version end left next total 0) (no_blocks version end left total next) bytes r p)

-- ---- a function's head and ranges

then_1 : {B F Z : Type 0} (b : Result B ImageFault) (made : B → F) (k : F → Result Z ImageFault) → ((b >>= λ w. Ok (made w)) >>= k) ≡ (b >>= λ w. k (made w))
then_1 (Ok w) made k = refl
then_1 (Err e) made k = refl

then_2 : {R B F Z : Type 0} (r : Result R ImageFault) (b : R → Result B ImageFault) (made : R → B → F) (k : F → Result Z ImageFault)
    → ((r >>= λ z. b z >>= λ w. Ok (made z w)) >>= k) ≡ (r >>= λ z. b z >>= λ w. k (made z w))
then_2 (Ok z) b made k = then_1 (b z) (made z) k
then_2 (Err e) b made k = refl

then_3 : {P R B F Z : Type 0} (p : Result P ImageFault) (r : P → Result R ImageFault) (b : P → R → Result B ImageFault) (made : P → R → B → F) (k : F → Result Z ImageFault)
    → ((p >>= λ y. r y >>= λ z. b y z >>= λ w. Ok (made y z w)) >>= k) ≡ (p >>= λ y. r y >>= λ z. b y z >>= λ w. k (made y z w))
then_3 (Ok y) r b made k = then_2 (r y) (b y) (made y) k
then_3 (Err e) r b made k = refl

then_4 : {H P R B F Z : Type 0} (h : Result H ImageFault) (p : H → Result P ImageFault) (r : H → P → Result R ImageFault) (b : H → P → R →
    Result B ImageFault) (made : H → P → R → B → F) (k : F → Result Z ImageFault)
    → ((h >>= λ x. p x >>= λ y. r x y >>= λ z. b x y z >>= λ w. Ok (made x y z w)) >>= k) ≡ (h >>= λ x. p x >>= λ y. r x y >>= λ z. b x y z >>= λ w. k (made x y z w))
then_4 (Ok x) p r b made k = then_3 (p x) (r x) (b x) (made x) k
then_4 (Err e) p r b made k = refl

then_5 : {G H P R B F Z : Type 0} (g : Result G ImageFault) (h : G → Result H ImageFault) (p : G → H → Result P ImageFault) (r : G → H → P →
    Result R ImageFault) (b : G → H → P → R → Result B ImageFault) (made : G → H → P → R → B → F) (k : F → Result Z ImageFault)
    → ((g >>= λ v. h v >>= λ x. p v x >>= λ y. r v x y >>= λ z. b v x y z >>= λ w. Ok (made v x y z w)) >>= k) ≡
    (g >>= λ v. h v >>= λ x. p v x >>= λ y. r v x y >>= λ z. b v x y z >>= λ w. k (made v x y z w))
then_5 (Ok v) h p r b made k = then_4 (h v) (p v) (r v) (b v) (made v) k
then_5 (Err e) h p r b made k = refl

functions_then : (version end left : ℕ) (place : FunctionsSoFar) (bytes : List ℕ)
    → functions_end version end (suc left) place bytes ≡ (function_at version end (place, bytes) >>= λ f. functions_end version end left f.1.0 f.1.1)
unfolding functions_end items_at
functions_then version end left place bytes = cases (function_at version end (place, bytes)) where
  cases : (r : Result (Function × (FunctionsSoFar × List ℕ)) ImageFault)
      → ((r >>= λ first. items_at (function_at version end) left first.1 >>= joined first.0) >>= λ functions. wants (length functions.1.1 == 0) fault.Trailing)
      ≡ (r >>= λ f. items_at (function_at version end) left f.1 >>= λ functions. wants (length functions.1.1 == 0) fault.Trailing)
  cases (Ok f) = then_then (items_at (function_at version end) left f.1) (joined f.0) (λ functions. wants (length functions.1.1 == 0) fault.Trailing)
  cases (Err e) = refl

-- a head and its ranges, as the head
unfoldable pub function_item : ℕ → ℕ → FunctionsSoFar → List ℕ → Result (FunctionHead × List ℕ) ImageFault
function_item version end place bytes = do
  head ← function_head_at version end place bytes
  params ← items_at range_at head.0.params head.1
  results ← items_at range_at head.0.results params.1
  Ok (head.0, results.1)

-- head and ranges first, and then as many blocks as the head says
function_then : (version end left total : ℕ) (next : Next) (bytes : List ℕ)
    → rest_of (Functions version end (suc left) next total) bytes
    ≡ (function_head_at version end (next, total) bytes >>= λ h. items_at range_at h.0.params h.1 >>= λ p. items_at range_at h.0.results p.1 >>= λ r. rest_of
    (Blocks version end left (Exactly h.0.entry) (total + h.0.blocks) h.0.blocks) r.1)
unfolding rest_of function_at
function_then version end left total next bytes = functions_then version end left (next, total) bytes ∙
    then_4 {H = FunctionHead × List ℕ} {P = List Range × List ℕ} {R = List Range × List ℕ} {B = List Block × (Next × List ℕ)} {F = Function × (FunctionsSoFar × List ℕ)}
    (function_head_at version end (next, total) bytes) (λ x. items_at range_at x.0.params x.1) (λ x y. items_at range_at x.0.results y.1)
    (λ x y z. items_at (block_at end) x.0.blocks (Exactly x.0.entry, z.1))
    (λ x y z w. (
      record {
        kind = x.0.kind;
        params = y.0;
        results = z.0;
        entry = x.0.entry;
        frame = x.0.frame;
        stack_room = x.0.stack_room;
        budget =
            x.0.budget;
        depth = x.0.depth;
        blocks = w.0;
      },
      ((w.1.0, total + x.0.blocks), w.1.1),
    ))
    (λ x. functions_end version end left x.1.0 x.1.1)

pub function_reads : (version end left total : ℕ) (next : Next) →
    Reads (Functions version end (suc left) next total) (λ h. Blocks version end left (Exactly h.entry) (total + h.blocks) h.blocks)
    (function_item version end (next, total))
unfolding function_item
function_reads version end left total next = record {
  same = λ bytes. function_then version end left total next bytes ∙ sym
      (then_3 {P = FunctionHead × List ℕ} {R = List Range × List ℕ} {B = List Range × List ℕ} {F = FunctionHead × List ℕ}
      (function_head_at version end (next, total) bytes) (λ x. items_at range_at x.0.params x.1) (λ x y. items_at range_at x.0.results y.1) (λ x y z. (x.0, z.1))
      (λ x. rest_of (Blocks version end left (Exactly x.0.entry) (total + x.0.blocks) x.0.blocks) x.1));
  lasts = λ more bytes.
      then_lasts _ _ _ _ _ (function_head_lasts more version end (next, total) bytes) (λ head.
      then_lasts _ _ _ _ _ (ranges_last more head.0.params head.1) (λ params.
      then_lasts _ _ _ _ _ (ranges_last more head.0.results params.1) (λ results. done_lasts _ _)));
  leaves = λ bytes.
      then_leaves 1 rest_at rest_at bytes _ _ (function_head_leaves version end (next, total) bytes) (λ head.
      then_leaves 0 rest_at rest_at head.1 _ _ (ranges_leave head.0.params head.1) (λ params.
      then_leaves 0 rest_at rest_at params.1 _ _ (ranges_leave head.0.results params.1) (λ results. done_leaves rest_at _)));
}

pub function_ok : (version end : ℕ) (place : FunctionsSoFar) (bytes : List ℕ) (h : FunctionHead × List ℕ) (p r : List Range × List ℕ)
    → function_head_at version end place bytes ≡ Ok h → items_at range_at h.0.params h.1 ≡ Ok p → items_at range_at h.0.results p.1 ≡ Ok r → function_item version end place bytes ≡ Ok (h.0, r.1)
unfolding function_item
function_ok version end place bytes h p r eh ep er = rw (eh, ep, er) refl

pub head_err : (version end : ℕ) (place : FunctionsSoFar) (bytes : List ℕ) (e : ImageFault) → function_head_at version end place bytes ≡ Err e → function_item version end place bytes ≡ Err e
unfolding function_item
head_err version end place bytes e p = rw p refl

pub params_err : (version end : ℕ) (place : FunctionsSoFar) (bytes : List ℕ) (h : FunctionHead × List ℕ) (e : ImageFault)
    → function_head_at version end place bytes ≡ Ok h → items_at range_at h.0.params h.1 ≡ Err e → function_item version end place bytes ≡ Err e
unfolding function_item
params_err version end place bytes h e eh p = rw (eh, p) refl

pub results_err : (version end : ℕ) (place : FunctionsSoFar) (bytes : List ℕ) (h : FunctionHead × List ℕ) (q : List Range × List ℕ) (e : ImageFault)
    → function_head_at version end place bytes ≡ Ok h → items_at range_at h.0.params h.1 ≡ Ok q → items_at range_at h.0.results q.1 ≡ Err e → function_item version end place bytes ≡ Err e
unfolding function_item
results_err version end place bytes h q e eh eq p = rw (eh, eq, p) refl

-- Behind the last function the bytes end.
pub ends_here : (version end left total : ℕ) (next : Next) (bytes : List ℕ) → left ≡ 0 → length bytes ≡ 0 → IsWhole (Functions version end left next total) bytes (Err fault.Short)
unfolding rest_of functions_end items_at
ends_here version end left total next bytes none empty kept =
    (λ short. rw (none, nil_from_length bytes empty) refl, λ ne more. absurd (ne refl))

pub more_behind : (version end left total : ℕ) (next : Next) (bytes : List ℕ) → left ≡ 0 → (length bytes == 0) ≡ false → IsWhole (Functions version end left next total) bytes (Err fault.Trailing)
unfolding rest_of functions_end items_at
more_behind version end left total next bytes none some kept =
    (λ short. absurd cc, λ ne more. rw (none, ne_eqb (length (bytes ++ more)) 0 (λ e. eqb-false (length bytes) 0 some (omega (arith, e, length-append bytes more)))) refl)

-- ---- header, lengths and kinds

tested : (b : Bool) (parts : Parts) → ((wants b fault.Trailing >>= λ _. Ok parts) >>= λ _. Ok tt) ≡ wants b fault.Trailing
tested true parts = refl
tested false parts = refl

closed : (r : Result (Parts × List ℕ) ImageFault)
    → ((r >>= λ parts. wants (length parts.1 == 0) fault.Trailing >>= λ _. Ok parts.0) >>= λ _. Ok tt) ≡ (r >>= λ parts. wants (length parts.1 == 0) fault.Trailing)
closed (Ok x) = tested (length x.1 == 0) x.0
closed (Err e) = refl

front_then : (bytes : List ℕ)
    → rest_of Front bytes
    ≡ (header_at bytes >>= λ h. shapes_at h.0 h.1 >>= λ s. items_at (number_at w32) h.0.words s.1 >>= λ w. regions_at s.0 w.1 >>= λ d. rest_of
    (Functions h.0.version (code_start + 4 * h.0.words) h.0.functions (Exactly code_start) 0) d.1)
unfolding rest_of reading parts_at functions_end
front_then bytes = closed (parts_at bytes) ∙
    then_5 {G = Header × List ℕ} {H = List Shape × List ℕ} {P = List ℕ × List ℕ} {R = List Region × List ℕ} {B = List Function × (FunctionsSoFar × List ℕ)} {F = Parts × List ℕ}
    (header_at bytes) (λ v. shapes_at v.0 v.1) (λ v x. items_at (number_at w32) v.0.words x.1) (λ v x y. regions_at x.0 y.1)
    (λ v x y z. items_at (function_at v.0.version (code_start + 4 * v.0.words)) v.0.functions ((Exactly code_start, 0), z.1))
    (λ v x y z w. (record { version = v.0.version; services = v.0.services; words = y.0; regions = z.0; stack_pages = v.0.stack_pages; functions = w.0 }, w.1.1))
    (λ x. wants (length x.1 == 0) fault.Trailing)

-- Words have no faults of their own.
words_skip : (n : ℕ) (bytes : List ℕ) → 4 * n ≤ length bytes → (words : List ℕ) × (items_at (number_at w32) n bytes ≡ Ok (words, drop (4 * n) bytes))
unfolding items_at
words_skip zero bytes le = ([], refl)
words_skip (suc n) bytes le =
    let first : byte_len w32 ≤ length bytes = omega arith in
    let rest : 4 * n ≤ length (drop 4 bytes) = omega (arith, length-drop 4 bytes) in
    let others = words_skip n (drop 4 bytes) rest in
    let count : 4 * suc n ≡ 4 + 4 * n = omega arith in
    (from_be_bytes w32 (take (byte_len w32) bytes) ∷ others.0, rw (le-ltb _ _ first, others.1, drop-drop (4 * n) 4 bytes, count) refl)

words_lack : (n : ℕ) (bytes : List ℕ) → length bytes < 4 * n → items_at (number_at w32) n bytes ≡ Err fault.Short
unfolding items_at
words_lack zero bytes lt = absurd (omega (arith, lt))
words_lack (suc n) bytes lt =
    elim (cases_lt (length bytes) (byte_len w32)) [
      | inl short ↦ rw (lt-ltb _ _ short) refl
      | inr le ↦
          let rest : length (drop 4 bytes) < 4 * n = omega (arith, lt, le, length-drop 4 bytes) in
          rw (le-ltb _ _ le, words_lack n (drop 4 bytes) rest) refl
    ]

-- Nor do a region's bytes.
regions_skip : (shapes : List Shape) (bytes : List ℕ) → shape_bytes shapes ≤ length bytes → (regions : List Region) × (regions_at shapes bytes ≡ Ok (regions, drop (shape_bytes shapes) bytes))
unfolding regions_at
regions_skip [] bytes le = ([], refl)
regions_skip (s ∷ shapes) bytes le =
    let first : s.bytes ≤ length bytes = omega (arith, le) in
    let others = regions_skip shapes (drop s.bytes bytes) (omega (arith, le, length-drop s.bytes bytes)) in
    (record { bytes = take s.bytes bytes; writable = s.writable } ∷ others.0, rw (le-ltb _ _ first, others.1, drop-drop (shape_bytes shapes) s.bytes bytes) refl)

regions_lack : (shapes : List Shape) (bytes : List ℕ) → length bytes < shape_bytes shapes → regions_at shapes bytes ≡ Err fault.Short
unfolding regions_at
regions_lack [] bytes lt = absurd (omega (arith, lt))
regions_lack (s ∷ shapes) bytes lt =
    elim (cases_lt (length bytes) s.bytes) [
      | inl short ↦ rw (lt-ltb _ _ short) refl
      | inr le ↦ rw (le-ltb _ _ le, regions_lack shapes (drop s.bytes bytes) (omega (arith, lt, le, length-drop s.bytes bytes))) refl
    ]

-- So they are so many bytes.
body_then : (n : ℕ) (shapes : List Shape) (version end left : ℕ) (bytes : List ℕ)
    → (items_at (number_at w32) n bytes >>= λ w. regions_at shapes w.1 >>= λ d. rest_of (Functions version end left (Exactly code_start) 0) d.1) ≡
    rest_of (Body (4 * n + shape_bytes shapes) version end left) bytes
unfolding rest_of
body_then n shapes version end left bytes =
    elim (cases_lt (length bytes) (4 * n + shape_bytes shapes)) [
      | inl lacks ↦
          elim (cases_lt (length bytes) (4 * n)) [
            | inl few ↦ rw (words_lack n bytes few, lt-ltb _ _ lacks) refl
            | inr le ↦
                let words = words_skip n bytes le in
                let lack : length (drop (4 * n) bytes) < shape_bytes shapes = omega (arith, lacks, le, length-drop (4 * n) bytes) in
                rw (words.1, regions_lack shapes (drop (4 * n) bytes) lack, lt-ltb _ _ lacks) refl
          ]
      | inr le ↦
          let words = words_skip n bytes (omega (arith, le)) in
          let regions = regions_skip shapes (drop (4 * n) bytes) (omega (arith, le, length-drop (4 * n) bytes)) in
          rw (words.1, regions.1, le-ltb _ _ le, drop-drop (shape_bytes shapes) (4 * n) bytes) refl
    ]

-- header, lengths and kinds
unfoldable pub front_item : List ℕ → Result ((Header × List Shape) × List ℕ) ImageFault
front_item bytes = do
  header ← header_at bytes
  shapes ← shapes_at header.0 header.1
  Ok ((header.0, shapes.0), shapes.1)

abbrev after_front : Header × List Shape → Stage
after_front h = Body (4 * h.0.words + shape_bytes h.1) h.0.version (code_start + 4 * h.0.words) h.0.functions

then_same : {X Y : Type 0} (r : Result X ImageFault) (f g : X → Result Y ImageFault) → ((x : X) → f x ≡ g x) → (r >>= f) ≡ (r >>= g)
then_same (Ok x) f g h = h x
then_same (Err e) f g h = refl

pub front_reads : Reads Front after_front front_item
unfolding front_item
front_reads = record {
  same = λ bytes. front_then bytes
      ∙ then_same (header_at bytes) _ _ (λ h. then_same (shapes_at h.0 h.1) _ _ (λ s. body_then h.0.words s.0 h.0.version (code_start + 4 * h.0.words) h.0.functions s.1))
      ∙ sym
      (then_2 {R = Header × List ℕ} {B = List Shape × List ℕ} {F = (Header × List Shape) × List ℕ}
      (header_at bytes) (λ x. shapes_at x.0 x.1) (λ x y. ((x.0, y.0), y.1)) (λ x. rest_of (after_front x.0) x.1));
  lasts = λ more bytes.
      then_lasts _ _ _ _ _ (header_lasts more bytes) (λ header.
      then_lasts _ _ _ _ _ (shapes_last more header.0 header.1) (λ shapes. done_lasts _ _));
  leaves = λ bytes.
      then_leaves 1 rest_at rest_at bytes _ _ (header_leaves bytes) (λ header.
      then_leaves 0 rest_at rest_at header.1 _ _ (shapes_leave header.0 header.1) (λ shapes. done_leaves rest_at _));
}

pub front_ok : (bytes : List ℕ) (h : Header) (behind : List ℕ) (shapes : List Shape) (rest : List ℕ) → header_at bytes ≡ Ok (h, behind) →
    shapes_at h behind ≡ Ok (shapes, rest) → front_item bytes ≡ Ok ((h, shapes), rest)
unfolding front_item
front_ok bytes h behind shapes rest e s = rw (e, s) refl

pub front_err : (bytes : List ℕ) (e : ImageFault) → header_at bytes ≡ Err e → front_item bytes ≡ Err e
unfolding front_item
front_err bytes e p = rw p refl

pub shapes_err : (bytes : List ℕ) (h : Header) (behind : List ℕ) (e : ImageFault) → header_at bytes ≡ Ok (h, behind) → shapes_at h behind ≡ Err e → front_item bytes ≡ Err e
unfolding front_item
shapes_err bytes h behind e eh p = rw (eh, p) refl

-- ---- words and data

body_reads : (count version end left : ℕ) → 0 < count → Reads (Body count version end left) (λ _. Functions version end left (Exactly code_start) 0) (bytes_at count)
unfolding rest_of
body_reads count version end left some = record {
  same = λ bytes. refl;
  lasts = λ more bytes. bytes_last more count bytes;
  leaves = λ bytes. bytes_leave 1 count (omega (arith, some)) bytes;
}

pub body_lacks : (count version end left : ℕ) (bytes : List ℕ) → 0 < count → length bytes < count → IsWhole (Body count version end left) bytes (Err fault.Short)
body_lacks count version end left bytes some lt = whole_err _ _ _ (body_reads count version end left some) bytes fault.Short (λ _. rw (lt-ltb _ _ lt) refl)

pub body_whole : (count version end left : ℕ) (bytes : List ℕ) → 0 < count → count ≤ length bytes →
    IsWhole (Body count version end left) bytes (Ok (Functions version end left (Exactly code_start) 0, count))
body_whole count version end left bytes some le =
    whole_ok _ _ _ (body_reads count version end left some) bytes (take count bytes) (drop count bytes) count (rw (le-ltb _ _ le) refl) (omega (arith, le, length-drop count bytes))

no_body : (version end left : ℕ) (bytes : List ℕ) → rest_of (Functions version end left (Exactly code_start) 0) bytes ≡ rest_of (Body 0 version end left) bytes
unfolding rest_of
no_body version end left bytes = let none : 0 ≤ length bytes = omega arith in rw (le-ltb _ _ none) refl

pub behind_body : (count version end left : ℕ) (stage : Stage) (bytes : List ℕ) (r : Result (Stage × ℕ) ImageFault) → stage ≡ Body count version end left → count ≡ 0
    → IsWhole (Functions version end left (Exactly code_start) 0) bytes r → IsWhole stage bytes r
behind_body count version end left stage bytes r is none p =
    rw (is, none) (alike (Functions version end left (Exactly code_start) 0) (Body 0 version end left) (no_body version end left) bytes r p)

-- ---- from a stage on

-- at the start
starts : (r : Result Parts ImageFault) → told r ≡ lasting_of (r >>= λ _. Ok tt)
starts (Ok parts) = refl
starts (Err e) = refl

pub starts_at_front : GoesOn Front 0 []
unfolding rest_of
starts_at_front = (omega arith, λ more. starts (reading more))

-- the bytes from a place on, as a slice has them
pub sliced : (at : ℕ) (bytes : List ℕ) → at ≤ length bytes → take (length bytes - at) (drop at bytes) ≡ drop at bytes
sliced at bytes le = take_all (length bytes - at) (drop at bytes) (omega (arith, le, length-drop at bytes))

-- no item is whole
pub item_lacks : (stage : Stage) (at : ℕ) (bytes : List ℕ) (item : Option (Stage × ℕ)) → GoesOn stage at bytes → item ≡ None →
    IsItem stage (take (length bytes - at) (drop at bytes)) (Ok item) → IsResumed bytes (Ok (stage, at))
item_lacks stage at bytes item p none q =
    let lacks : lasting_of (rest_of stage (drop at bytes)) ≡ Ok tt = subst (λ (z : List ℕ). lasting_of (rest_of stage z) ≡ Ok tt) (sliced at bytes p.0)
    (subst (λ (i : Option (Stage × ℕ)). IsItem stage (take (length bytes - at) (drop at bytes)) (Ok i)) none q) in
    let all : front bytes ≡ lasting_of (rest_of stage (drop at bytes)) = subst (λ (z : List ℕ). front z ≡ lasting_of (rest_of stage (drop at bytes))) (append-nil bytes)
    (subst (λ (z : List ℕ). front (bytes ++ []) ≡ lasting_of (rest_of stage z)) (append-nil (drop at bytes)) (p.1 [])) in
    (p, all ∙ lacks)

-- an item has a fault
pub item_faulty : (stage : Stage) (at : ℕ) (bytes : List ℕ) (e : ImageFault) → GoesOn stage at bytes → IsItem stage (take (length bytes - at) (drop at bytes)) (Err e) → IsResumed bytes (Err e)
item_faulty stage at bytes e p q kept =
    let faulty : (more : List ℕ) → lasting_of (rest_of stage (drop at bytes ++ more)) ≡ Err e =
    subst (λ (z : List ℕ). (more : List ℕ) → lasting_of (rest_of stage (z ++ more)) ≡ Err e) (sliced at bytes p.0) (q kept) in
    subst (λ (z : List ℕ). front z ≡ Err e) (append-nil bytes) (p.1 [] ∙ faulty [])
