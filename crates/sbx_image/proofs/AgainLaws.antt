-- What keeps the rules is read from its spelling: a law for each part of an image.
use Rattle.std.proofs.Common.{◌≡◌, ℕ, suc, ◌+◌, ◌-◌, ◌*◌, ◌^◌, ◌<◌, List, [], ◌∷◌, ◌++◌, length, Result, Ok, refl, sym, ap, ◌∙◌, append_assoc, lit<, arith, true, leb}
use Rattle.std.specs.Prelude.{Bool, false, ◌==◌, if◌then◌else◌}
use Rattle.std.specs.Int.{w8, w16, w32, w64, to_be_bytes}
use Rattle.std.specs.List.{flat_map, AllByRecursion}
use Rattle.std.proofs.lemmas.Bool.{eqb-true, leb-true, le-leb}
use Rattle.std.proofs.lemmas.List.{append-nil}
use Rattle.std.proofs.lemmas.List.Concat.{flat_map-cons}
use Rattle.sbx_parts.specs.declared.fault.ImageFault.{ImageFault}
use Rattle.sbx_parts.specs.declared.fault.ImageFault.TheVariants as fault
use Rattle.sbx_parts.specs.declared.order.Next.{Next}
use Rattle.sbx_parts.specs.declared.order.Next.TheVariants.{Exactly}
use Rattle.sbx_image.specs.declared.heads.Header.{Header}
use Rattle.sbx_image.specs.declared.heads.Shape.{Shape}
use Rattle.sbx_image.specs.declared.heads.Counts.{Counts}
use Rattle.sbx_image.specs.declared.heads.Bounds.{Bounds}
use Rattle.sbx_image.specs.declared.heads.FunctionHead.{FunctionHead}
use Rattle.sbx_parts.specs.declared.parts.Kind.{Kind}
use Rattle.sbx_parts.specs.declared.parts.Kind.TheVariants.{Leaf, Framed}
use Rattle.sbx_parts.specs.declared.parts.Range.{Range}
use Rattle.sbx_parts.specs.declared.parts.Cell.{Cell}
use Rattle.sbx_parts.specs.declared.parts.Term.{Term}
use Rattle.sbx_parts.specs.declared.parts.Block.{Block}
use Rattle.sbx_parts.specs.declared.parts.Function.{Function}
use Rattle.sbx_parts.specs.declared.parts.Parts.{Parts}
use Rattle.sbx_parts.specs.declared.services.Services.{Services}
use Rattle.sbx_parts.specs.Rules.{◌>>=◌, between, is_known, is_version, is_data_length, is_length_behind, is_one_region, region_keeps, each, FunctionsSoFar, code_start}
use Rattle.sbx_parts.specs.Rules.{range_keeps, location_keeps, cell_keeps, term_keeps, block_keeps, function_keeps, parts_keep}
use Rattle.sbx_image.specs.Reading.{number_at, number_in, items_at, range_at, location_at, cell_at, term_at, block_head_at, block_at, kind_at, counts_at}
use Rattle.sbx_image.specs.Reading.{bounds_at, function_head_at, function_at, services_at, data_length_at, data_count_at, header_at, shape_at, shapes_at}
use Rattle.sbx_image.specs.Reading.{regions_at, parts_at, reading}
use Rattle.sbx_image.specs.Spelling.{IsTyped, IsTypedRange, IsTypedCell, IsTypedTerm, IsTypedBlock, IsTypedFunction, signed, kind_code, range_text, region_text}
use Rattle.sbx_image.specs.Spelling.{right_code, shape_text, cell_text, term_text, block_text, function_head_text, function_text, data_count_text, shapes_text}
use Rattle.sbx_image.specs.Spelling.{header_text, spelling}
use Rattle.sbx_parts.specs.declared.parts.Region.{Region}
use Rattle.sbx_parts.specs.Regions.{byte_count, pages_for}
use Rattle.sbx_image.proofs.DataLaws.{both_are, count_keeps, one_again}
use Rattle.sbx_image.proofs.RegionLaws.{shape_code, shape_keeps, shapes_of, shapes_spelled}
use Rattle.sbx_image.proofs.Fields.{bind_ok, wanted, both_true, ok_is, wants_true, number_reads, number_in_reads, signed_reads, bytes_again, wide8, wide16, wide32, wide64, signed32, signed64}
use Rattle.sbx_image.proofs.TakesLaws.{depth_code, depth_keeps, head_text, HeadKeeps, counts_text, data_keeps, data_of, data_text, HeaderKeeps, lengths_at}
use Rattle.sbx_parts.proofs.Limits.{range_kept, location_kept, cell_kept, term_kept, block_kept, function_kept, parts_kept}

-- a step that gives what is known, and then the rest
then_is : {A B : Type 0} (r : Result A ImageFault) (x : A) (f : A → Result B ImageFault) (y : Result B ImageFault) → r ≡ Ok x → f x ≡ y → (r >>= f) ≡ y
then_is {A = A} r x f y h k = ap (λ (z : Result A ImageFault). z >>= f) h ∙ k

-- pieces in turn
unnest3 : (x1 x2 x3 rest : List ℕ) → (x1 ++ x2 ++ x3) ++ rest ≡ x1 ++ (x2 ++ (x3 ++ rest))
unnest3 x1 x2 x3 rest = append_assoc (x1 ++ x2) x3 rest ∙ append_assoc x1 x2 (x3 ++ rest)

unnest4 : (x1 x2 x3 x4 rest : List ℕ) → (x1 ++ x2 ++ x3 ++ x4) ++ rest ≡ x1 ++ (x2 ++ (x3 ++ (x4 ++ rest)))
unnest4 x1 x2 x3 x4 rest = append_assoc (x1 ++ x2 ++ x3) x4 rest ∙ append_assoc (x1 ++ x2) x3 (x4 ++ rest) ∙ append_assoc x1 x2 (x3 ++ (x4 ++ rest))

range_reads : (r : Range) (rest : List ℕ) → IsTypedRange r → range_keeps r ≡ Ok tt → range_at (range_text r ++ rest) ≡ Ok (r, rest)
unfolding range_at range_text
range_reads r rest typed e =
    let k = range_kept r e in
    let last = to_be_bytes w8 r.alignment ++ rest in
    then_is _ _ _ _ (signed_reads w32 (2 ^ 32) wide32 signed32 r.lo (range_text r ++ rest) (signed w32 r.hi ++ last) refl typed.lo)
    (then_is _ _ _ _ (signed_reads w32 (2 ^ 32) wide32 signed32 r.hi (signed w32 r.hi ++ last) last refl typed.hi)
    (then_is _ _ _ _ (wants_true _ fault.Range k.ends)
    (then_is _ _ _ _ (number_in_reads w8 (2 ^ 8) wide8 0 3 fault.Range r.alignment last rest refl (lit< tt) k.alignment) refl)))

location_reads : (last location : ℕ) (bytes rest : List ℕ) → bytes ≡ to_be_bytes w16 location ++ rest → location_keeps last location ≡ Ok tt → location_at last bytes ≡ Ok (location, rest)
unfolding location_at
location_reads last location bytes rest b e =
    let k = location_kept last location e in
    then_is _ _ _ _ (number_in_reads w16 (2 ^ 16) wide16 1 1039 fault.Limit location bytes rest b (lit< tt) k.0)
    (then_is _ _ _ _ (wants_true _ fault.Order k.1) refl)

cell_reads : (last : ℕ) (c : Cell) (state : ℕ) (rest : List ℕ) → IsTypedCell c → cell_keeps last c ≡ Ok state → cell_at (last, cell_text c ++ rest) ≡ Ok (c, (state, rest))
unfolding cell_at cell_text
cell_reads last c state rest typed e =
    let k = cell_kept last c state e in
    then_is _ _ _ _ (location_reads last c.location (cell_text c ++ rest) (range_text c.range ++ rest) refl k.location)
    (then_is _ _ _ _ (range_reads c.range rest typed k.range) (ap (λ (n : ℕ). Ok (c, (n, rest))) k.state_is))

term_reads : (last : ℕ) (t : Term) (state : ℕ) (rest : List ℕ) → IsTypedTerm t → term_keeps last t ≡ Ok state → term_at (last, term_text t ++ rest) ≡ Ok (t, (state, rest))
unfolding term_at term_text
term_reads last t state rest typed e =
    let k = term_kept last t state e in
    let after = signed w32 t.coefficient ++ rest in
    then_is _ _ _ _ (location_reads last t.location (term_text t ++ rest) after refl k.location)
    (then_is _ _ _ _ (signed_reads w32 (2 ^ 32) wide32 signed32 t.coefficient after rest refl typed)
    (then_is _ _ _ _ (wants_true _ fault.Limit k.coefficient) (ap (λ (n : ℕ). Ok (t, (n, rest))) k.state_is)))

-- ---- lists of items

module _ {A C S : Type 0} (item : C → Result (A × C) ImageFault) (at : S → List ℕ → C) (keeps : S → A → Result S ImageFault) (text : A → List ℕ) (Typed : A → Type 0) where
  abbrev pub ReadsOne : Type 0
  ReadsOne = (s : S) (a : A) (t : S) (rest : List ℕ) → Typed a → keeps s a ≡ Ok t → item (at s (text a ++ rest)) ≡ Ok (a, at t rest)

  pub items_read : ReadsOne → (xs : List A) (s t : S) (rest : List ℕ) → AllByRecursion Typed xs → each keeps s xs ≡ Ok t →
      items_at item (length xs) (at s (flat_map text xs ++ rest)) ≡ Ok (xs, at t rest)
  unfolding items_at each
  items_read one [] s t rest typed e = ap (λ (z : S). Ok ([], at z rest)) (ok_is s t e)
  items_read one (x ∷ xs) s t rest typed e =
      let first = bind_ok (keeps s x) (λ next. each keeps next xs) t e in
      let regrouped : flat_map text (x ∷ xs) ++ rest ≡ text x ++ (flat_map text xs ++ rest) =
      ap (λ (y : List ℕ). y ++ rest) (flat_map-cons text x xs) ∙ append_assoc (text x) (flat_map text xs) rest in
      ap (λ (b : List ℕ). items_at item (suc (length xs)) (at s b)) regrouped
      ∙ then_is _ _ _ _ (one s x first.0 (flat_map text xs ++ rest) typed.0 first.1) (then_is _ _ _ _ (items_read one xs first.0 t rest typed.1 first.2) refl)

-- ---- blocks

block_reads : (end : ℕ) (next : Next) (b : Block) (state : Next) (rest : List ℕ) → IsTypedBlock b → block_keeps end next b ≡ Ok state →
    block_at end (next, block_text b ++ rest) ≡ Ok (b, (state, rest))
unfolding block_at block_head_at block_text
block_reads end next b state rest typed e =
    let k = block_kept end next b state e in
    let n1 = to_be_bytes w32 b.address in
    let n2 = to_be_bytes w16 (length b.cells) in
    let n3 = to_be_bytes w16 (length b.terms) in
    let n4 = signed w64 b.fuel in
    let cells = flat_map cell_text b.cells in
    let terms = flat_map term_text b.terms in
    let lists = cells ++ (terms ++ rest) in
    let grouped : block_text b ++ rest ≡ (n1 ++ n2 ++ n3 ++ n4) ++ lists = unnest3 (n1 ++ n2 ++ n3 ++ n4) cells terms rest in
    let head : block_head_at end next (block_text b ++ rest) ≡ Ok (record { address = b.address; cells = length b.cells; terms = length b.terms; fuel = b.fuel }, lists)
    = then_is _ _ _ _ (number_reads w32 (2 ^ 32) wide32 b.address (block_text b ++ rest) (n2 ++ (n3 ++ (n4 ++ lists))) grouped typed.address)
    (then_is _ _ _ _ (wants_true _ fault.Order k.address)
    (then_is _ _ _ _ (number_in_reads w16 (2 ^ 16) wide16 0 64 fault.Limit (length b.cells) (n2 ++ (n3 ++ (n4 ++ lists))) (n3 ++ (n4 ++ lists)) refl (lit< tt) k.cell_count)
    (then_is _ _ _ _ (number_in_reads w16 (2 ^ 16) wide16 0 8 fault.Limit (length b.terms) (n3 ++ (n4 ++ lists)) (n4 ++ lists) refl (lit< tt) k.term_count)
    (then_is _ _ _ _ (signed_reads w64 (2 ^ 64) wide64 signed64 b.fuel (n4 ++ lists) lists refl typed.fuel)
    (then_is _ _ _ _ (wants_true _ fault.Limit k.fuel) refl))))) in
    then_is _ _ _ _ head
    (then_is _ _ _ _ (items_read cell_at (λ s y. (s, y)) cell_keeps cell_text IsTypedCell cell_reads b.cells 0 k.last_cell (terms ++ rest) typed.cells k.cells)
    (then_is _ _ _ _ (items_read term_at (λ s y. (s, y)) term_keeps term_text IsTypedTerm term_reads b.terms 0 k.last_term rest typed.terms k.terms) (ap (λ (s : Next). Ok (b, (s, rest))) k.state_is)))

-- ---- functions

kind_reads : (k : Kind) (bytes rest : List ℕ) → bytes ≡ to_be_bytes w8 (kind_code k) ++ rest → kind_at bytes ≡ Ok (k, rest)
unfolding kind_at
kind_reads Leaf bytes rest b = then_is _ _ _ _ (number_in_reads w8 (2 ^ 8) wide8 0 1 fault.Limit 0 bytes rest b (lit< tt) refl) refl
kind_reads Framed bytes rest b = then_is _ _ _ _ (number_in_reads w8 (2 ^ 8) wide8 0 1 fault.Limit 1 bytes rest b (lit< tt) refl) refl

counts_read : (c : Counts) (bytes rest : List ℕ) → bytes ≡ to_be_bytes w8 (kind_code c.kind) ++ (to_be_bytes w8 c.params ++ (to_be_bytes w8 c.results ++ (to_be_bytes w8 0 ++ rest)))
    → between 0 6 c.params ≡ true → between 0 6 c.results ≡ true → counts_at bytes ≡ Ok (c, rest)
unfolding counts_at
counts_read c bytes rest b params results =
    let r3 = to_be_bytes w8 0 ++ rest in
    let r2 = to_be_bytes w8 c.results ++ r3 in
    let r1 = to_be_bytes w8 c.params ++ r2 in
    then_is _ _ _ _ (kind_reads c.kind bytes r1 b)
    (then_is _ _ _ _ (number_in_reads w8 (2 ^ 8) wide8 0 6 fault.Limit c.params r1 r2 refl (lit< tt) params)
    (then_is _ _ _ _ (number_in_reads w8 (2 ^ 8) wide8 0 6 fault.Limit c.results r2 r3 refl (lit< tt) results)
    (then_is _ _ _ _ (number_in_reads w8 (2 ^ 8) wide8 0 0 fault.Limit 0 r3 rest refl (lit< tt) refl) refl)))

bounds_read : (h : Bounds) (rest : List ℕ) → between 0 4096 h.frame ≡ true → between 0 65536 h.stack_room ≡ true → between 0 1099511627775 h.budget ≡ true
    → bounds_at (to_be_bytes w32 h.frame ++ (to_be_bytes w32 h.stack_room ++ (to_be_bytes w64 h.budget ++ rest))) ≡ Ok (h, rest)
unfolding bounds_at
bounds_read h rest frame stack_room budget =
    let r2 = to_be_bytes w64 h.budget ++ rest in
    let r1 = to_be_bytes w32 h.stack_room ++ r2 in
    then_is _ _ _ _ (number_in_reads w32 (2 ^ 32) wide32 0 4096 fault.Limit h.frame (to_be_bytes w32 h.frame ++ r1) r1 refl (lit< tt) frame)
    (then_is _ _ _ _ (number_in_reads w32 (2 ^ 32) wide32 0 65536 fault.Limit h.stack_room r1 r2 refl (lit< tt) stack_room)
    (then_is _ _ _ _ (number_in_reads w64 (2 ^ 64) wide64 0 1099511627775 fault.Limit h.budget r2 rest refl (lit< tt) budget) refl))

zero_again : (n : ℕ) → (n == 0) ≡ true → 0 ≡ n
zero_again n e = sym (eqb-true n 0 e)

depth_reads : (told : Bool) (n : ℕ) (rest : List ℕ) → depth_keeps told n ≡ true →
    (if told then number_in w16 0 256 fault.Limit (depth_code told n ++ rest) else Ok (0, depth_code told n ++ rest)) ≡ Ok (n, rest)
depth_reads true n rest keeps =
    number_in_reads w16 (2 ^ 16) wide16 0 256 fault.Limit n (to_be_bytes w16 n ++ rest) rest refl (lit< tt)
    (both_are (leb 0 n) (leb n 256) (le-leb 0 n (omega arith)) keeps)
depth_reads false n rest keeps = ap (λ (m : ℕ). Ok (m, rest)) (zero_again n keeps)

function_head_reads : (version end : ℕ) (place : FunctionsSoFar) (h : FunctionHead) (bytes rest : List ℕ) → bytes ≡ head_text version h ++ rest → h.entry < 2 ^ 32 →
    HeadKeeps version end place h → function_head_at version end place bytes ≡ Ok (h, rest)
unfolding function_head_at
function_head_reads version end place h bytes rest b entry k =
    let counts : Counts = record { kind = h.kind; params = h.params; results = h.results } in
    let bounds : Bounds = record { frame = h.frame; stack_room = h.stack_room; budget = h.budget } in
    let r4 = to_be_bytes w16 h.blocks ++ rest in
    let r3 = depth_code (version == 3) h.depth ++ r4 in
    let r2 = to_be_bytes w32 h.frame ++ (to_be_bytes w32 h.stack_room ++ (to_be_bytes w64 h.budget ++ r3)) in
    let r1 = to_be_bytes w32 h.entry ++ r2 in
    let in_turn : bytes ≡ to_be_bytes w8 (kind_code h.kind) ++ (to_be_bytes w8 h.params ++ (to_be_bytes w8 h.results ++ (to_be_bytes w8 0 ++ r1)))
    = b ∙ ap (λ (t : List ℕ). to_be_bytes w8 (kind_code h.kind)
    ++ (to_be_bytes w8 h.params
    ++ (to_be_bytes w8 h.results
    ++ (to_be_bytes w8 0 ++ (to_be_bytes w32 h.entry ++ (to_be_bytes w32 h.frame ++ (to_be_bytes w32 h.stack_room ++ (to_be_bytes w64 h.budget ++ t))))))))
    (append_assoc (depth_code (version == 3) h.depth) (to_be_bytes w16 h.blocks) rest) in
    then_is _ _ _ _ (counts_read counts bytes r1 in_turn k.params k.results)
    (then_is _ _ _ _ (number_reads w32 (2 ^ 32) wide32 h.entry r1 r2 refl entry)
    (then_is _ _ _ _ (wants_true _ fault.Order k.entry)
    (then_is _ _ _ _ (bounds_read bounds r3 k.frame k.stack_room k.budget)
    (then_is _ _ _ _ (depth_reads (version == 3) h.depth r4 k.depth)
    (then_is _ _ _ _ (number_in_reads w16 (2 ^ 16) wide16 1 (4096 - place.1) fault.Limit h.blocks r4 rest refl (omega arith) k.blocks) refl)))))

function_reads : (version end : ℕ) (place : FunctionsSoFar) (f : Function) (state : FunctionsSoFar) (rest : List ℕ) → IsTypedFunction f →
    function_keeps version end place f ≡ Ok state → function_at version end (place, function_text version f ++ rest) ≡ Ok (f, (state, rest))
unfolding function_at function_head_text function_text
function_reads version end place f state rest typed e =
    let k = function_kept version end place f state e in
    let head : FunctionHead =
    record {
      kind = f.kind;
      params = length f.params;
      results = length f.results;
      entry = f.entry;
      frame = f.frame;
      stack_room = f.stack_room;
      budget =
          f.budget;
      depth = f.depth;
      blocks = length f.blocks;
    } in
    let params = flat_map range_text f.params in
    let results = flat_map range_text f.results in
    let blocks = flat_map block_text f.blocks in
    let grouped : function_text version f ++ rest ≡ head_text version head ++ (params ++ (results ++ (blocks ++ rest))) = unnest4 (head_text version head) params results blocks rest in
    let keeps : HeadKeeps version end place head =
    record {
      params = k.param_count;
      results = k.result_count;
      entry = k.entry;
      frame = k.frame;
      stack_room = k.stack_room;
      budget = k.budget;
      depth =
          k.depth;
      blocks = k.block_count;
    } in
    let same : (k.next, place.1 + length f.blocks) ≡ state = ap (λ (n : Next). (n, place.1 + length f.blocks)) k.next_is ∙ ap (λ (m : ℕ). (state.0, m)) k.blocks_is in
    then_is _ _ _ _ (function_head_reads version end place head (function_text version f ++ rest) (params ++ (results ++ (blocks ++ rest))) grouped typed.entry keeps)
    (then_is _ _ _ _
    (items_read range_at (λ _ y. y) (λ _ r. range_keeps r) range_text IsTypedRange (λ _ r _ y t g. range_reads r y t g) f.params tt tt
    (results ++ (blocks ++ rest)) typed.params k.params)
    (then_is _ _ _ _ (items_read range_at (λ _ y. y) (λ _ r. range_keeps r) range_text IsTypedRange (λ _ r _ y t g. range_reads r y t g) f.results tt tt (blocks ++ rest) typed.results k.results)
    (then_is _ _ _ _ (items_read (block_at end) (λ s y. (s, y)) (block_keeps end) block_text IsTypedBlock (block_reads end) f.blocks (Exactly f.entry) k.next rest typed.blocks k.blocks)
    (ap (λ (s : FunctionsSoFar). Ok (f, (s, rest))) same))))

-- ---- the whole

services_read : (v : ℕ) (s : Services) (bytes rest : List ℕ) → bytes ≡ to_be_bytes w32 0x53425838 ++ (to_be_bytes w16 v ++ (to_be_bytes w16 s.0 ++ rest)) → v < 2 ^ 16 → s.0 < 2 ^ 16
    → is_version v ≡ true → is_known s.0 ≡ true → services_at bytes ≡ Ok ((v, s), rest)
unfolding services_at
services_read v s bytes rest b narrow short version known =
    let r2 = to_be_bytes w16 s.0 ++ rest in
    let r1 = to_be_bytes w16 v ++ r2 in
    then_is _ _ _ _ (number_in_reads w32 (2 ^ 32) wide32 0x53425838 0x53425838 fault.Magic 0x53425838 bytes r1 b (lit< tt) refl)
    (then_is _ _ _ _ (number_reads w16 (2 ^ 16) wide16 v r1 r2 refl narrow)
    (then_is _ _ _ _ (wants_true _ fault.Version version)
    (then_is _ _ _ _ (number_reads w16 (2 ^ 16) wide16 s.0 r2 rest refl short)
    (then_is _ _ _ _ (wants_true _ fault.Service known) refl))))

data_length_reads : (n : ℕ) (rest : List ℕ) → is_data_length n ≡ true → data_length_at (to_be_bytes w32 n ++ rest) ≡ Ok (n, rest)
unfolding data_length_at
data_length_reads n rest whole =
    let few : n < 2 ^ 32 = omega (arith, leb-true n 262144 (both_true _ _ whole).0) in
    then_is _ _ _ _ (number_reads w32 (2 ^ 32) wide32 n (to_be_bytes w32 n ++ rest) rest refl few)
    (then_is _ _ _ _ (wants_true _ fault.Limit whole) refl)

data_count_reads : (one : Bool) (n : ℕ) (rest : List ℕ) → data_keeps one n ≡ true →
    (if one then data_length_at (data_text one n ++ rest) else number_in w16 0 8 fault.Limit (data_text one n ++ rest)) ≡ Ok (n, rest)
data_count_reads true n rest keeps = data_length_reads n rest keeps
data_count_reads false n rest keeps = number_in_reads w16 (2 ^ 16) wide16 0 8 fault.Limit n (to_be_bytes w16 n ++ rest) rest refl (lit< tt) keeps

header_reads : (h : Header) (bytes rest : List ℕ) → bytes ≡ counts_text h ++ rest → HeaderKeeps h → h.version < 2 ^ 16 → h.services.0 < 2 ^ 16 → header_at bytes ≡ Ok (h, rest)
unfolding header_at data_count_at
header_reads h bytes rest b k version services =
    let r4 = to_be_bytes w16 h.functions ++ rest in
    let r3 = to_be_bytes w16 h.stack_pages ++ r4 in
    let r2 = data_text (h.version == 1) h.data_count ++ r3 in
    let r1 = to_be_bytes w32 h.words ++ r2 in
    let in_turn : bytes ≡ to_be_bytes w32 0x53425838 ++ (to_be_bytes w16 h.version ++ (to_be_bytes w16 h.services.0 ++ r1))
    = b ∙ ap (λ (t : List ℕ). to_be_bytes w32 0x53425838 ++ (to_be_bytes w16 h.version ++ (to_be_bytes w16 h.services.0 ++ (to_be_bytes w32 h.words ++ t))))
    (unnest3 (data_text (h.version == 1) h.data_count) (to_be_bytes w16 h.stack_pages) (to_be_bytes w16 h.functions) rest) in
    then_is _ _ _ _ (services_read h.version h.services bytes r1 in_turn version services k.version k.services)
    (then_is _ _ _ _ (number_in_reads w32 (2 ^ 32) wide32 1 65536 fault.Limit h.words r1 r2 refl (lit< tt) k.words)
    (then_is _ _ _ _ (data_count_reads (h.version == 1) h.data_count r3 k.data_count)
    (then_is _ _ _ _ (number_in_reads w16 (2 ^ 16) wide16 1 16 fault.Limit h.stack_pages r3 r4 refl (lit< tt) k.stack_pages)
    (then_is _ _ _ _ (number_in_reads w16 (2 ^ 16) wide16 1 256 fault.Limit h.functions r4 rest refl (lit< tt) k.functions) refl))))

-- ---- regions

right_within : (w : Bool) → (between 0 1 (right_code w) ≡ true) × ((right_code w == 1) ≡ w)
right_within false = (refl, refl)
right_within true = (refl, refl)

shape_reads : (pages : ℕ) (s : Shape) (state : ℕ) (rest : List ℕ) → Unit {0} → shape_keeps pages s ≡ Ok state → shape_at (pages, shape_code s ++ rest) ≡ Ok (s, (state, rest))
unfolding shape_at
shape_reads pages s state rest typed e =
    let test = wanted (is_length_behind pages s.bytes) fault.Limit _ _ e in
    let some = both_true _ _ test.0 in
    let whole = both_true _ _ (both_true _ _ some.1).0 in
    let few : s.bytes < 2 ^ 32 = omega (arith, leb-true s.bytes 262144 whole.0) in
    let last = to_be_bytes w16 (right_code s.writable) ++ rest in
    let right = right_within s.writable in
    then_is _ _ _ _ (number_reads w32 (2 ^ 32) wide32 s.bytes (shape_code s ++ rest) last (append_assoc (to_be_bytes w32 s.bytes) (to_be_bytes w16 (right_code s.writable)) rest) few)
    (then_is _ _ _ _ (wants_true _ fault.Limit test.0)
    (then_is _ _ _ _ (number_in_reads w16 (2 ^ 16) wide16 0 1 fault.Limit (right_code s.writable) last rest refl (lit< tt) right.0)
    (ap (λ (w : Bool). Ok (record { bytes = s.bytes; writable = w }, (pages + pages_for s.bytes, rest))) right.1 ∙ ap (λ (n : ℕ). Ok (s, (n, rest))) (ok_is _ _ test.1))))

-- lengths keep what the regions keep
lengths_keep : (rs : List Region) (pages state : ℕ) → each region_keeps pages rs ≡ Ok state → each shape_keeps pages (shapes_of rs) ≡ Ok state
unfolding each region_keeps
lengths_keep [] pages state e = e
lengths_keep (r ∷ rs) pages state e =
    let first = bind_ok (region_keeps pages r) (λ next. each region_keeps next rs) state e in
    rw first.1 (lengths_keep rs first.0 state first.2)

no_types : (shapes : List Shape) → AllByRecursion (λ _. Unit {0}) shapes
no_types [] = tt
no_types (s ∷ shapes) = (tt, no_types shapes)

shape_count : (rs : List Region) → length (shapes_of rs) ≡ length rs
shape_count [] = refl
shape_count (r ∷ rs) = ap suc (shape_count rs)

shapes_read : (one : Bool) (rs : List Region) (pages : ℕ) (rest : List ℕ) → (if one then is_one_region rs else leb (length rs) 8) ≡ true → each region_keeps 0 rs ≡ Ok pages
    → lengths_at one (if one then byte_count rs else length rs) ((if one then [] else flat_map shape_text rs) ++ rest) ≡ Ok (shapes_of rs, rest)
shapes_read true rs pages rest kept lengths = ap (λ (shapes : List Shape). Ok (shapes, rest)) (one_again rs kept)
shapes_read false rs pages rest kept lengths =
    rw (← shapes_spelled rs, ← shape_count rs)
    (then_is _ _ _ _
    (items_read shape_at (λ s y. (s, y)) shape_keeps shape_code (λ _. Unit {0}) shape_reads (shapes_of rs) 0 pages rest (no_types (shapes_of rs))
    (lengths_keep rs 0 pages lengths)) refl)

regions_again : (rs : List Region) (rest : List ℕ) → regions_at (shapes_of rs) (flat_map region_text rs ++ rest) ≡ Ok (rs, rest)
unfolding regions_at
regions_again [] rest = refl
regions_again (r ∷ rs) rest =
    let regrouped : flat_map region_text (r ∷ rs) ++ rest ≡ r.bytes ++ (flat_map region_text rs ++ rest) =
    ap (λ (y : List ℕ). y ++ rest) (flat_map-cons region_text r rs) ∙ append_assoc r.bytes (flat_map region_text rs) rest in
    ap (regions_at (shapes_of (r ∷ rs))) regrouped
    ∙ then_is _ _ _ _ (bytes_again r.bytes (flat_map region_text rs ++ rest)) (then_is _ _ _ _ (regions_again rs rest) refl)

word_reads : (w : ℕ) (rest : List ℕ) → w < 2 ^ 32 → number_at w32 (to_be_bytes w32 w ++ rest) ≡ Ok (w, rest)
word_reads w rest lt = number_reads w32 (2 ^ 32) wide32 w (to_be_bytes w32 w ++ rest) rest refl lt

-- words have no order
abbrev any_word : Unit {0} → ℕ → Result (Unit {0}) ImageFault
any_word _ _ = Ok tt

all_words : (ws : List ℕ) → each any_word tt ws ≡ Ok tt
unfolding each
all_words [] = refl
all_words (w ∷ ws) = all_words ws

count_kept : (one : Bool) (rs : List Region) → (if one then is_one_region rs else leb (length rs) 8) ≡ true → data_keeps one (if one then byte_count rs else length rs) ≡ true
count_kept true rs e = count_keeps rs e
count_kept false rs e = both_are (leb 0 (length rs)) (leb (length rs) 8) (le-leb 0 (length rs) (omega arith)) e

parts_read : (p : Parts) (rest : List ℕ) → IsTyped p → parts_keep p ≡ Ok tt → parts_at (spelling p ++ rest) ≡ Ok (p, rest)
unfolding parts_at shapes_at data_count_text shapes_text header_text spelling
parts_read p rest typed e =
    let k = parts_kept p e in
    let one = p.version == 1 in
    let header : Header =
    record {
      version = p.version;
      services = p.services;
      words = length p.words;
      data_count =
          if one then byte_count p.regions else length p.regions;
      stack_pages = p.stack_pages;
      functions = length p.functions;
    } in
    let shapes = if one then [] else flat_map shape_text p.regions in
    let words = flat_map (to_be_bytes w32) p.words in
    let functions = flat_map (function_text p.version) p.functions in
    let bytes = flat_map region_text p.regions in
    let end = code_start + 4 * length p.words in
    let behind = words ++ (bytes ++ (functions ++ rest)) in
    let counted : header_text p ≡ counts_text header =
    ap (λ (t : List ℕ). to_be_bytes w32 0x53425838 ++ to_be_bytes w16 p.version ++ to_be_bytes w16 p.services.0 ++ to_be_bytes w32 (length p.words) ++ t
    ++ to_be_bytes w16 p.stack_pages ++ to_be_bytes w16 (length p.functions)) (sym (data_of one p.regions)) in
    let grouped : spelling p ++ rest ≡ counts_text header ++ (shapes ++ behind) =
    ap (λ (t : List ℕ). (t ++ shapes ++ words ++ bytes ++ functions) ++ rest) counted
    ∙ append_assoc (counts_text header ++ shapes ++ words ++ bytes) functions rest ∙ unnest4 (counts_text header) shapes words bytes (functions ++ rest) in
    let keeps : HeaderKeeps header =
    record {
      version = k.version;
      services = k.services;
      words = k.word_count;
      data_count = count_kept one p.regions k.regions;
      stack_pages =
          k.stack_pages;
      functions = k.function_count;
    } in
    then_is _ _ _ _ (header_reads header (spelling p ++ rest) (shapes ++ behind) grouped keeps typed.version typed.services)
    (then_is _ _ _ _ (shapes_read one p.regions k.last_pages behind k.regions k.lengths)
    (then_is _ _ _ _
    (items_read (number_at w32) (λ _ y. y) any_word (to_be_bytes w32) (λ w. w < 2 ^ 32) (λ _ w _ y t _. word_reads w y t) p.words tt tt
    (bytes ++ (functions ++ rest)) typed.words (all_words p.words))
    (then_is _ _ _ _ (regions_again p.regions (functions ++ rest))
    (then_is _ _ _ _
    (items_read (function_at p.version end) (λ s y. (s, y)) (function_keeps p.version end) (function_text p.version) IsTypedFunction
    (function_reads p.version end) p.functions (Exactly code_start, 0) k.last rest typed.functions k.functions) refl))))

pub reading_again : (p : Parts) → IsTyped p → parts_keep p ≡ Ok tt → reading (spelling p) ≡ Ok p
unfolding reading
reading_again p typed e = then_is _ _ _ _ (ap parts_at (sym (append-nil (spelling p))) ∙ parts_read p [] typed e) refl
