-- What is read stands in front of what it leaves: of an item that is read, the rest of the bytes is their end.
use Rattle.std.proofs.Common.{◌≡◌, ℕ, zero, suc, ◌+◌, ◌-◌, ◌≤◌, Bool, true, false, List, [], ◌++◌, length, take, drop, Result, Ok, Err, refl, sym, ap, subst, ◌∙◌, arith, inl, inr}
use Rattle.std.specs.Prelude.{◌==◌, if◌then◌else◌}
use Rattle.std.specs.Int.{Width, w8, w16, w32, w64, byte_len}
use Rattle.std.proofs.lemmas.Bool.{cases_lt, lt-ltb, le-ltb}
use Rattle.std.proofs.lemmas.List.{append_assoc, length-append, length-take, take-append-drop}
use Rattle.std.proofs.Math.Seq.{drop-append_seam}
use Rattle.sbx_image.specs.ImageFault.{ImageFault}
use Rattle.sbx_image.specs.ImageFault.TheVariants as fault
use Rattle.sbx_image.specs.Next.{Next}
use Rattle.sbx_image.specs.Rules.{◌>>=◌, wants, between, admits, in_order, is_fuel, is_coefficient, is_known, is_version, is_data_length, is_length_behind, FunctionsSoFar}
use Rattle.sbx_image.specs.Reading.{number_at, number_in, signed_at, bytes_at, items_at, range_at, location_at, cell_at, term_at, block_head_at, block_at}
use Rattle.sbx_image.specs.Reading.{kind_at, counts_at, bounds_at, function_head_at, services_at, data_length_at, data_count_at, header_at, shape_at, shape_of}
use Rattle.sbx_image.specs.Reading.{shapes_at}
use Rattle.sbx_image.specs.declared.heads.Header.{Header}

-- So many bytes or more stand in front of the rest.
pub record Behind (least : ℕ) (bytes rest : List ℕ) : Type 0 where
  pub text : List ℕ
  pub parts : bytes ≡ text ++ rest
  pub some : least ≤ length text

abbrev pub Leaves : {X : Type 0} → ℕ → (X → List ℕ) → List ℕ → Result X ImageFault → Type 0
Leaves {X = X} least rest bytes r = (x : X) → r ≡ Ok x → Behind least bytes (rest x)

abbrev done : {X : Type 0} → X → Result X ImageFault
done x = Ok x

done_is : {X : Type 0} (x y : X) → done x ≡ done y → x ≡ y
done_is x y p = cc

nothing : (bytes : List ℕ) → Behind 0 bytes bytes
nothing bytes = record { text = []; parts = refl; some = omega arith }

behind_then : (m n : ℕ) (a b c : List ℕ) → Behind m a b → Behind n b c → Behind m a c
behind_then m n a b c p q = record {
  text = p.text ++ q.text;
  parts = p.parts ∙ ap (λ (t : List ℕ). p.text ++ t) q.parts ∙ sym (append_assoc p.text q.text c);
  some = omega (arith, p.some, length-append p.text q.text);
}

pub done_leaves : {X : Type 0} (rest : X → List ℕ) (x : X) → Leaves 0 rest (rest x) (Ok x)
done_leaves rest x y p = subst (λ z. Behind 0 (rest x) (rest z)) (done_is x y p) (nothing (rest x))

failed_leaves : {X : Type 0} (least : ℕ) (rest : X → List ℕ) (bytes : List ℕ) (e : ImageFault) → Leaves least rest bytes (Err e)
failed_leaves least rest bytes e y p = absurd cc

pub then_leaves : {X Y : Type 0} (least : ℕ) (rx : X → List ℕ) (ry : Y → List ℕ) (bytes : List ℕ) (r : Result X ImageFault) (f : X → Result Y ImageFault)
    → Leaves least rx bytes r → ((x : X) → Leaves 0 ry (rx x) (f x)) → Leaves least ry bytes (r >>= f)
then_leaves least rx ry bytes (Ok x) f h k = λ y p. behind_then least 0 bytes (rx x) (ry y) (h x refl) (k x y p)
then_leaves least rx ry bytes (Err e) f h k = failed_leaves least ry bytes e

test_leaves : {Y : Type 0} (least : ℕ) (ry : Y → List ℕ) (bytes : List ℕ) (b : Bool) (d : ImageFault) (r : Result Y ImageFault)
    → Leaves least ry bytes r → Leaves least ry bytes (wants b d >>= λ _. r)
test_leaves least ry bytes true d r h = h
test_leaves least ry bytes false d r h = failed_leaves least ry bytes d

abbrev bytes_left : {A : Type 0} → A × List ℕ → List ℕ
bytes_left x = x.1

abbrev after_cursor : {A S : Type 0} → A × (S × List ℕ) → List ℕ
after_cursor x = x.1.1

-- ---- numbers and bytes

taken : (least count : ℕ) (bytes : List ℕ) → least ≤ count → count ≤ length bytes → Behind least bytes (drop count bytes)
taken least count bytes small le = record {
  text = take count bytes;
  parts = sym (take-append-drop count bytes);
  some = omega (arith, small, le, length-take count bytes);
}

number_leaves : (least : ℕ) (w : Width) → least ≤ byte_len w → (bytes : List ℕ) → Leaves least bytes_left bytes (number_at w bytes)
number_leaves least w small bytes =
    elim (cases_lt (length bytes) (byte_len w)) [
      | inl lt ↦ rw (lt-ltb _ _ lt) (failed_leaves least bytes_left bytes fault.Short)
      | inr le ↦ rw (le-ltb _ _ le) (λ y p. subst (λ z. Behind least bytes z.1) (done_is _ y p) (taken least (byte_len w) bytes small le))
    ]

pub bytes_leave : (least count : ℕ) → least ≤ count → (bytes : List ℕ) → Leaves least bytes_left bytes (bytes_at count bytes)
bytes_leave least count small bytes =
    elim (cases_lt (length bytes) count) [
      | inl lt ↦ rw (lt-ltb _ _ lt) (failed_leaves least bytes_left bytes fault.Short)
      | inr le ↦ rw (le-ltb _ _ le) (λ y p. subst (λ z. Behind least bytes z.1) (done_is _ y p) (taken least count bytes small le))
    ]

number_in_leaves : (least : ℕ) (w : Width) → least ≤ byte_len w → (low high : ℕ) (bad : ImageFault) (bytes : List ℕ) → Leaves least bytes_left bytes (number_in w low high bad bytes)
number_in_leaves least w small low high bad bytes =
    then_leaves least bytes_left bytes_left bytes _ _ (number_leaves least w small bytes) (λ n. test_leaves 0 bytes_left n.1 (between low high n.0) bad _ (done_leaves bytes_left n))

signed_leaves : (w : Width) (bytes : List ℕ) → Leaves 0 bytes_left bytes (signed_at w bytes)
signed_leaves w bytes = then_leaves 0 bytes_left bytes_left bytes _ _ (number_leaves 0 w (omega arith) bytes) (λ n. done_leaves bytes_left _)

pub range_leaves : (bytes : List ℕ) → Leaves 0 bytes_left bytes (range_at bytes)
unfolding range_at
range_leaves bytes =
    then_leaves 0 bytes_left bytes_left bytes _ _ (signed_leaves w32 bytes) (λ lo.
    then_leaves 0 bytes_left bytes_left lo.1 _ _ (signed_leaves w32 lo.1) (λ hi.
    test_leaves 0 bytes_left hi.1 (in_order lo.0 hi.0) fault.Range _
    (then_leaves 0 bytes_left bytes_left hi.1 _ _ (number_in_leaves 0 w8 (omega arith) 0 3 fault.Range hi.1) (λ alignment. done_leaves bytes_left _))))

location_leaves : (last : ℕ) (bytes : List ℕ) → Leaves 0 bytes_left bytes (location_at last bytes)
unfolding location_at
location_leaves last bytes =
    then_leaves 0 bytes_left bytes_left bytes _ _ (number_in_leaves 0 w16 (omega arith) 1 1039 fault.Limit bytes)
    (λ location. test_leaves 0 bytes_left location.1 _ fault.Order _ (done_leaves bytes_left location))

cell_leaves : (cursor : ℕ × List ℕ) → Leaves 0 after_cursor cursor.1 (cell_at cursor)
unfolding cell_at
cell_leaves cursor =
    then_leaves 0 bytes_left after_cursor cursor.1 _ _ (location_leaves cursor.0 cursor.1) (λ location.
    then_leaves 0 bytes_left after_cursor location.1 _ _ (range_leaves location.1) (λ range. done_leaves after_cursor _))

term_leaves : (cursor : ℕ × List ℕ) → Leaves 0 after_cursor cursor.1 (term_at cursor)
unfolding term_at
term_leaves cursor =
    then_leaves 0 bytes_left after_cursor cursor.1 _ _ (location_leaves cursor.0 cursor.1) (λ location.
    then_leaves 0 bytes_left after_cursor location.1 _ _ (signed_leaves w32 location.1) (λ coefficient.
    test_leaves 0 after_cursor coefficient.1 (is_coefficient coefficient.0) fault.Limit _ (done_leaves after_cursor _)))

-- ---- lists of items

pub items_leave : {A C : Type 0} (view : C → List ℕ) (item : C → Result (A × C) ImageFault) → ((c : C) → Leaves 0 (λ x. view x.1) (view c) (item c))
    → (n : ℕ) (c : C) → Leaves 0 (λ x. view x.1) (view c) (items_at item n c)
unfolding items_at
items_leave view item one zero c = done_leaves (λ x. view x.1) ([], c)
items_leave view item one (suc n) c =
    then_leaves 0 (λ x. view x.1) (λ x. view x.1) (view c) _ _ (one c) (λ first.
    then_leaves 0 (λ x. view x.1) (λ x. view x.1) (view first.1) _ _ (items_leave view item one n first.1) (λ others. done_leaves (λ x. view x.1) _))

abbrev all_of : List ℕ → List ℕ
all_of bytes = bytes

abbrev behind_cursor : {S : Type 0} → S × List ℕ → List ℕ
behind_cursor c = c.1

pub ranges_leave : (n : ℕ) (bytes : List ℕ) → Leaves 0 bytes_left bytes (items_at range_at n bytes)
ranges_leave n bytes = items_leave all_of range_at range_leaves n bytes

-- ---- items

block_head_leaves : (end : ℕ) (next : Next) (bytes : List ℕ) → Leaves 1 bytes_left bytes (block_head_at end next bytes)
unfolding block_head_at
block_head_leaves end next bytes =
    then_leaves 1 bytes_left bytes_left bytes _ _ (number_leaves 1 w32 (omega arith) bytes) (λ address.
    test_leaves 0 bytes_left address.1 (admits end next address.0) fault.Order _
    (then_leaves 0 bytes_left bytes_left address.1 _ _ (number_in_leaves 0 w16 (omega arith) 0 64 fault.Limit address.1) (λ cells.
    then_leaves 0 bytes_left bytes_left cells.1 _ _ (number_in_leaves 0 w16 (omega arith) 0 8 fault.Limit cells.1) (λ terms.
    then_leaves 0 bytes_left bytes_left terms.1 _ _ (signed_leaves w64 terms.1) (λ fuel.
    test_leaves 0 bytes_left fuel.1 (is_fuel fuel.0) fault.Limit _ (done_leaves bytes_left _))))))

pub block_leaves : (end : ℕ) (next : Next) (bytes : List ℕ) → Leaves 1 after_cursor bytes (block_at end (next, bytes))
unfolding block_at
block_leaves end next bytes =
    then_leaves 1 bytes_left after_cursor bytes _ _ (block_head_leaves end next bytes) (λ head.
    then_leaves 0 after_cursor after_cursor head.1 _ _ (items_leave behind_cursor cell_at cell_leaves head.0.cells (0, head.1)) (λ cells.
    then_leaves 0 after_cursor after_cursor cells.1.1 _ _ (items_leave behind_cursor term_at term_leaves head.0.terms (0, cells.1.1)) (λ terms. done_leaves after_cursor _)))

kind_leaves : (bytes : List ℕ) → Leaves 1 bytes_left bytes (kind_at bytes)
unfolding kind_at
kind_leaves bytes = then_leaves 1 bytes_left bytes_left bytes _ _ (number_in_leaves 1 w8 (omega arith) 0 1 fault.Limit bytes) (λ kind. done_leaves bytes_left _)

counts_leave : (bytes : List ℕ) → Leaves 1 bytes_left bytes (counts_at bytes)
unfolding counts_at
counts_leave bytes =
    then_leaves 1 bytes_left bytes_left bytes _ _ (kind_leaves bytes) (λ kind.
    then_leaves 0 bytes_left bytes_left kind.1 _ _ (number_in_leaves 0 w8 (omega arith) 0 6 fault.Limit kind.1) (λ params.
    then_leaves 0 bytes_left bytes_left params.1 _ _ (number_in_leaves 0 w8 (omega arith) 0 6 fault.Limit params.1) (λ results.
    then_leaves 0 bytes_left bytes_left results.1 _ _ (number_in_leaves 0 w8 (omega arith) 0 0 fault.Limit results.1) (λ unused. done_leaves bytes_left _))))

bounds_leave : (bytes : List ℕ) → Leaves 0 bytes_left bytes (bounds_at bytes)
unfolding bounds_at
bounds_leave bytes =
    then_leaves 0 bytes_left bytes_left bytes _ _ (number_in_leaves 0 w32 (omega arith) 0 4096 fault.Limit bytes) (λ frame.
    then_leaves 0 bytes_left bytes_left frame.1 _ _ (number_in_leaves 0 w32 (omega arith) 0 65536 fault.Limit frame.1) (λ room.
    then_leaves 0 bytes_left bytes_left room.1 _ _ (number_in_leaves 0 w64 (omega arith) 0 1099511627775 fault.Limit room.1) (λ budget. done_leaves bytes_left _)))

depth_leaves : (told : Bool) (bytes : List ℕ) → Leaves 0 bytes_left bytes (if told then number_in w16 0 256 fault.Limit bytes else Ok (0, bytes))
depth_leaves true bytes = number_in_leaves 0 w16 (omega arith) 0 256 fault.Limit bytes
depth_leaves false bytes = done_leaves bytes_left _

pub function_head_leaves : (version end : ℕ) (place : FunctionsSoFar) (bytes : List ℕ) → Leaves 1 bytes_left bytes (function_head_at version end place bytes)
unfolding function_head_at
function_head_leaves version end place bytes =
    then_leaves 1 bytes_left bytes_left bytes _ _ (counts_leave bytes) (λ counts.
    then_leaves 0 bytes_left bytes_left counts.1 _ _ (number_leaves 0 w32 (omega arith) counts.1) (λ entry.
    test_leaves 0 bytes_left entry.1 (admits end place.0 entry.0) fault.Order _
    (then_leaves 0 bytes_left bytes_left entry.1 _ _ (bounds_leave entry.1) (λ bounds.
    then_leaves 0 bytes_left bytes_left bounds.1 _ _ (depth_leaves (version == 3) bounds.1) (λ depth.
    then_leaves 0 bytes_left bytes_left depth.1 _ _ (number_in_leaves 0 w16 (omega arith) 1 (4096 - place.1) fault.Limit depth.1) (λ blocks. done_leaves bytes_left _))))))

services_leave : (bytes : List ℕ) → Leaves 1 bytes_left bytes (services_at bytes)
unfolding services_at
services_leave bytes =
    then_leaves 1 bytes_left bytes_left bytes _ _ (number_in_leaves 1 w32 (omega arith) 0x53425838 0x53425838 fault.Magic bytes) (λ magic.
    then_leaves 0 bytes_left bytes_left magic.1 _ _ (number_leaves 0 w16 (omega arith) magic.1) (λ version.
    test_leaves 0 bytes_left version.1 (is_version version.0) fault.Version _
    (then_leaves 0 bytes_left bytes_left version.1 _ _ (number_leaves 0 w16 (omega arith) version.1) (λ services.
    test_leaves 0 bytes_left services.1 (is_known services.0) fault.Service _ (done_leaves bytes_left _)))))

data_length_leaves : (bytes : List ℕ) → Leaves 0 bytes_left bytes (data_length_at bytes)
unfolding data_length_at
data_length_leaves bytes =
    then_leaves 0 bytes_left bytes_left bytes _ _ (number_leaves 0 w32 (omega arith) bytes)
    (λ count. test_leaves 0 bytes_left count.1 (is_data_length count.0) fault.Limit _ (done_leaves bytes_left count))

data_count_leaves : (one : Bool) (bytes : List ℕ) → Leaves 0 bytes_left bytes (if one then data_length_at bytes else number_in w16 0 8 fault.Limit bytes)
data_count_leaves true bytes = data_length_leaves bytes
data_count_leaves false bytes = number_in_leaves 0 w16 (omega arith) 0 8 fault.Limit bytes

pub header_leaves : (bytes : List ℕ) → Leaves 1 bytes_left bytes (header_at bytes)
unfolding header_at data_count_at
header_leaves bytes =
    then_leaves 1 bytes_left bytes_left bytes _ _ (services_leave bytes) (λ services.
    then_leaves 0 bytes_left bytes_left services.1 _ _ (number_in_leaves 0 w32 (omega arith) 1 65536 fault.Limit services.1) (λ words.
    then_leaves 0 bytes_left bytes_left words.1 _ _ (data_count_leaves (services.0.0 == 1) words.1) (λ data_count.
    then_leaves 0 bytes_left bytes_left data_count.1 _ _ (number_in_leaves 0 w16 (omega arith) 1 16 fault.Limit data_count.1) (λ stack_pages.
    then_leaves 0 bytes_left bytes_left stack_pages.1 _ _ (number_in_leaves 0 w16 (omega arith) 1 256 fault.Limit stack_pages.1) (λ functions. done_leaves bytes_left _)))))

-- ---- regions

shape_leaves : (cursor : ℕ × List ℕ) → Leaves 0 after_cursor cursor.1 (shape_at cursor)
unfolding shape_at
shape_leaves cursor =
    then_leaves 0 bytes_left after_cursor cursor.1 _ _ (number_leaves 0 w32 (omega arith) cursor.1) (λ size.
    test_leaves 0 after_cursor size.1 (is_length_behind cursor.0 size.0) fault.Limit _
    (then_leaves 0 bytes_left after_cursor size.1 _ _ (number_in_leaves 0 w16 (omega arith) 0 1 fault.Limit size.1) (λ kind. done_leaves after_cursor _)))

lengths_leave : (one : Bool) (n : ℕ) (bytes : List ℕ) → Leaves 0 bytes_left bytes (if one then Ok (shape_of n, bytes) else (items_at shape_at n (0, bytes) >>= λ shapes. Ok (shapes.0, shapes.1.1)))
lengths_leave true n bytes = done_leaves bytes_left _
lengths_leave false n bytes = then_leaves 0 after_cursor bytes_left bytes _ _ (items_leave behind_cursor shape_at shape_leaves n (0, bytes)) (λ shapes. done_leaves bytes_left _)

pub shapes_leave : (h : Header) (bytes : List ℕ) → Leaves 0 bytes_left bytes (shapes_at h bytes)
unfolding shapes_at
shapes_leave h bytes = lengths_leave (h.version == 1) h.data_count bytes

-- ---- what that says of lengths

pub behind_drop : (least : ℕ) (bytes rest : List ℕ) → Behind least bytes rest → (least + length rest ≤ length bytes) × (drop (length bytes - length rest) bytes ≡ rest)
behind_drop least bytes rest p =
    let whole : length bytes ≡ length p.text + length rest = ap length p.parts ∙ length-append p.text rest in
    let count : length bytes - length rest ≡ length p.text = omega (arith, whole) in
    (omega (arith, whole, p.some), rw count (subst (λ (z : List ℕ). drop (length p.text) z ≡ rest) (sym p.parts) (drop-append_seam p.text rest)))
