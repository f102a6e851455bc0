-- What is read from the front of bytes stays when bytes are added: a value is the same, with more bytes after it, and so is each fault but that the bytes end.
use Rattle.std.proofs.Common.{◌≡◌, ◌≢◌, ℕ, zero, suc, ◌+◌, ◌-◌, ◌*◌, ◌≤◌, Bool, true, false, ltb, List, [], ◌∷◌, ◌++◌, length, take, drop, Result, Ok, Err, refl, ap, subst, arith, inl, inr}
use Rattle.std.specs.Prelude.{◌==◌, if◌then◌else◌}
use Rattle.std.specs.Int.{Width, w8, w16, w32, w64, byte_len, from_be_bytes}
use Rattle.std.proofs.lemmas.Bool.{cases_lt, lt-ltb, le-ltb, ne_eqb}
use Rattle.std.proofs.lemmas.List.{length-append, take-append-le, drop-append-le}
use Rattle.sbx_image.specs.ImageFault.{ImageFault}
use Rattle.sbx_image.specs.ImageFault.TheVariants as fault
use Rattle.sbx_image.specs.Next.{Next}
use Rattle.sbx_image.specs.Next.TheVariants.{Exactly}
use Rattle.sbx_image.specs.Parts.{Parts}
use Rattle.sbx_image.specs.Rules.{◌>>=◌, wants, between, admits, in_order, is_fuel, is_coefficient, is_known, is_version, is_data_length, is_length_behind, FunctionsSoFar, code_start}
use Rattle.sbx_image.specs.Reading.{number_at, number_in, signed_at, bytes_at, items_at, range_at, location_at, cell_at, term_at, block_head_at, block_at}
use Rattle.sbx_image.specs.Reading.{kind_at, counts_at, bounds_at, function_head_at, function_at, services_at, data_length_at, data_count_at, header_at}
use Rattle.sbx_image.specs.Reading.{shape_at, shape_of, shapes_at, regions_at, parts_at, reading}
use Rattle.sbx_image.specs.declared.heads.Header.{Header}
use Rattle.sbx_image.specs.declared.heads.Shape.{Shape}
use Rattle.sbx_reader.specs.Fronts.{lasting, told, front}

-- What the shorter bytes give, and what the longer ones give.
pub record Lasts {X : Type 0} (grow : X → X) (short long : Result X ImageFault) : Type 0 where
  pub ok : (x : X) → short ≡ Ok x → long ≡ Ok (grow x)
  pub err : (e : ImageFault) → e ≢ fault.Short → short ≡ Err e → long ≡ Err e

abbrev failed : {X : Type 0} → ImageFault → Result X ImageFault
failed e = Err e

abbrev done : {X : Type 0} → X → Result X ImageFault
done x = Ok x

err_is : {X : Type 0} (d e : ImageFault) → failed {X = X} d ≡ failed {X = X} e → d ≡ e
err_is d e p = cc

pub done_lasts : {X : Type 0} (grow : X → X) (x : X) → Lasts grow (Ok x) (Ok (grow x))
done_lasts {X = X} grow x = record { ok = λ y p. let q : x ≡ y = cc in ap (λ (z : X). done (grow z)) q; err = λ e ne p. absurd cc }

failed_lasts : {X : Type 0} (grow : X → X) (e : ImageFault) → Lasts grow (Err e) (Err e)
failed_lasts grow e = record { ok = λ y p. absurd cc; err = λ d ne p. cc }

short_lasts : {X : Type 0} (grow : X → X) (long : Result X ImageFault) → Lasts grow (Err fault.Short) long
short_lasts grow long = record { ok = λ y p. absurd cc; err = λ d ne p. absurd (ne (cc)) }

pub then_lasts : {X Y : Type 0} (gx : X → X) (gy : Y → Y) (r s : Result X ImageFault) (f : X → Result Y ImageFault) → Lasts gx r s →
    ((x : X) → Lasts gy (f x) (f (gx x))) → Lasts gy (r >>= f) (s >>= f)
then_lasts gx gy (Ok x) s f h k = rw (h.ok x refl) (k x)
then_lasts {X = X} gx gy (Err d) s f h k = record {
  ok = λ y p. absurd cc;
  err = λ e ne p. let q : d ≡ e = cc in rw (h.err e ne (ap (λ (z : ImageFault). failed {X = X} z) q)) refl;
}

test_lasts : {Y : Type 0} {gy : Y → Y} (b : Bool) (d : ImageFault) (r s : Result Y ImageFault) → Lasts gy r s → Lasts gy (wants b d >>= λ _. r) (wants b d >>= λ _. s)
test_lasts true d r s h = h
test_lasts {gy = gy} false d r s h = failed_lasts gy d

no_zero : (n : ℕ) → (suc n == 0) ≡ false
no_zero n = ne_eqb (suc n) 0 (λ e. omega (arith, e))

module _ (more : List ℕ) where
  abbrev pub grown : {A : Type 0} → A × List ℕ → A × List ℕ
  grown x = (x.0, x.1 ++ more)

  abbrev grown_after : {A S : Type 0} → A × (S × List ℕ) → A × (S × List ℕ)
  grown_after x = (x.0, (x.1.0, x.1.1 ++ more))

  pub number_lasts : (w : Width) (bytes : List ℕ) → Lasts grown (number_at w bytes) (number_at w (bytes ++ more))
  number_lasts w bytes =
      elim (cases_lt (length bytes) (byte_len w)) [
        | inl lt ↦ rw (lt-ltb _ _ lt) (short_lasts grown (number_at w (bytes ++ more)))
        | inr le ↦
            let long : byte_len w ≤ length (bytes ++ more) = omega (arith, length-append bytes more) in
            rw (le-ltb _ _ le, le-ltb _ _ long, take-append-le (byte_len w) bytes more le, drop-append-le (byte_len w) bytes more le)
            (done_lasts grown (from_be_bytes w (take (byte_len w) bytes), drop (byte_len w) bytes))
      ]

  pub bytes_last : (count : ℕ) (bytes : List ℕ) → Lasts grown (bytes_at count bytes) (bytes_at count (bytes ++ more))
  bytes_last count bytes =
      elim (cases_lt (length bytes) count) [
        | inl lt ↦ rw (lt-ltb _ _ lt) (short_lasts grown (bytes_at count (bytes ++ more)))
        | inr le ↦
            let long : count ≤ length (bytes ++ more) = omega (arith, length-append bytes more) in
            rw (le-ltb _ _ le, le-ltb _ _ long, take-append-le count bytes more le, drop-append-le count bytes more le)
            (done_lasts grown (take count bytes, drop count bytes))
      ]

  number_in_lasts : (w : Width) (low high : ℕ) (bad : ImageFault) (bytes : List ℕ) → Lasts grown (number_in w low high bad bytes) (number_in w low high bad (bytes ++ more))
  number_in_lasts w low high bad bytes = then_lasts _ _ _ _ _ (number_lasts w bytes) (λ n. test_lasts (between low high n.0) bad _ _ (done_lasts _ n))

  signed_lasts : (w : Width) (bytes : List ℕ) → Lasts grown (signed_at w bytes) (signed_at w (bytes ++ more))
  signed_lasts w bytes = then_lasts _ _ _ _ _ (number_lasts w bytes) (λ n. done_lasts _ _)

  range_lasts : (bytes : List ℕ) → Lasts grown (range_at bytes) (range_at (bytes ++ more))
  unfolding range_at
  range_lasts bytes =
      then_lasts _ _ _ _ _ (signed_lasts w32 bytes) (λ lo.
      then_lasts _ _ _ _ _ (signed_lasts w32 lo.1) (λ hi.
      test_lasts (in_order lo.0 hi.0) fault.Range _ _ (then_lasts _ _ _ _ _ (number_in_lasts w8 0 3 fault.Range hi.1) (λ alignment. done_lasts _ _))))

  location_lasts : (last : ℕ) (bytes : List ℕ) → Lasts grown (location_at last bytes) (location_at last (bytes ++ more))
  unfolding location_at
  location_lasts last bytes = then_lasts _ _ _ _ _ (number_in_lasts w16 1 1039 fault.Limit bytes) (λ location. test_lasts (ltb last location.0) fault.Order _ _ (done_lasts _ location))

  cell_lasts : (cursor : ℕ × List ℕ) → Lasts grown_after (cell_at cursor) (cell_at (cursor.0, cursor.1 ++ more))
  unfolding cell_at
  cell_lasts cursor = then_lasts _ _ _ _ _ (location_lasts cursor.0 cursor.1) (λ location. then_lasts _ _ _ _ _ (range_lasts location.1) (λ range. done_lasts _ _))

  term_lasts : (cursor : ℕ × List ℕ) → Lasts grown_after (term_at cursor) (term_at (cursor.0, cursor.1 ++ more))
  unfolding term_at
  term_lasts cursor =
      then_lasts _ _ _ _ _ (location_lasts cursor.0 cursor.1) (λ location.
      then_lasts _ _ _ _ _ (signed_lasts w32 location.1) (λ coefficient. test_lasts (is_coefficient coefficient.0) fault.Limit _ _ (done_lasts _ _)))

  block_head_lasts : (end : ℕ) (next : Next) (bytes : List ℕ) → Lasts grown (block_head_at end next bytes) (block_head_at end next (bytes ++ more))
  unfolding block_head_at
  block_head_lasts end next bytes =
      then_lasts _ _ _ _ _ (number_lasts w32 bytes) (λ address. test_lasts (admits end next address.0) fault.Order _ _
      (then_lasts _ _ _ _ _ (number_in_lasts w16 0 64 fault.Limit address.1) (λ cells.
      then_lasts _ _ _ _ _ (number_in_lasts w16 0 8 fault.Limit cells.1) (λ terms.
      then_lasts _ _ _ _ _ (signed_lasts w64 terms.1) (λ fuel. test_lasts (is_fuel fuel.0) fault.Limit _ _ (done_lasts _ _))))))

-- ---- lists of items

pub items_last : {A C : Type 0} (grow : C → C) (item : C → Result (A × C) ImageFault) → ((c : C) → Lasts (λ x. (x.0, grow x.1)) (item c) (item (grow c)))
    → (n : ℕ) (c : C) → Lasts (λ x. (x.0, grow x.1)) (items_at item n c) (items_at item n (grow c))
unfolding items_at
items_last grow item one zero c = done_lasts _ _
items_last grow item one (suc n) c =
    then_lasts _ _ _ _ _ (one c) (λ first. then_lasts _ _ _ _ _ (items_last grow item one n first.1) (λ others. done_lasts _ _))

module _ (more : List ℕ) where
  abbrev pub longer : List ℕ → List ℕ
  longer bytes = bytes ++ more

  abbrev longer_after : {S : Type 0} → S × List ℕ → S × List ℕ
  longer_after c = (c.0, c.1 ++ more)

  pub ranges_last : (n : ℕ) (bytes : List ℕ) → Lasts (grown more) (items_at range_at n bytes) (items_at range_at n (bytes ++ more))
  ranges_last n bytes = items_last longer range_at (range_lasts more) n bytes

  pub block_lasts : (end : ℕ) (cursor : Next × List ℕ) → Lasts (grown_after more) (block_at end cursor) (block_at end (cursor.0, cursor.1 ++ more))
  unfolding block_at
  block_lasts end cursor =
      then_lasts _ _ _ _ _ (block_head_lasts more end cursor.0 cursor.1) (λ head.
      then_lasts _ _ _ _ _ (items_last longer_after cell_at (cell_lasts more) head.0.cells (0, head.1)) (λ cells.
      then_lasts _ _ _ _ _ (items_last longer_after term_at (term_lasts more) head.0.terms (0, cells.1.1)) (λ terms. done_lasts _ _)))

  kind_lasts : (bytes : List ℕ) → Lasts (grown more) (kind_at bytes) (kind_at (bytes ++ more))
  unfolding kind_at
  kind_lasts bytes = then_lasts _ _ _ _ _ (number_in_lasts more w8 0 1 fault.Limit bytes) (λ kind. done_lasts _ _)

  counts_last : (bytes : List ℕ) → Lasts (grown more) (counts_at bytes) (counts_at (bytes ++ more))
  unfolding counts_at
  counts_last bytes =
      then_lasts _ _ _ _ _ (kind_lasts bytes) (λ kind.
      then_lasts _ _ _ _ _ (number_in_lasts more w8 0 6 fault.Limit kind.1) (λ params.
      then_lasts _ _ _ _ _ (number_in_lasts more w8 0 6 fault.Limit params.1) (λ results.
      then_lasts _ _ _ _ _ (number_in_lasts more w8 0 0 fault.Limit results.1) (λ unused. done_lasts _ _))))

  bounds_last : (bytes : List ℕ) → Lasts (grown more) (bounds_at bytes) (bounds_at (bytes ++ more))
  unfolding bounds_at
  bounds_last bytes =
      then_lasts _ _ _ _ _ (number_in_lasts more w32 0 4096 fault.Limit bytes) (λ frame.
      then_lasts _ _ _ _ _ (number_in_lasts more w32 0 65536 fault.Limit frame.1) (λ room.
      then_lasts _ _ _ _ _ (number_in_lasts more w64 0 1099511627775 fault.Limit room.1) (λ budget. done_lasts _ _)))

  depth_lasts : (told : Bool) (bytes : List ℕ) →
      Lasts (grown more) (if told then number_in w16 0 256 fault.Limit bytes else Ok (0, bytes))
      (if told then number_in w16 0 256 fault.Limit (bytes ++ more) else Ok (0, bytes ++ more))
  depth_lasts true bytes = number_in_lasts more w16 0 256 fault.Limit bytes
  depth_lasts false bytes = done_lasts _ _

  pub function_head_lasts : (version end : ℕ) (place : FunctionsSoFar) (bytes : List ℕ) →
      Lasts (grown more) (function_head_at version end place bytes) (function_head_at version end place (bytes ++ more))
  unfolding function_head_at
  function_head_lasts version end place bytes =
      then_lasts _ _ _ _ _ (counts_last bytes) (λ counts.
      then_lasts _ _ _ _ _ (number_lasts more w32 counts.1) (λ entry. test_lasts (admits end place.0 entry.0) fault.Order _ _
      (then_lasts _ _ _ _ _ (bounds_last entry.1) (λ bounds.
      then_lasts _ _ _ _ _ (depth_lasts (version == 3) bounds.1) (λ depth.
      then_lasts _ _ _ _ _ (number_in_lasts more w16 1 (4096 - place.1) fault.Limit depth.1) (λ blocks. done_lasts _ _))))))

  function_lasts : (version end : ℕ) (cursor : FunctionsSoFar × List ℕ) → Lasts (grown_after more) (function_at version end cursor) (function_at version end (cursor.0, cursor.1 ++ more))
  unfolding function_at
  function_lasts version end cursor =
      then_lasts _ _ _ _ _ (function_head_lasts version end cursor.0 cursor.1) (λ head.
      then_lasts _ _ _ _ _ (ranges_last head.0.params head.1) (λ params.
      then_lasts _ _ _ _ _ (ranges_last head.0.results params.1) (λ results.
      then_lasts _ _ _ _ _ (items_last longer_after (block_at end) (block_lasts end) head.0.blocks (Exactly head.0.entry, results.1)) (λ blocks. done_lasts _ _))))

  services_last : (bytes : List ℕ) → Lasts (grown more) (services_at bytes) (services_at (bytes ++ more))
  unfolding services_at
  services_last bytes =
      then_lasts _ _ _ _ _ (number_in_lasts more w32 0x53425838 0x53425838 fault.Magic bytes) (λ magic.
      then_lasts _ _ _ _ _ (number_lasts more w16 magic.1) (λ version. test_lasts (is_version version.0) fault.Version _ _
      (then_lasts _ _ _ _ _ (number_lasts more w16 version.1) (λ services. test_lasts (is_known services.0) fault.Service _ _ (done_lasts _ _)))))

  data_length_lasts : (bytes : List ℕ) → Lasts (grown more) (data_length_at bytes) (data_length_at (bytes ++ more))
  unfolding data_length_at
  data_length_lasts bytes = then_lasts _ _ _ _ _ (number_lasts more w32 bytes) (λ count. test_lasts (is_data_length count.0) fault.Limit _ _ (done_lasts _ count))

  data_count_lasts : (one : Bool) (bytes : List ℕ) →
      Lasts (grown more) (if one then data_length_at bytes else number_in w16 0 8 fault.Limit bytes)
      (if one then data_length_at (bytes ++ more) else number_in w16 0 8 fault.Limit (bytes ++ more))
  data_count_lasts true bytes = data_length_lasts bytes
  data_count_lasts false bytes = number_in_lasts more w16 0 8 fault.Limit bytes

  pub header_lasts : (bytes : List ℕ) → Lasts (grown more) (header_at bytes) (header_at (bytes ++ more))
  unfolding header_at data_count_at
  header_lasts bytes =
      then_lasts _ _ _ _ _ (services_last bytes) (λ services.
      then_lasts _ _ _ _ _ (number_in_lasts more w32 1 65536 fault.Limit services.1) (λ words.
      then_lasts _ _ _ _ _ (data_count_lasts (services.0.0 == 1) words.1) (λ data_bytes.
      then_lasts _ _ _ _ _ (number_in_lasts more w16 1 16 fault.Limit data_bytes.1) (λ stack_pages.
      then_lasts _ _ _ _ _ (number_in_lasts more w16 1 256 fault.Limit stack_pages.1) (λ functions. done_lasts _ _)))))

  shape_lasts : (cursor : ℕ × List ℕ) → Lasts (grown_after more) (shape_at cursor) (shape_at (cursor.0, cursor.1 ++ more))
  unfolding shape_at
  shape_lasts cursor =
      then_lasts _ _ _ _ _ (number_lasts more w32 cursor.1) (λ size. test_lasts (is_length_behind cursor.0 size.0) fault.Limit _ _
      (then_lasts _ _ _ _ _ (number_in_lasts more w16 0 1 fault.Limit size.1) (λ kind. done_lasts _ _)))

  lengths_last : (one : Bool) (n : ℕ) (bytes : List ℕ) →
      Lasts (grown more) (if one then Ok (shape_of n, bytes) else (items_at shape_at n (0, bytes) >>= λ shapes. Ok (shapes.0, shapes.1.1)))
      (if one then Ok (shape_of n, bytes ++ more) else (items_at shape_at n (0, bytes ++ more) >>= λ shapes. Ok (shapes.0, shapes.1.1)))
  lengths_last true n bytes = done_lasts _ _
  lengths_last false n bytes = then_lasts _ _ _ _ _ (items_last longer_after shape_at shape_lasts n (0, bytes)) (λ shapes. done_lasts _ _)

  pub shapes_last : (h : Header) (bytes : List ℕ) → Lasts (grown more) (shapes_at h bytes) (shapes_at h (bytes ++ more))
  unfolding shapes_at
  shapes_last h bytes = lengths_last (h.version == 1) h.data_count bytes

  pub regions_last : (shapes : List Shape) (bytes : List ℕ) → Lasts (grown more) (regions_at shapes bytes) (regions_at shapes (bytes ++ more))
  unfolding regions_at
  regions_last [] bytes = done_lasts _ _
  regions_last (s ∷ shapes) bytes =
      then_lasts _ _ _ _ _ (bytes_last more s.bytes bytes) (λ own.
      then_lasts _ _ _ _ _ (regions_last shapes own.1) (λ others. done_lasts _ _))

  parts_last : (bytes : List ℕ) → Lasts (grown more) (parts_at bytes) (parts_at (bytes ++ more))
  unfolding parts_at
  parts_last bytes =
      then_lasts _ _ _ _ _ (header_lasts bytes) (λ header.
      then_lasts _ _ _ _ _ (shapes_last header.0 header.1) (λ shapes.
      then_lasts _ _ _ _ _ (items_last longer (number_at w32) (number_lasts more w32) header.0.words shapes.1) (λ words.
      then_lasts _ _ _ _ _ (regions_last shapes.0 words.1) (λ regions.
      then_lasts _ _ _ _ _
      (items_last longer_after (function_at header.0.version (code_start + 4 * header.0.words))
      (function_lasts header.0.version (code_start + 4 * header.0.words)) header.0.functions ((Exactly code_start, 0), regions.1))
      (λ functions. done_lasts _ _)))))

  -- ---- the end of the bytes

  abbrev closed : Parts × List ℕ → Result Parts ImageFault
  closed x = wants (length x.1 == 0) fault.Trailing >>= λ _. Ok x.0

  closed_lasts : (parts : Parts) (rest : List ℕ) (e : ImageFault) → closed (parts, rest) ≡ Err e → closed (parts, rest ++ more) ≡ Err e
  closed_lasts parts [] e p = absurd cc
  closed_lasts parts (b ∷ rest) e p = rw (no_zero (length (rest ++ more))) (subst (λ (z : Bool). (wants z fault.Trailing >>= λ _. done parts) ≡ Err e) (no_zero (length rest)) p)

  whole_lasts : (r s : Result (Parts × List ℕ) ImageFault) (e : ImageFault) → Lasts (grown more) r s → e ≢ fault.Short → (r >>= closed) ≡ Err e → (s >>= closed) ≡ Err e
  whole_lasts (Ok x) s e h ne p = rw (h.ok x refl) (closed_lasts x.0 x.1 e p)
  whole_lasts (Err d) s e h ne p = let q : d ≡ e = cc in rw (h.err e ne (ap (λ (z : ImageFault). failed {X = Parts × List ℕ} z) q)) refl

  reading_lasts : (bytes : List ℕ) (e : ImageFault) → e ≢ fault.Short → reading bytes ≡ Err e → reading (bytes ++ more) ≡ Err e
  unfolding reading
  reading_lasts bytes e ne p = whole_lasts (parts_at bytes) (parts_at (bytes ++ more)) e (parts_last bytes) ne p

-- ---- what a front tells

lasting_is : (d e : ImageFault) → lasting d ≡ Err e → (d ≡ e) × (e ≢ fault.Short)
lasting_is fault.Short e p = absurd cc
lasting_is fault.Magic e p = (err_is _ _ p, λ q. absurd cc)
lasting_is fault.Version e p = (err_is _ _ p, λ q. absurd cc)
lasting_is fault.Service e p = (err_is _ _ p, λ q. absurd cc)
lasting_is fault.Limit e p = (err_is _ _ p, λ q. absurd cc)
lasting_is fault.Trailing e p = (err_is _ _ p, λ q. absurd cc)
lasting_is fault.Order e p = (err_is _ _ p, λ q. absurd cc)
lasting_is fault.Range e p = (err_is _ _ p, λ q. absurd cc)
lasting_is (fault.Memory want) e p = (err_is _ _ p, λ q. absurd cc)

told_is : (r : Result Parts ImageFault) (e : ImageFault) → told r ≡ Err e → (r ≡ Err e) × (e ≢ fault.Short)
told_is (Ok parts) e p = absurd cc
told_is (Err d) e p = let q = lasting_is d e p in (ap (λ (z : ImageFault). failed {X = Parts} z) q.0, q.1)

pub front_lasts : (bytes more : List ℕ) (e : ImageFault) → front bytes ≡ Err e → reading (bytes ++ more) ≡ Err e
front_lasts bytes more e p = let q = told_is (reading bytes) e p in reading_lasts more bytes e q.1 q.0
