-- After loads and stores, of data and of frame words.
use Rattle.std.proofs.Common.{◌≡◌, ℕ, ◌*◌, ◌/◌, ◌%◌, ◌^◌, ◌<◌, Bool, true, false, Option, Some, None, refl, sym, ap, ◌∙◌, subst, arith}
use Rattle.std.specs.Prelude.{◌+◌, ◌-◌, ◌==◌, nat_lt, if◌then◌else◌}
use Rattle.std.proofs.Math.Path.{fun_ext}
use Rattle.std.proofs.lemmas.Nat.{mod_below}
use Rattle.v8_word.specs.Word.{sign_extend}
use Rattle.v8_word.specs.declared.Size.TheVariants as sizes
use Rattle.v8_meaning.specs.Transfers.{bytes_in, exchanged_size, loaded, loaded_size, odd_of}
use Rattle.v8_meaning.specs.declared.operation.Exchange.{Exchange as Exchanging}
use Rattle.v8_meaning.specs.declared.operation.Exchange.TheVariants as exchanges
use Rattle.v8_meaning.specs.declared.operation.Loading.{Loading}
use Rattle.v8_meaning.specs.declared.operation.Loading.TheVariants as loadings
use Rattle.v8_meaning.specs.declared.operation.MemoryOperand.{MemoryOperand}
use Rattle.v8_meaning.specs.declared.operation.Operation.TheVariants.{Transfer}
use Rattle.v8_meaning.specs.declared.operation.Transfer.{Transfer as Moving}
use Rattle.v8_meaning.specs.declared.operation.Transfer.TheVariants.{Exchange, Load, Store}
use Rattle.sbx_image.specs.Range.{Range}
use Rattle.sbx_form.specs.Forms.{Cells}
use Rattle.sbx_range.specs.Ranges.{InRange, all}
use Rattle.sbx_range.proofs.Alignments.{any-word, loads_stay_in}
use Rattle.sbx_range.proofs.Words.{in_all}
use Rattle.sbx_domain.specs.declared.entry.Entry.{Entry}
use Rattle.sbx_domain.specs.declared.relation.Relation.{Relation}
use Rattle.sbx_domain.specs.Known.{Known, is_location, names, plain_entry, with_entry, without_location}
use Rattle.sbx_domain.specs.Results.{register_entry}
use Rattle.sbx_domain.specs.Transfer.{frame_word_of, transferred, with_moved}
use Rattle.sbx_fits.specs.Held.{Held, Keeps, with_location, with_pairs}
use Rattle.sbx_fits.specs.Laws.{DataKeepsFitting, FrameWordsKeepFitting}
use Rattle.sbx_fits.proofs.Entries.{Has, register_has, register_multiple}
use Rattle.sbx_fits.proofs.Known.{fits_written, near_written}

-- ---- a range without a form

pub plain_has : (start : Cells) (r : Range) (w : ℕ) → InRange r w → Has start (Some (plain_entry r)) w
plain_has start r w is = record { interval = is.interval; form = tt }

pub plain_keeps : (l v : ℕ) (r : Range) (d : Known) (h : Held) → v < 2 ^ 32 → InRange r v → Keeps d (with_entry l (Some (plain_entry r)) d) h (with_location l v h)
plain_keeps l v r d h small is = record {
  near = λ start near. near_written start d h.words h.icc h.y l v (Some (plain_entry r)) small (plain_has start r v is) near;
  fits = λ start fits. fits_written start d h.words h.icc h.y l v (Some (plain_entry r)) small (plain_has start r v is) is.aligned fits;
}

pub any_range : (w : ℕ) → w < 2 ^ 32 → InRange (all 0) w
any_range w small = record { interval = in_all 0 w small; aligned = any-word w }

then_keeps : (d e f : Known) (h k l : Held) → Keeps d e h k → Keeps e f k l → Keeps d f h l
then_keeps d e f h k l p q = record { near = λ start near. q.near start (p.near start near); fits = λ start fits. q.fits start (p.fits start fits) }

-- ---- two writes of one thing, in either order

abbrev blotted : Bool → ℕ → Option Entry → Known → Known
blotted t l e d = if t then record d { entry = λ k. if k == l then e else d.entry k; relation = without_location l d.relation } else d

either_first : (s t : Bool) (e old : Option Entry) → (if s then e else (if t then e else old)) ≡ (if t then e else (if s then e else old))
either_first true true e old = refl
either_first true false e old = refl
either_first false true e old = refl
either_first false false e old = refl

either_ends : (a b : ℕ) (r : Option Relation) → without_location a (without_location b r) ≡ without_location b (without_location a r)
either_ends a b None = refl
either_ends a b (Some r) = by_tests (names a r) (names b r) refl refl
  where
    by_tests : (s t : Bool) → names a r ≡ s → names b r ≡ t → without_location a (if t then None else Some r) ≡ without_location b (if s then None else Some r)
    by_tests true true p q = refl
    by_tests true false p q = ap (λ (x : Bool). if x then None else Some r) p
    by_tests false true p q = sym (ap (λ (x : Bool). if x then None else Some r) q)
    by_tests false false p q = ap (λ (x : Bool). if x then None else Some r) (p ∙ sym q)

either_blotted : (s t : Bool) (a b : ℕ) (e : Option Entry) (d : Known) → blotted s a e (blotted t b e d) ≡ blotted t b e (blotted s a e d)
either_blotted true true a b e d =
    ap (λ (f : ℕ → Option Entry). record d { entry = f; relation = without_location a (without_location b d.relation) }) (fun_ext (λ k. either_first (k == a) (k == b) e (d.entry k)))
    ∙ ap (λ (r : Option Relation). record d { entry = λ k. if k == b then e else (if k == a then e else d.entry k); relation = r }) (either_ends a b d.relation)
either_blotted true false a b e d = refl
either_blotted false true a b e d = refl
either_blotted false false a b e d = refl

either_written : (a b : ℕ) (e : Option Entry) (d : Known) → with_entry a e (with_entry b e d) ≡ with_entry b e (with_entry a e d)
unfolding with_entry
either_written a b e d = either_blotted (is_location a) (is_location b) a b e d

-- ---- data

below_if : (t : Bool) (a b n : ℕ) → a < n → b < n → (if t then a else b) < n
below_if true a b n p q = p
below_if false a b n p q = q

signed_byte_word : (n : ℕ) → n < 2 ^ 8 → sign_extend 8 n < 2 ^ 32
signed_byte_word n h = below_if (nat_lt n (2 ^ 7)) n (n + (2 ^ 32 - 2 ^ 8)) (2 ^ 32) (omega arith) (omega arith)

signed_half_word : (n : ℕ) → n < 2 ^ 16 → sign_extend 16 n < 2 ^ 32
signed_half_word n h = below_if (nat_lt n (2 ^ 15)) n (n + (2 ^ 32 - 2 ^ 16)) (2 ^ 32) (omega arith) (omega arith)

load_keeps : (l : Loading) (rd : ℕ) (d : Known) (h : Held) (n : ℕ) → n < 2 ^ (8 * bytes_in (loaded_size l)) → Keeps d (with_moved None (Load l) rd d) h (with_pairs (loaded l rd n) h)
load_keeps loadings.UnsignedByte rd d h n small = plain_keeps rd n _ d h (omega arith) (loads_stay_in.unsigned_bytes n small)
load_keeps loadings.SignedByte rd d h n small = plain_keeps rd (sign_extend 8 n) _ d h (signed_byte_word n small) (loads_stay_in.signed_bytes n small)
load_keeps loadings.UnsignedHalf rd d h n small = plain_keeps rd n _ d h (omega arith) (loads_stay_in.unsigned_halves n small)
load_keeps loadings.SignedHalf rd d h n small = plain_keeps rd (sign_extend 16 n) _ d h (signed_half_word n small) (loads_stay_in.signed_halves n small)
load_keeps loadings.Word rd d h n small = plain_keeps rd n _ d h small (any_range n small)
load_keeps loadings.Double rd d h n small =
    let high : n / 2 ^ 32 < 2 ^ 32 = omega arith in
    let low : n % 2 ^ 32 < 2 ^ 32 = mod_below n (2 ^ 32) (omega arith) in
    let e : Option Entry = Some (plain_entry (all 0)) in
    let first = plain_keeps (odd_of rd) (n % 2 ^ 32) (all 0) d h low (any_range _ low) in
    let both = then_keeps d (with_entry (odd_of rd) e d) (with_entry rd e (with_entry (odd_of rd) e d)) h (with_location (odd_of rd) (n % 2 ^ 32) h)
    (with_location rd (n / 2 ^ 32) (with_location (odd_of rd) (n % 2 ^ 32) h))
    first (plain_keeps rd (n / 2 ^ 32) (all 0) (with_entry (odd_of rd) e d) (with_location (odd_of rd) (n % 2 ^ 32) h) high (any_range _ high)) in
    subst (λ k. Keeps d k h (with_location rd (n / 2 ^ 32) (with_location (odd_of rd) (n % 2 ^ 32) h))) (either_written rd (odd_of rd) e d) both

exchange_keeps : (word : Option ℕ) (e : Exchanging) (rd : ℕ) (d : Known) (h : Held) (n : ℕ) → n < 2 ^ (8 * bytes_in (exchanged_size e)) →
    Keeps d (with_moved word (Exchange e) rd d) h (with_location rd n h)
exchange_keeps word exchanges.Ones rd d h n small = plain_keeps rd n _ d h (omega arith) (loads_stay_in.unsigned_bytes n small)
exchange_keeps word exchanges.Register rd d h n small = plain_keeps rd n _ d h small (any_range n small)

same_keeps : (d : Known) (h : Held) → Keeps d d h h
same_keeps d h = record { near = λ start near. near; fits = λ start fits. fits }

-- by the frame word that an address names
moved_keeps : (frame : ℕ) (t : Moving) (m : MemoryOperand) (d : Known) (h k : Held) (word : Option ℕ) → frame_word_of frame m ≡ word →
    Keeps d (with_moved word t m.rd d) h k → Keeps d (transferred frame (Transfer t m) d) h k
unfolding transferred
moved_keeps frame t m d h k word is keeps = subst (λ w. Keeps d (with_moved w t m.rd d) h k) (sym is) keeps

pub data_keeps_fitting : DataKeepsFitting
data_keeps_fitting = record {
  load = λ frame l m d h n none small. moved_keeps frame (Load l) m d h (with_pairs (loaded l m.rd n) h) None none (load_keeps l m.rd d h n small);
  store = λ frame size m d h none. moved_keeps frame (Store size) m d h h None none (same_keeps d h);
  exchange = λ frame e m d h n small. moved_keeps frame (Exchange e) m d h (with_location m.rd n h) (frame_word_of frame m) refl (exchange_keeps (frame_word_of frame m) e m.rd d h n small);
}

-- ---- frame words

read_keeps : (l rd : ℕ) (d : Known) (h : Held) → Keeps d (with_entry rd (d.entry l) d) h (with_location rd (h.words l) h)
read_keeps l rd d h = record {
  near = λ start near. near_written start d h.words h.icc h.y rd (h.words l) (d.entry l) (near.are_words l) (record { interval = near.intervals l; form = near.forms l }) near;
  fits = λ start fits. fits_written start d h.words h.icc h.y rd (h.words l) (d.entry l) (fits.near.are_words l)
      (record { interval = fits.near.intervals l; form = fits.near.forms l }) (fits.multiples l) fits;
}

stored_keeps : (l rd : ℕ) (d : Known) (h : Held) → Keeps d (with_entry l (register_entry d rd) d) h (with_location l (h.words rd) h)
stored_keeps l rd d h = record {
  near = λ start near. near_written start d h.words h.icc h.y l (h.words rd) (register_entry d rd) (near.are_words rd) (register_has start d h.words h.icc h.y rd near) near;
  fits = λ start fits. fits_written start d h.words h.icc h.y l (h.words rd) (register_entry d rd) (fits.near.are_words rd) (register_has start d h.words h.icc h.y rd fits.near)
      (register_multiple start d h.words h.icc h.y rd fits) fits;
}

pub frame_words_keep_fitting : FrameWordsKeepFitting
frame_words_keep_fitting = record {
  load = λ frame l m d h is. moved_keeps frame (Load loadings.Word) m d h (with_location m.rd (h.words l) h) (Some l) is (read_keeps l m.rd d h);
  store = λ frame l m d h is. moved_keeps frame (Store sizes.Word) m d h (with_location l (h.words m.rd) h) (Some l) is (stored_keeps l m.rd d h);
}
