-- The lines of words, one after another.
use Rattle.std.proofs.Common.{◌≡◌, refl, ℕ, ◌+◌, ◌<◌, List, [], ◌∷◌, ◌++◌, Option, length, slice_index, drop, sym, ap, ◌∙◌, add-one, append_assoc, append-nil, drop-cons}
use Rattle.std.specs.Io.KnownBytes.{Appends, Keeps}
use Rattle.std.proofs.KnownBytes.{Appends-nil, Appends-trans}
use Rattle.v8_map.specs.declared.TheConstants.{CODE_START}
use Rattle.sbx_put.specs.Fronts.{WroteSome}
use Rattle.sbx_put.proofs.Written.{kept_after}
use Rattle.cmd_listing.specs.Listing.{listing, word_line}

-- so many lines are written, and those that are left make the listing whole
abbrev pub IsListedTo : List ℕ → ℕ → List ℕ → Option (List ℕ) → Option (List ℕ) → Type 0
IsListedTo words address left old now = (done : List ℕ) × Appends old now done × (done ++ listing address left ≡ listing CODE_START words)

-- the line of a word, and the lines of the words behind it
first_line : (words : List ℕ) (address i : ℕ) → i < length words
    → listing address (drop i words) ≡ word_line address (slice_index words i) ++ listing (address + 4) (drop (i + 1) words)
first_line words address i lt =
    let front : drop i words ≡ slice_index words i ∷ drop (i + 1) words = rw add-one (drop-cons words i 0 lt) in
    ap (λ (ys : List ℕ). listing address ys) front

-- one line more
pub line_more : (words : List ℕ) (address i : ℕ) (old mid new : Option (List ℕ)) → i < length words
    → Appends mid new (word_line address (slice_index words i)) → IsListedTo words address (drop i words) old mid → IsListedTo words (address + 4) (drop (i + 1) words) old new
line_more words address i old mid new lt step (done, put, rest) =
    let line : List ℕ = word_line address (slice_index words i) in (
      done ++ line,
      Appends-trans old mid new done line put step,
      append_assoc done line (listing (address + 4) (drop (i + 1) words)) ∙ ap (λ (ys : List ℕ). done ++ ys) (sym (first_line words address i lt)) ∙ rest,
    )

-- the first bytes of one line more
pub line_begun : (words : List ℕ) (address i : ℕ) (old mid new : Option (List ℕ)) → i < length words
    → WroteSome mid new (word_line address (slice_index words i)) → IsListedTo words address (drop i words) old mid → WroteSome old new (listing CODE_START words)
line_begun words address i old mid new lt (front, left, is, step) (done, put, rest) =
    let more : List ℕ = listing (address + 4) (drop (i + 1) words) in
    let lines : listing address (drop i words) ≡ front ++ (left ++ more) = first_line words address i lt ∙ ap (λ (ys : List ℕ). ys ++ more) is ∙ append_assoc front left more in (
      done ++ front,
      left ++ more,
      sym rest ∙ ap (λ (ys : List ℕ). done ++ ys) lines ∙ sym (append_assoc done front (left ++ more)),
      Appends-trans old mid new done front put step,
    )

-- nothing is listed yet
pub begun : (words : List ℕ) (old : Option (List ℕ)) → IsListedTo words CODE_START words old old
begun words old = ([], Appends-nil old, refl)

-- all is listed, and a flush keeps it, done or failed
pub ended : (words : List ℕ) (address : ℕ) (old mid new : Option (List ℕ)) → IsListedTo words address [] old mid → Keeps mid new
    → Appends old new (listing CODE_START words)
ended words address old mid new (done, put, rest) kept = kept_after old mid new (listing CODE_START words) (rw (sym (sym (append-nil done) ∙ rest)) put) kept

pub unflushed : (words : List ℕ) (address : ℕ) (old mid new : Option (List ℕ)) → IsListedTo words address [] old mid → Keeps mid new
    → WroteSome old new (listing CODE_START words)
unflushed words address old mid new listed kept = (listing CODE_START words, [], sym (append-nil (listing CODE_START words)), ended words address old mid new listed kept)
