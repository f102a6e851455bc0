-- The parts that are read from bytes are an image's: each number that is read is one that its field can hold. That they
-- keep the rules, and that bytes are left behind a header and a region, the format's own laws say.
use Rattle.std.proofs.Common.{◌≡◌, ℕ, zero, suc, ◌+◌, ◌*◌, ◌^◌, ◌<◌, Bool, true, false, List, [], ◌∷◌, ◌++◌, Result, Ok, subst, arith}
use Rattle.std.specs.Prelude.{◌==◌, if◌then◌else◌, FitsSigned, length, nat_lt}
use Rattle.std.specs.Int.{Width, w16, w32, w64}
use Rattle.std.specs.List.{AllByRecursion}
use Rattle.std.proofs.Math.Facts.{sfits_to_z}
use Rattle.std.proofs.lemmas.Bool.{eqb-true}
use Rattle.std.proofs.lemmas.Nat.{and_le_r}
use Rattle.sbx_image.specs.ImageFault.{ImageFault}
use Rattle.sbx_image.specs.ImageFault.TheVariants as fault
use Rattle.sbx_image.specs.declared.heads.Shape.{Shape}
use Rattle.sbx_image.specs.Next.{Next}
use Rattle.sbx_image.specs.Next.TheVariants.{Exactly}
use Rattle.sbx_image.specs.Reading.{block_at, block_head_at, bounds_at, cell_at, counts_at, function_at, function_head_at, items_at, kind_at, location_at}
use Rattle.sbx_image.specs.Reading.{number_at, number_in, parts_at, range_at, reading, regions_at, shape_at, shape_of, shapes_at, signed_at, term_at}
use Rattle.sbx_image.specs.Regions.{AreBytes}
use Rattle.sbx_image.specs.Rules.{◌>>=◌, FunctionsSoFar, admits, between, code_start, in_order, is_coefficient, is_fuel, wants}
use Rattle.sbx_image.specs.Spelling.{IsBytes, IsTyped, IsTypedBlock, IsTypedCell, IsTypedFunction, IsTypedRange, IsTypedRegion, IsTypedTerm}
use Rattle.sbx_image.proofs.Fields.{IsWide, bind_ok, bytes_take, number_in_takes, number_takes, ok_is, wanted, wide16, wide32, wide64, wide8}
use Rattle.sbx_image.proofs.Limits.{parts_kept, version_within}
use Rattle.sbx_image.proofs.RegionLaws.{shape_takes}
use Rattle.sbx_image.proofs.TakesLaws.{header_takes, reading_takes}
use Rattle.sbx_sound.specs.Law.{WhatIsReadIsFormed}

-- ---- what holds of whatever a reader gives

record Yields {X : Type 0} (P : X → Type 0) (r : Result X ImageFault) : Type 0 where
  holds : (x : X) → r ≡ Ok x → P x

yields : {X : Type 0} {P : X → Type 0} {x : X} → P x → Yields P (Ok x)
yields {X} {P} {x} p = record { holds = λ y e. subst P (ok_is x y e) p }

-- a reader, and one that goes on from what it gives
goes_on : {X Y : Type 0} {P : X → Type 0} {Q : Y → Type 0} {r : Result X ImageFault} {f : X → Result Y ImageFault} → Yields P r → ((x : X) → P x → Yields Q (f x)) → Yields Q (r >>= f)
goes_on p q = record { holds = λ y e. (let a = bind_ok _ _ _ e in (q a.0 (p.holds a.0 a.1)).holds y a.2) }

-- a test, and what comes where it holds
tested : {Y : Type 0} {Q : Y → Type 0} (b : Bool) (d : ImageFault) (f : Unit {0} → Result Y ImageFault) → Yields Q (f tt) → Yields Q (wants b d >>= f)
tested b d f q = record { holds = λ y e. q.holds y (wanted b d f y e).1 }

-- bytes are left behind a value
abbrev Behind : {A : Type 0} → (A → Type 0) → A × List ℕ → Type 0
Behind P x = P x.0 × IsBytes x.1

-- the same, where something else goes along with the bytes
abbrev Along : {A S : Type 0} → (A → Type 0) → A × (S × List ℕ) → Type 0
Along P x = P x.0 × IsBytes x.1.1

abbrev Left : {A : Type 0} → A × List ℕ → Type 0
Left x = IsBytes x.1

-- ---- numbers

number_fits : {w : Width} {limit : ℕ} (wide : IsWide w limit) (bytes : List ℕ) → IsBytes bytes → Yields (Behind (λ n. n < limit)) (number_at w bytes)
number_fits {w} {limit} wide bytes fits = record { holds = λ x e. (let t = number_takes w limit wide bytes x fits e in (t.1, t.0.rest_fits)) }

within_left : {w : Width} {limit : ℕ} (wide : IsWide w limit) (low high : ℕ) (bad : ImageFault) (bytes : List ℕ) → IsBytes bytes → Yields Left (number_in w low high bad bytes)
within_left {w} {limit} wide low high bad bytes fits = record { holds = λ x e. (number_in_takes w limit wide low high bad bytes x fits e).0.rest_fits }

word_fits : (bytes : List ℕ) → IsBytes bytes → Yields (Behind (FitsSigned w32)) (signed_at w32 bytes)
word_fits bytes fits = goes_on (number_fits wide32 bytes fits) (λ n a. yields (sfits_to_z (record { fits = a.0 }), a.1))

long_fits : (bytes : List ℕ) → IsBytes bytes → Yields (Behind (FitsSigned w64)) (signed_at w64 bytes)
long_fits bytes fits = goes_on (number_fits wide64 bytes fits) (λ n a. yields (sfits_to_z (record { fits = a.0 }), a.1))

-- ---- items

module _ {A C : Type 0} (item : C → Result (A × C) ImageFault) (left : C → List ℕ) (P : A → Type 0) where
  items_fit : ((c : C) → IsBytes (left c) → Yields (λ x. P x.0 × IsBytes (left x.1)) (item c)) → (n : ℕ) (c : C) → IsBytes (left c) →
      Yields (λ x. AllByRecursion P x.0 × IsBytes (left x.1)) (items_at item n c)
  unfolding items_at
  items_fit one zero c fits = yields (tt, fits)
  items_fit one (suc n) c fits = goes_on (one c fits) (λ x first. goes_on (items_fit one n x.1 first.1) (λ y others. yields ((first.0, others.0), others.1)))

range_fits : (bytes : List ℕ) → IsBytes bytes → Yields (Behind IsTypedRange) (range_at bytes)
unfolding range_at
range_fits bytes fits =
    goes_on (word_fits bytes fits) (λ lo a. goes_on (word_fits lo.1 a.1) (λ hi b. tested (in_order lo.0 hi.0) fault.Range _ (
    goes_on (within_left wide8 _ _ _ hi.1 b.1) (λ alignment c. yields (record { lo = a.0; hi = b.0 }, c)))))

location_left : (last : ℕ) (bytes : List ℕ) → IsBytes bytes → Yields Left (location_at last bytes)
unfolding location_at
location_left last bytes fits = goes_on (within_left wide16 _ _ _ bytes fits) (λ location a. tested (nat_lt last location.0) fault.Order _ (yields a))

cell_fits : (c : ℕ × List ℕ) → IsBytes c.1 → Yields (Along IsTypedCell) (cell_at c)
unfolding cell_at
cell_fits c fits = goes_on (location_left c.0 c.1 fits) (λ location a. goes_on (range_fits location.1 a) (λ range b. yields b))

term_fits : (c : ℕ × List ℕ) → IsBytes c.1 → Yields (Along IsTypedTerm) (term_at c)
unfolding term_at
term_fits c fits = goes_on (location_left c.0 c.1 fits) (λ location a. goes_on (word_fits location.1 a) (λ coefficient b. tested (is_coefficient coefficient.0) fault.Limit _ (yields b)))

-- ---- blocks and functions

block_head_fits : (end : ℕ) (next : Next) (bytes : List ℕ) → IsBytes bytes → Yields (Behind (λ h. (h.address < 2 ^ 32) × FitsSigned w64 h.fuel)) (block_head_at end next bytes)
unfolding block_head_at
block_head_fits end next bytes fits =
    goes_on (number_fits wide32 bytes fits) (λ address a. tested (admits end next address.0) fault.Order _ (
    goes_on (within_left wide16 _ _ _ address.1 a.1) (λ cells b. goes_on (within_left wide16 _ _ _ cells.1 b) (λ terms c.
    goes_on (long_fits terms.1 c) (λ fuel d. tested (is_fuel fuel.0) fault.Limit _ (yields ((a.0, d.0), d.1)))))))

block_fits : (end : ℕ) (c : Next × List ℕ) → IsBytes c.1 → Yields (Along IsTypedBlock) (block_at end c)
unfolding block_at
block_fits end c fits =
    goes_on (block_head_fits end c.0 c.1 fits) (λ head a.
    goes_on (items_fit cell_at (λ y. y.1) IsTypedCell cell_fits head.0.cells (0, head.1) a.1) (λ cells b.
    goes_on (items_fit term_at (λ y. y.1) IsTypedTerm term_fits head.0.terms (0, cells.1.1) b.1) (λ terms d.
    yields (record { address = a.0.0; fuel = a.0.1; cells = b.0; terms = d.0 }, d.1))))

counts_left : (bytes : List ℕ) → IsBytes bytes → Yields Left (counts_at bytes)
unfolding counts_at kind_at
counts_left bytes fits =
    goes_on (goes_on (within_left wide8 _ _ _ bytes fits) (λ code a. yields a)) (λ kind a. goes_on (within_left wide8 _ _ _ kind.1 a) (λ params b.
    goes_on (within_left wide8 _ _ _ params.1 b) (λ results c. goes_on (within_left wide8 _ _ _ results.1 c) (λ unused d. yields d))))

bounds_left : (bytes : List ℕ) → IsBytes bytes → Yields Left (bounds_at bytes)
unfolding bounds_at
bounds_left bytes fits =
    goes_on (within_left wide32 _ _ _ bytes fits) (λ frame a. goes_on (within_left wide32 _ _ _ frame.1 a) (λ stack_room b.
    goes_on (within_left wide64 _ _ _ stack_room.1 b) (λ budget c. yields c)))

depth_fits : (told : Bool) (bytes : List ℕ) → IsBytes bytes → Yields (Behind (λ n. n < 2 ^ 16)) (if told then number_in w16 0 256 fault.Limit bytes else Ok (0, bytes))
depth_fits true bytes fits = goes_on (number_fits wide16 bytes fits) (λ depth a. tested (between 0 256 depth.0) fault.Limit _ (yields a))
depth_fits false bytes fits = yields (omega arith, fits)

function_head_fits : (version end : ℕ) (place : FunctionsSoFar) (bytes : List ℕ) → IsBytes bytes →
    Yields (Behind (λ h. (h.entry < 2 ^ 32) × (h.depth < 2 ^ 16))) (function_head_at version end place bytes)
unfolding function_head_at
function_head_fits version end place bytes fits =
    goes_on (counts_left bytes fits) (λ counts a. goes_on (number_fits wide32 counts.1 a) (λ entry b. tested (admits end place.0 entry.0) fault.Order _ (
    goes_on (bounds_left entry.1 b.1) (λ bounds c. goes_on (depth_fits (version == 3) bounds.1 c) (λ depth d.
    goes_on (within_left wide16 _ _ _ depth.1 d.1) (λ blocks g. yields ((b.0, d.0), g)))))))

function_fits : (version end : ℕ) (c : FunctionsSoFar × List ℕ) → IsBytes c.1 → Yields (Along IsTypedFunction) (function_at version end c)
unfolding function_at
function_fits version end c fits =
    goes_on (function_head_fits version end c.0 c.1 fits) (λ head a.
    goes_on (items_fit range_at (λ y. y) IsTypedRange range_fits head.0.params head.1 a.1) (λ params b.
    goes_on (items_fit range_at (λ y. y) IsTypedRange range_fits head.0.results params.1 b.1) (λ results d.
    goes_on (items_fit (block_at end) (λ y. y.1) IsTypedBlock (block_fits end) head.0.blocks (Exactly head.0.entry, results.1) d.1) (λ blocks g.
    yields (record { entry = a.0.0; depth = a.0.1; params = b.0; results = d.0; blocks = g.0 }, g.1)))))

-- ---- the whole

shapes_left : (one : Bool) (n : ℕ) (bytes : List ℕ) → IsBytes bytes →
    Yields Left (if one then Ok (shape_of n, bytes) else (items_at shape_at n (0, bytes) >>= λ shapes. Ok (shapes.0, shapes.1.1)))
shapes_left true n bytes fits = yields fits
shapes_left false n bytes fits = goes_on (items_fit shape_at (λ y. y.1) (λ _. Unit {0}) shape_left n (0, bytes) fits) (λ shapes a. yields a.1)
  where
    shape_left : (c : ℕ × List ℕ) → IsBytes c.1 → Yields (Along (λ (shape : Shape). Unit {0})) (shape_at c)
    shape_left c fits = record { holds = λ x e. (tt, (shape_takes c.0 c.1 x fits e).0.rest_fits) }

-- the bytes in front are bytes
front_bytes : (xs ys : List ℕ) → IsBytes (xs ++ ys) → AreBytes xs
front_bytes [] ys fits i = omega arith
front_bytes (x ∷ xs) ys fits zero = fits 0
front_bytes (x ∷ xs) ys fits (suc i) = front_bytes xs ys (λ j. fits (suc j)) i

regions_fit : (shapes : List Shape) (bytes : List ℕ) → IsBytes bytes → Yields (Behind (AllByRecursion IsTypedRegion)) (regions_at shapes bytes)
unfolding regions_at
regions_fit [] bytes fits = yields (tt, fits)
regions_fit (shape ∷ shapes) bytes fits =
    goes_on (record { holds = λ x e. (bytes_take shape.bytes bytes x fits e).0 }) (λ own t. goes_on (regions_fit shapes own.1 t.rest_fits) (λ others b.
    yields ((front_bytes own.0 own.1 (subst IsBytes t.parts fits), b.0), b.1)))

parts_fit : (bytes : List ℕ) → IsBytes bytes → Yields (λ x. x.0.version < 2 ^ 16 → x.0.services.0 < 2 ^ 16 → IsTyped x.0) (parts_at bytes)
unfolding parts_at shapes_at
parts_fit bytes fits =
    goes_on (record { holds = λ x e. (header_takes bytes x fits e).0.rest_fits }) (λ header a.
    goes_on (shapes_left (header.0.version == 1) header.0.data_count header.1 a) (λ shapes b.
    goes_on (items_fit (number_at w32) (λ y. y) (λ n. n < 2 ^ 32) (number_fits wide32) header.0.words shapes.1 b) (λ words c.
    goes_on (regions_fit shapes.0 words.1 c.1) (λ regions d.
    let end = code_start + 4 * header.0.words in
    goes_on (items_fit (function_at header.0.version end) (λ y. y.1) IsTypedFunction (function_fits header.0.version end) header.0.functions ((Exactly code_start, 0), regions.1) d.1)
    (λ functions f. yields (λ version services. record { version = version; services = services; words = c.0; regions = d.0; functions = f.0 }))))))

reading_fits : (bytes : List ℕ) → IsBytes bytes → Yields (λ p. p.version < 2 ^ 16 → p.services.0 < 2 ^ 16 → IsTyped p) (reading bytes)
unfolding reading
reading_fits bytes fits = goes_on (parts_fit bytes fits) (λ parts p. tested (length parts.1 == 0) fault.Trailing _ (yields p))

pub what_is_read_is_formed : WhatIsReadIsFormed
what_is_read_is_formed bytes p fits e =
    let kept = (reading_takes bytes p fits e).1 in
    let services = and_le_r p.services.0 7 in
    let known = eqb-true _ _ (parts_kept p kept).services in
    record {
      kept = kept;
      typed = (reading_fits bytes fits).holds p e (omega (arith, (version_within p kept).1)) (omega (arith, services, known));
    }
