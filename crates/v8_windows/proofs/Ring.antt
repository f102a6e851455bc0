-- What the rings of halves and the current window's registers stand for: reads, writes, and another window.
use Rattle.std.proofs.Common.{◌≡◌, ◌≢◌, ℕ, zero, suc, ◌+◌, ◌-◌, ◌^◌, ◌<◌, ◌≤◌, ◌⊎◌, inl, inr, List, [], ◌++◌, length, get_or, replicate, refl, sym, ap, ◌∙◌, subst, arith, lit<}
use Rattle.std.specs.Prelude.{slice_index, slice_set}
use Rattle.std.proofs.lemmas.Bool.Decides.{nat_tests}
use Rattle.std.proofs.lemmas.List.{get_or-set_same, get_or-set_other, length-set, length-append, get_or_append_left, get_or-append_right, set-set, set_comm, set-get_or, get_or-replicate, get_or_past}
use Rattle.v8_windows.specs.Windows.{Windows, IsFile, AreGlobals, reg_of, with_reg, word_at, with_word, above, moved}
use Rattle.v8_windows.specs.Halves.{eight, rows_of, with_outs, with_locals, shown, IsHalf, AreHalves, AreRegisters}
use Rattle.v8_windows.proofs.Eights.{eight_globals, eight_outs, eight_locals, eight_ins, eight_index, eight_length, eight_half, eight_written, eight_below, eight_above}
use Rattle.v8_windows.proofs.Rows.{row_is, rows_new, rows_are, halves_set, row_set_out, row_set_local}
use Rattle.v8_windows.proofs.Shape.{fit_written}
use Rattle.v8_windows.proofs.AfterWrites.{above_less, above_other}

-- the rings once the current window is written back
pub outs_kept : (n w : ℕ) (outs : List (List ℕ)) (flat : List ℕ) → 4 ≤ n → w < n → AreHalves n outs → AreRegisters flat → AreHalves n (with_outs n outs flat w)
outs_kept n w outs flat few here h f =
    halves_set n (above n w) (slice_set outs w (eight 8 flat)) (eight 24 flat)
    (halves_set n w outs (eight 8 flat) h (eight_half 8 flat f (omega arith)) here)
    (eight_half 24 flat f (omega arith)) (above_less n w few here)

pub locals_kept : (n w : ℕ) (locals : List (List ℕ)) (flat : List ℕ) → w < n → AreHalves n locals → AreRegisters flat → AreHalves n (with_locals locals flat w)
locals_kept n w locals flat here h f = halves_set n w locals (eight 16 flat) h (eight_half 16 flat f (omega arith)) here

-- what a file holds has the shape of a file's windows
pub shown_globals : (flat : List ℕ) → AreRegisters flat → AreGlobals (eight 0 flat)
shown_globals flat f = let half = eight_half 0 flat f (omega arith) in record { count = half.count; fit = half.fit }

pub shown_file : (n w mask : ℕ) (outs locals : List (List ℕ)) (flat : List ℕ) → 4 ≤ n → n ≤ 32 → w < n → mask < 2 ^ n → AreRegisters flat → AreHalves n outs →
    AreHalves n locals → IsFile n (shown n outs locals flat w mask)
shown_file n w mask outs locals flat few many here small f o l =
    record {
      few = few;
      many = many;
      current = here;
      mask = small;
      globals = shown_globals flat f;
      rows = rows_are n (with_outs n outs flat w) (with_locals locals flat w) (outs_kept n w outs flat few here o f) (locals_kept n w locals flat here l f);
    }

-- the current window's halves in the rings
outs_here : (n w : ℕ) (outs : List (List ℕ)) (flat : List ℕ) → 4 ≤ n → w < n → AreHalves n outs → get_or (with_outs n outs flat w) w [] ≡ eight 8 flat
outs_here n w outs flat few here h =
    let other : w ≢ above n w = λ e. above_other n w few here (sym e) in
    let within : w < length outs = omega (arith, h.count) in
    get_or-set_other (slice_set outs w (eight 8 flat)) (above n w) w (eight 24 flat) [] other ∙ get_or-set_same outs w (eight 8 flat) [] within

outs_above : (n w : ℕ) (outs : List (List ℕ)) (flat : List ℕ) → 4 ≤ n → w < n → AreHalves n outs → get_or (with_outs n outs flat w) (above n w) [] ≡ eight 24 flat
outs_above n w outs flat few here h =
    let there = above_less n w few here in
    let within : above n w < length (slice_set outs w (eight 8 flat)) = omega (arith, h.count, length-set outs w (eight 8 flat), there) in
    get_or-set_same (slice_set outs w (eight 8 flat)) (above n w) (eight 24 flat) [] within

locals_here : (n w : ℕ) (locals : List (List ℕ)) (flat : List ℕ) → w < n → AreHalves n locals → get_or (with_locals locals flat w) w [] ≡ eight 16 flat
locals_here n w locals flat here h =
    let within : w < length locals = omega (arith, h.count) in
    get_or-set_same locals w (eight 16 flat) [] within

same_length : (n w : ℕ) (outs locals : List (List ℕ)) (flat : List ℕ) → AreHalves n outs → AreHalves n locals → length (with_outs n outs flat w) ≡ length (with_locals locals flat w)
same_length n w outs locals flat o l =
    let a : length (with_outs n outs flat w) ≡ length outs = length-set (slice_set outs w (eight 8 flat)) (above n w) (eight 24 flat) ∙ length-set outs w (eight 8 flat) in
    let b : length (with_locals locals flat w) ≡ length locals = length-set locals w (eight 16 flat) in
    omega (arith, a, b, o.count, l.count)

-- another window: the rings written back, and its registers taken from them
pub entered : (n w v mask : ℕ) (outs locals : List (List ℕ)) (flat : List ℕ) → 4 ≤ n → w < n → v < n → AreRegisters flat → AreHalves n outs → AreHalves n locals →
    shown n (with_outs n outs flat w) (with_locals locals flat w)
    (eight 0 flat ++ (get_or (with_outs n outs flat w) v [] ++ (get_or (with_locals locals flat w) v [] ++ get_or (with_outs n outs flat w) (above n v) []))) v mask
    ≡ moved (shown n outs locals flat w mask) v
entered n w v mask outs locals flat few here there f o l =
    let a = eight_length 0 flat (omega (arith, f.count)) in
    let outs_fine = outs_kept n w outs flat few here o f in
    let locals_fine = locals_kept n w locals flat here l f in
    let b = (outs_fine.each v there).count in
    let c = (locals_fine.each v there).count in
    let d = (outs_fine.each (above n v) (above_less n v few there)).count in
    same (eight_globals (eight 0 flat) (get_or O v []) (get_or L v []) (get_or O (above n v) []) a)
    (eight_outs (eight 0 flat) (get_or O v []) (get_or L v []) (get_or O (above n v) []) a b)
    (eight_locals (eight 0 flat) (get_or O v []) (get_or L v []) (get_or O (above n v) []) a b c)
    (eight_ins (eight 0 flat) (get_or O v []) (get_or L v []) (get_or O (above n v) []) a b c d)
  where
    O : List (List ℕ)
    O = with_outs n outs flat w

    L : List (List ℕ)
    L = with_locals locals flat w

    registers : List ℕ
    registers = eight 0 flat ++ (get_or O v [] ++ (get_or L v [] ++ get_or O (above n v) []))

    same : eight 0 registers ≡ eight 0 flat → eight 8 registers ≡ get_or O v [] → eight 16 registers ≡ get_or L v [] → eight 24 registers ≡ get_or O (above n v) [] →
        shown n O L registers v mask ≡ moved (shown n outs locals flat w mask) v
    same p q r s =
        let out : slice_set O v (eight 8 registers) ≡ O = ap (slice_set O v) q ∙ set-get_or O v [] in
        let in_ : slice_set O (above n v) (eight 24 registers) ≡ O = ap (slice_set O (above n v)) s ∙ set-get_or O (above n v) [] in
        let both : with_outs n O registers v ≡ O = ap (λ t. slice_set t (above n v) (eight 24 registers)) out ∙ in_ in
        let local : with_locals L registers v ≡ L = ap (slice_set L v) r ∙ set-get_or L v [] in
        ap (λ g. record { globals = g; words = rows_of (with_outs n O registers v) (with_locals L registers v); current = v; mask = mask }) p
        ∙ ap (λ t. record { globals = eight 0 flat; words = rows_of t (with_locals L registers v); current = v; mask = mask }) both
        ∙ ap (λ t. record { globals = eight 0 flat; words = rows_of O t; current = v; mask = mask }) local

-- the registers that a window's halves make
pub registers_kept : (g o l i : List ℕ) → IsHalf g → IsHalf o → IsHalf l → IsHalf i → slice_index g 0 ≡ 0 → AreRegisters (g ++ (o ++ (l ++ i)))
registers_kept g o l i a b c d none =
    let x = a.count in
    let y = b.count in
    let z = c.count in
    let u = d.count in
    let long : length (g ++ (o ++ (l ++ i))) ≡ 32 = omega (arith, length-append g (o ++ (l ++ i)), length-append o (l ++ i), length-append l i, x, y, z, u) in
    let first : slice_index (g ++ (o ++ (l ++ i))) 0 ≡ slice_index g 0 = get_or_append_left g (o ++ (l ++ i)) 0 0 (omega (arith, x)) in
    record {
      count = long;
      zero = first ∙ none;
      fit = joined g (o ++ (l ++ i)) a.fit (joined o (l ++ i) b.fit (joined l i c.fit d.fit));
    }
  where
    joined : (xs ys : List ℕ) → ((k : ℕ) → slice_index xs k < 2 ^ 32) → ((k : ℕ) → slice_index ys k < 2 ^ 32) → (k : ℕ) → slice_index (xs ++ ys) k < 2 ^ 32
    joined xs ys p q k =
        let split : (k < length xs) ⊎ (length xs ≤ k) = search arith in
        elim split [
          | inl low ↦ let is : slice_index (xs ++ ys) k ≡ slice_index xs k = get_or_append_left xs ys 0 k low in rw is (p k)
          | inr high ↦ let is : slice_index (xs ++ ys) k ≡ slice_index ys (k - length xs) = get_or-append_right xs ys (length xs) k 0 refl high in rw is (q (k - length xs))
        ]

pub entered_registers : (n w v : ℕ) (outs locals : List (List ℕ)) (flat : List ℕ) → 4 ≤ n → w < n → v < n → AreRegisters flat → AreHalves n outs → AreHalves n locals →
    AreRegisters (eight 0 flat ++ (get_or (with_outs n outs flat w) v [] ++ (get_or (with_locals locals flat w) v [] ++ get_or (with_outs n outs flat w) (above n v) [])))
entered_registers n w v outs locals flat few here there f o l =
    let outs_fine = outs_kept n w outs flat few here o f in
    let locals_fine = locals_kept n w locals flat here l f in
    registers_kept (eight 0 flat) (get_or (with_outs n outs flat w) v []) (get_or (with_locals locals flat w) v [])
    (get_or (with_outs n outs flat w) (above n v) []) (eight_half 0 flat f (omega arith)) (outs_fine.each v there) (locals_fine.each v there)
    (outs_fine.each (above n v) (above_less n v few there))
    (eight_index 0 0 flat (omega arith) ∙ f.zero)

-- What is known of the fields of a file whose current window has become v, and was another one in old.
pub record Entered (n v mask : ℕ) (out_ring local_ring : List (List ℕ)) (flat : List ℕ) (old : Windows) : Type 0 where
  pub shows : shown n out_ring local_ring flat v mask ≡ moved old v
  pub registers : AreRegisters flat
  pub outs : AreHalves n out_ring
  pub locals : AreHalves n local_ring

-- the same of the words that were read and written, however they are named
pub entered_as : (n w v mask : ℕ) (outs locals : List (List ℕ)) (flat h0 h8 h16 h24 new : List ℕ) (a b : ℕ) →
    4 ≤ n → w < n → v < n → AreRegisters flat → AreHalves n outs → AreHalves n locals →
    h0 ≡ eight 0 flat → h8 ≡ eight 8 flat → h16 ≡ eight 16 flat → h24 ≡ eight 24 flat → a ≡ above n w → b ≡ above n v →
    new ≡ h0 ++ (get_or (slice_set (slice_set outs w h8) a h24) v [] ++ (get_or (slice_set locals w h16) v [] ++ get_or (slice_set (slice_set outs w h8) a h24) b [])) →
    Entered n v mask (slice_set (slice_set outs w h8) a h24) (slice_set locals w h16) new (shown n outs locals flat w mask)
entered_as n w v mask outs locals flat h0 h8 h16 h24 new a b few here there f o l p q r s t u e =
    let old = shown n outs locals flat w mask in
    let O1 = slice_set (slice_set outs w h8) a h24 in
    let L1 = slice_set locals w h16 in
    let O = with_outs n outs flat w in
    let L = with_locals locals flat w in
    let o_is : O1 ≡ O =
    ap (λ x. slice_set (slice_set outs w x) a h24) q
    ∙ ap (λ k. slice_set (slice_set outs w (eight 8 flat)) k h24) t
    ∙ ap (slice_set (slice_set outs w (eight 8 flat)) (above n w)) s in
    let l_is : L1 ≡ L = ap (slice_set locals w) r in
    let new_is : new ≡ eight 0 flat ++ (get_or O v [] ++ (get_or L v [] ++ get_or O (above n v) [])) =
    e
    ∙ ap (λ x. x ++ (get_or O1 v [] ++ (get_or L1 v [] ++ get_or O1 b []))) p
    ∙ ap (λ x. eight 0 flat ++ (get_or x v [] ++ (get_or L1 v [] ++ get_or x b []))) o_is
    ∙ ap (λ x. eight 0 flat ++ (get_or O v [] ++ (get_or x v [] ++ get_or O b []))) l_is
    ∙ ap (λ k. eight 0 flat ++ (get_or O v [] ++ (get_or L v [] ++ get_or O k []))) u in
    let known : Entered n v mask O L (eight 0 flat ++ (get_or O v [] ++ (get_or L v [] ++ get_or O (above n v) []))) old =
    record {
      shows = entered n w v mask outs locals flat few here there f o l;
      registers = entered_registers n w v outs locals flat few here there f o l;
      outs = outs_kept n w outs flat few here o f;
      locals = locals_kept n w locals flat here l f;
    } in
    subst (λ x. Entered n v mask x L1 new old) (sym o_is) (subst (λ x. Entered n v mask O x new old) (sym l_is) (subst (λ x. Entered n v mask O L x old) (sym new_is) known))

-- a new file
abbrev zeros : ℕ → List ℕ
zeros n = replicate n 0

pub shown_new : (n : ℕ) → 4 ≤ n → shown n (replicate n (zeros 8)) (replicate n (zeros 8)) (zeros 32) 0 0
    ≡ record { globals = zeros 8; words = replicate n (zeros 16); current = 0; mask = 0 }
shown_new n few =
    ap (λ o. record { globals = zeros 8; words = rows_of o (slice_set (replicate n (zeros 8)) 0 (zeros 8)); current = 0; mask = 0 }) both
    ∙ ap (λ l. record { globals = zeros 8; words = rows_of (replicate n (zeros 8)) l; current = 0; mask = 0 }) (stays 0 (omega arith))
    ∙ ap (λ rows. record { globals = zeros 8; words = rows; current = 0; mask = 0 }) (rows_new n)
  where
    stays : (w : ℕ) → w < n → slice_set (replicate n (zeros 8)) w (zeros 8) ≡ replicate n (zeros 8)
    stays w less =
        ap (slice_set (replicate n (zeros 8)) w) (sym (get_or-replicate n w (zeros 8) [] less)) ∙ set-get_or (replicate n (zeros 8)) w []

    both : slice_set (slice_set (replicate n (zeros 8)) 0 (zeros 8)) (above n 0) (zeros 8) ≡ replicate n (zeros 8)
    both = ap (λ t. slice_set t (above n 0) (zeros 8)) (stays 0 (omega arith)) ∙ stays (above n 0) (above_less n 0 few (omega arith))

pub registers_new : AreRegisters (zeros 32)
registers_new = record { count = refl; zero = refl; fit = fits }
  where
    fits : (k : ℕ) → slice_index (zeros 32) k < 2 ^ 32
    fits k =
        let split : (k < 32) ⊎ (32 ≤ k) = search arith in
        elim split [
          | inl less ↦ let is : slice_index (zeros 32) k ≡ 0 = get_or-replicate {A = ℕ} 32 k 0 0 less in rw is (lit< tt)
          | inr past ↦ let is : slice_index (zeros 32) k ≡ 0 = get_or_past (zeros 32) k 0 past in rw is (lit< tt)
        ]

-- a read
reads_out : (n w mask : ℕ) (outs locals : List (List ℕ)) (flat : List ℕ) (k : ℕ) → 4 ≤ n → w < n → AreRegisters flat → AreHalves n outs → AreHalves n locals → k < 8 →
    word_at (shown n outs locals flat w mask) w k ≡ slice_index flat (8 + k)
reads_out n w mask outs locals flat k few here f o l small =
    let row : get_or (rows_of (with_outs n outs flat w) (with_locals locals flat w)) w [] ≡ eight 8 flat ++ get_or (with_locals locals flat w) w [] =
    row_is (with_outs n outs flat w) (with_locals locals flat w) w (same_length n w outs locals flat o l)
    ∙ ap (λ t. t ++ get_or (with_locals locals flat w) w []) (outs_here n w outs flat few here o) in
    ap (λ t. slice_index t k) row
    ∙ get_or_append_left (eight 8 flat) (get_or (with_locals locals flat w) w []) 0 k (omega (arith, eight_length 8 flat (omega (arith, f.count))))
    ∙ eight_index 8 k flat small

reads_local : (n w mask : ℕ) (outs locals : List (List ℕ)) (flat : List ℕ) (k : ℕ) → 4 ≤ n → w < n → AreRegisters flat → AreHalves n outs → AreHalves n locals → k < 8 →
    word_at (shown n outs locals flat w mask) w (8 + k) ≡ slice_index flat (16 + k)
reads_local n w mask outs locals flat k few here f o l small =
    let row : get_or (rows_of (with_outs n outs flat w) (with_locals locals flat w)) w [] ≡ eight 8 flat ++ eight 16 flat =
    row_is (with_outs n outs flat w) (with_locals locals flat w) w (same_length n w outs locals flat o l)
    ∙ ap (λ t. t ++ get_or (with_locals locals flat w) w []) (outs_here n w outs flat few here o)
    ∙ ap (λ t. eight 8 flat ++ t) (locals_here n w locals flat here l) in
    let e : 8 + k - 8 ≡ k = omega arith in
    ap (λ t. slice_index t (8 + k)) row
    ∙ get_or-append_right (eight 8 flat) (eight 16 flat) 8 (8 + k) 0 (eight_length 8 flat (omega (arith, f.count))) (omega arith)
    ∙ ap (slice_index (eight 16 flat)) e
    ∙ eight_index 16 k flat small

reads_in : (n w mask : ℕ) (outs locals : List (List ℕ)) (flat : List ℕ) (k : ℕ) → 4 ≤ n → w < n → AreRegisters flat → AreHalves n outs → AreHalves n locals → k < 8 →
    word_at (shown n outs locals flat w mask) (above n w) k ≡ slice_index flat (24 + k)
reads_in n w mask outs locals flat k few here f o l small =
    let row : get_or (rows_of (with_outs n outs flat w) (with_locals locals flat w)) (above n w) [] ≡ eight 24 flat ++ get_or (with_locals locals flat w) (above n w) [] =
    row_is (with_outs n outs flat w) (with_locals locals flat w) (above n w) (same_length n w outs locals flat o l)
    ∙ ap (λ t. t ++ get_or (with_locals locals flat w) (above n w) []) (outs_above n w outs flat few here o) in
    ap (λ t. slice_index t k) row
    ∙ get_or_append_left (eight 24 flat) (get_or (with_locals locals flat w) (above n w) []) 0 k (omega (arith, eight_length 24 flat (omega (arith, f.count))))
    ∙ eight_index 24 k flat small

-- the four kinds of registers
pub data Kind (r : ℕ) : Type 0 where
  Global : r < 8 → Kind r
  Out : (k : ℕ) → k < 8 → r ≡ 8 + k → Kind r
  Local : (k : ℕ) → k < 8 → r ≡ 16 + k → Kind r
  In : (k : ℕ) → k < 8 → r ≡ 24 + k → Kind r

pub kind_of : (r : ℕ) → r < 32 → Kind r
kind_of r small =
    let global : (r < 8) ⊎ (8 ≤ r) = search arith in
    elim global [
      | inl a ↦ Global a
      | inr a ↦
          let out : (r < 16) ⊎ (16 ≤ r) = search arith in
          elim out [
            | inl b ↦ Out (r - 8) (omega arith) (omega arith)
            | inr b ↦
                let local : (r < 24) ⊎ (24 ≤ r) = search arith in
                elim local [
                  | inl c ↦ Local (r - 16) (omega arith) (omega arith)
                  | inr c ↦ In (r - 24) (omega arith) (omega arith)
                ]
          ]
    ]

-- reg_of, kind by kind
reads_none : (n : ℕ) (v : Windows) → reg_of n v 0 ≡ 0
unfolding reg_of
reads_none n v = refl

reg_global : (n : ℕ) (v : Windows) (r : ℕ) → 1 ≤ r → r < 8 → reg_of n v r ≡ slice_index v.globals r
unfolding reg_of
reg_global n v r low high = grind (arith, nat_tests)

reg_window : (n : ℕ) (v : Windows) (r k : ℕ) → k < 16 → r ≡ 8 + k → reg_of n v r ≡ word_at v v.current k
unfolding reg_of
reg_window n v r k small e =
    let f : r - 8 ≡ k = omega arith in
    rw (← f) (grind (arith, nat_tests))

reg_above : (n : ℕ) (v : Windows) (r k : ℕ) → k < 8 → r ≡ 24 + k → reg_of n v r ≡ word_at v (above n v.current) k
unfolding reg_of
reg_above n v r k small e =
    let f : r - 24 ≡ k = omega arith in
    rw (← f) (grind (arith, nat_tests))

pub reads : (n w mask : ℕ) (outs locals : List (List ℕ)) (flat : List ℕ) (r : ℕ) → 4 ≤ n → w < n → AreRegisters flat → AreHalves n outs → AreHalves n locals → r < 32 →
    slice_index flat r ≡ reg_of n (shown n outs locals flat w mask) r
reads n w mask outs locals flat r few here f o l small = by_kind r (kind_of r small)
  where
    v : Windows
    v = shown n outs locals flat w mask

    by_kind : (q : ℕ) → Kind q → slice_index flat q ≡ reg_of n v q
    by_kind zero kind = f.zero ∙ sym (reads_none n v)
    by_kind (suc q) (Global low) =
        let e : 0 + suc q ≡ suc q = omega arith in
        sym (reg_global n v (suc q) (omega arith) low ∙ eight_index 0 (suc q) flat low ∙ ap (slice_index flat) e)
    by_kind (suc q) (Out k less e) = sym (reg_window n v (suc q) k (omega arith) e ∙ reads_out n w mask outs locals flat k few here f o l less ∙ ap (slice_index flat) (sym e))
    by_kind (suc q) (Local k less e) = sym (reg_window n v (suc q) (8 + k) (omega arith) (omega arith) ∙ reads_local n w mask outs locals flat k few here f o l less ∙ ap (slice_index flat) (sym e))
    by_kind (suc q) (In k less e) = sym (reg_above n v (suc q) k less e ∙ reads_in n w mask outs locals flat k few here f o l less ∙ ap (slice_index flat) (sym e))

-- with_reg, kind by kind
with_global : (n : ℕ) (v : Windows) (r x : ℕ) → 1 ≤ r → r < 8 → with_reg n v r x ≡ record v { globals = slice_set v.globals r x }
unfolding with_reg
with_global n v r x low high = grind (arith, nat_tests)

with_window : (n : ℕ) (v : Windows) (r k x : ℕ) → k < 16 → r ≡ 8 + k → with_reg n v r x ≡ with_word v v.current k x
unfolding with_reg
with_window n v r k x small e =
    let f : r - 8 ≡ k = omega arith in
    rw (← f) (grind (arith, nat_tests))

with_above : (n : ℕ) (v : Windows) (r k x : ℕ) → k < 8 → r ≡ 24 + k → with_reg n v r x ≡ with_word v (above n v.current) k x
unfolding with_reg
with_above n v r k x small e =
    let f : r - 24 ≡ k = omega arith in
    rw (← f) (grind (arith, nat_tests))

pub with_none : (n : ℕ) (v : Windows) (x : ℕ) → with_reg n v 0 x ≡ v
unfolding with_reg
with_none n v x = refl

-- what stands for these halves of the current window
abbrev shown_by : ℕ → List (List ℕ) → List (List ℕ) → ℕ → ℕ → List ℕ → List ℕ → List ℕ → List ℕ → Windows
shown_by n outs locals w mask g o l i =
    record { globals = g; words = rows_of (slice_set (slice_set outs w o) (above n w) i) (slice_set locals w l); current = w; mask = mask }

by_halves : (n w mask : ℕ) (outs locals : List (List ℕ)) (flat g o l i : List ℕ) → eight 0 flat ≡ g → eight 8 flat ≡ o → eight 16 flat ≡ l → eight 24 flat ≡ i →
    shown n outs locals flat w mask ≡ shown_by n outs locals w mask g o l i
by_halves n w mask outs locals flat g o l i p q r s =
    ap (λ t. shown_by n outs locals w mask t (eight 8 flat) (eight 16 flat) (eight 24 flat)) p
    ∙ ap (λ t. shown_by n outs locals w mask g t (eight 16 flat) (eight 24 flat)) q
    ∙ ap (λ t. shown_by n outs locals w mask g o t (eight 24 flat)) r
    ∙ ap (λ t. shown_by n outs locals w mask g o l t) s

-- a write
writes_out : (n w mask : ℕ) (outs locals : List (List ℕ)) (flat : List ℕ) (k x : ℕ) → 4 ≤ n → w < n → AreRegisters flat → AreHalves n outs → AreHalves n locals → k < 8 →
    shown_by n outs locals w mask (eight 0 flat) (slice_set (eight 8 flat) k x) (eight 16 flat) (eight 24 flat) ≡ with_word (shown n outs locals flat w mask) w k x
writes_out n w mask outs locals flat k x few here f o l small =
    let O = with_outs n outs flat w in
    let L = with_locals locals flat w in
    let half : get_or O w [] ≡ eight 8 flat = outs_here n w outs flat few here o in
    let room : k < length (get_or O w []) = omega (arith, ap length half, eight_length 8 flat (omega (arith, f.count))) in
    let other : above n w ≢ w = above_other n w few here in
    let ring : slice_set O w (slice_set (get_or O w []) k x) ≡ slice_set (slice_set outs w (slice_set (eight 8 flat) k x)) (above n w) (eight 24 flat) =
    ap (λ t. slice_set O w (slice_set t k x)) half
    ∙ set_comm (slice_set outs w (eight 8 flat)) (above n w) w (eight 24 flat) (slice_set (eight 8 flat) k x) other
    ∙ ap (λ t. slice_set t (above n w) (eight 24 flat)) (set-set outs w (eight 8 flat) (slice_set (eight 8 flat) k x)) in
    let rows = row_set_out O L w k x (same_length n w outs locals flat o l) room ∙ ap (λ t. rows_of t L) ring in
    ap (λ t. record { globals = eight 0 flat; words = t; current = w; mask = mask }) (sym rows)

writes_in : (n w mask : ℕ) (outs locals : List (List ℕ)) (flat : List ℕ) (k x : ℕ) → 4 ≤ n → w < n → AreRegisters flat → AreHalves n outs → AreHalves n locals → k < 8 →
    shown_by n outs locals w mask (eight 0 flat) (eight 8 flat) (eight 16 flat) (slice_set (eight 24 flat) k x) ≡ with_word (shown n outs locals flat w mask) (above n w) k x
writes_in n w mask outs locals flat k x few here f o l small =
    let O = with_outs n outs flat w in
    let L = with_locals locals flat w in
    let half : get_or O (above n w) [] ≡ eight 24 flat = outs_above n w outs flat few here o in
    let room : k < length (get_or O (above n w) []) = omega (arith, ap length half, eight_length 24 flat (omega (arith, f.count))) in
    let ring : slice_set O (above n w) (slice_set (get_or O (above n w) []) k x) ≡ slice_set (slice_set outs w (eight 8 flat)) (above n w) (slice_set (eight 24 flat) k x) =
    ap (λ t. slice_set O (above n w) (slice_set t k x)) half
    ∙ set-set (slice_set outs w (eight 8 flat)) (above n w) (eight 24 flat) (slice_set (eight 24 flat) k x) in
    let rows = row_set_out O L (above n w) k x (same_length n w outs locals flat o l) room ∙ ap (λ t. rows_of t L) ring in
    ap (λ t. record { globals = eight 0 flat; words = t; current = w; mask = mask }) (sym rows)

writes_local : (n w mask : ℕ) (outs locals : List (List ℕ)) (flat : List ℕ) (k x : ℕ) → 4 ≤ n → w < n → AreRegisters flat → AreHalves n outs → AreHalves n locals → k < 8 →
    shown_by n outs locals w mask (eight 0 flat) (eight 8 flat) (slice_set (eight 16 flat) k x) (eight 24 flat) ≡ with_word (shown n outs locals flat w mask) w (8 + k) x
writes_local n w mask outs locals flat k x few here f o l small =
    let O = with_outs n outs flat w in
    let L = with_locals locals flat w in
    let long : length (get_or O w []) ≡ 8 = ap length (outs_here n w outs flat few here o) ∙ eight_length 8 flat (omega (arith, f.count)) in
    let e : 8 + k - 8 ≡ k = omega arith in
    let ring : slice_set L w (slice_set (get_or L w []) (8 + k - 8) x) ≡ slice_set locals w (slice_set (eight 16 flat) k x) =
    ap (λ t. slice_set L w (slice_set t (8 + k - 8) x)) (locals_here n w locals flat here l)
    ∙ ap (λ j. slice_set L w (slice_set (eight 16 flat) j x)) e
    ∙ set-set locals w (eight 16 flat) (slice_set (eight 16 flat) k x) in
    let rows = row_set_local O L w (8 + k) x (same_length n w outs locals flat o l) long (omega arith) ∙ ap (rows_of O) ring in
    ap (λ t. record { globals = eight 0 flat; words = t; current = w; mask = mask }) (sym rows)

pub writes : (n w mask : ℕ) (outs locals : List (List ℕ)) (flat : List ℕ) (r x : ℕ) → 4 ≤ n → w < n → AreRegisters flat → AreHalves n outs → AreHalves n locals → 1 ≤ r → r < 32 →
    shown n outs locals (slice_set flat r x) w mask ≡ with_reg n (shown n outs locals flat w mask) r x
writes n w mask outs locals flat r x few here f o l low small = by_kind (kind_of r small)
  where
    new : List ℕ
    new = slice_set flat r x

    long : length flat ≡ 32
    long = f.count

    at : (a k : ℕ) → r ≡ a + k → eight a new ≡ slice_set (eight a flat) k x
    at a k e =
        let d : r - a ≡ k = omega arith in
        eight_written a r x flat (omega arith) ∙ ap (λ j. slice_set (eight a flat) j x) d

    below : (a : ℕ) → a + 8 ≤ r → eight a new ≡ eight a flat
    below a h = eight_below a r x flat h (omega (arith, long))

    beyond : (a : ℕ) → r < a → eight a new ≡ eight a flat
    beyond a h = eight_above a r x flat h

    by_kind : Kind r → shown n outs locals new w mask ≡ with_reg n (shown n outs locals flat w mask) r x
    by_kind (Global high) =
        by_halves n w mask outs locals new (slice_set (eight 0 flat) r x) (eight 8 flat) (eight 16 flat) (eight 24 flat) (at 0 r (omega arith)) (beyond 8 high)
        (beyond 16 (omega arith)) (beyond 24 (omega arith))
        ∙ sym (with_global n (shown n outs locals flat w mask) r x low high)
    by_kind (Out k less e) =
        by_halves n w mask outs locals new (eight 0 flat) (slice_set (eight 8 flat) k x) (eight 16 flat) (eight 24 flat) (below 0 (omega arith)) (at 8 k e)
        (beyond 16 (omega arith)) (beyond 24 (omega arith))
        ∙ writes_out n w mask outs locals flat k x few here f o l less
        ∙ sym (with_window n (shown n outs locals flat w mask) r k x (omega arith) e)
    by_kind (Local k less e) =
        by_halves n w mask outs locals new (eight 0 flat) (eight 8 flat) (slice_set (eight 16 flat) k x) (eight 24 flat) (below 0 (omega arith))
        (below 8 (omega arith)) (at 16 k e) (beyond 24 (omega arith))
        ∙ writes_local n w mask outs locals flat k x few here f o l less
        ∙ sym (with_window n (shown n outs locals flat w mask) r (8 + k) x (omega arith) (omega arith))
    by_kind (In k less e) =
        by_halves n w mask outs locals new (eight 0 flat) (eight 8 flat) (eight 16 flat) (slice_set (eight 24 flat) k x) (below 0 (omega arith))
        (below 8 (omega arith)) (below 16 (omega arith)) (at 24 k e)
        ∙ writes_in n w mask outs locals flat k x few here f o l less
        ∙ sym (with_above n (shown n outs locals flat w mask) r k x less e)

pub registers_written : (flat : List ℕ) (r x : ℕ) → AreRegisters flat → 1 ≤ r → r < 32 → x < 2 ^ 32 → AreRegisters (slice_set flat r x)
registers_written flat r x f low small fits =
    let there : r < length flat = omega (arith, f.count) in
    let first : 0 ≢ r = omega arith in
    record {
      count = length-set flat r x ∙ f.count;
      zero = get_or-set_other flat r 0 x 0 first ∙ f.zero;
      fit = λ i. fit_written flat r x i f.fit there fits;
    }
