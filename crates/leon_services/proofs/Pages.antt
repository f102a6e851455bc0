-- The system's pages of a LEON's RAM: the walks to them, and what a mark of an entry and a store above the tables keep.
--   page, walk_page, walk_region      the page that four or three entries lead to
--   table_walk, routines_walk, mail_walk, buffers_walk, code_walk
--   page_marked, table_marked, services_marked      after a mark
--   page_stored, services_stored                    after a store above the tables
--   vector_fetched, routine_fetched                 fetches
use Rattle.std.proofs.Common.{◌≡◌, ◌≢◌, ℕ, suc, ◌+◌, ◌*◌, ◌/◌, ◌%◌, ◌^◌, ◌<◌, ◌≤◌, ◌⊎◌, inl, Bool, true, false, List, length, Some, Ok, refl, sym, ap, ◌∙◌, subst, arith}
use Rattle.std.specs.Prelude.{◌==◌, slice_index}
use Rattle.std.proofs.lemmas.Bool.Decides.{nat_tests}
use Rattle.v8_core.specs.Access.{Access}
use Rattle.v8_core.specs.AccessKind.{AccessKind}
use Rattle.v8_core.specs.AccessKind.TheVariants.{Fetch}
use Rattle.v8_core.specs.Memory.{fetches}
use Rattle.v8_core.specs.MmuRegs.{MmuRegs}
use Rattle.v8_core.specs.Paths.{index_at, marked, marked_ram, named_place, physical}
use Rattle.v8_core.specs.Permissions.{acc_of, allows, permits, rights_of}
use Rattle.v8_core.specs.Ram.{entry_of, with_entry}
use Rattle.v8_core.specs.Walked.{Page, root_of, target_of, walked}
use Rattle.v8_mmu.proofs.RamLemmas.{Within, entry_is, length-marked_ram, entry_of-with_entry}
use Rattle.v8_mmu.proofs.RamMore.{byte_beside_entry, entry_elsewhere, marked_high, marked_is, marked_low, marked_small}
use Rattle.v8_mmu.proofs.WalkedIs.{allowed_used, down_one, goes_from, page_ends, some_of}
use Rattle.v8_mmu.specs.Walked.{permitted}
use Rattle.v8_core.proofs.Turns.{fetched}
use Rattle.v8_layout.proofs.Marks.{sides}
use Rattle.leon_words.specs.Words.{mail_routines, mail_vectors}
use Rattle.leon_services.specs.Mailbox.{HasServices, IsPage, IsTable}

-- ---- walks

abbrev pub page : ℕ → ℕ → ℕ → Page
page pa level place = record { pa = pa; level = level; place = place }

-- one table further
goes_down : (ram : List ℕ) (va : ℕ) (a : Access) (left level from table to : ℕ) → IsTable ram from table →
    (table + 4 * index_at va (level + 1)) % 2 ^ 36 ≡ to →
    goes_from ram va a (suc left) level from (entry_of ram from) ≡ goes_from ram va a left (level + 1) to (entry_of ram to)
goes_down ram va a left level from table to is at =
    let e = some_of (entry_of ram from) (λ w. (w % 4 ≡ 1) × (w / 4 * 64 ≡ table)) is in
    let to_is : named_place va level e.0 ≡ to = ap (λ t. (t + 4 * index_at va (level + 1)) % 2 ^ 36) e.2.1 ∙ at in
    down_one ram va a left level from e.0 e.1 e.2.0 ∙ ap (λ p. goes_from ram va a left (level + 1) p (entry_of ram p)) to_is

may_use : (a : Access) (w acc : ℕ) → acc_of w ≡ acc → permits (rights_of acc a.user) a.kind ≡ true → allows w a ≡ true
unfolding allows
may_use a w acc is may = ap (λ k. permits (rights_of k a.user) a.kind) is ∙ may

-- a page's entry ends it
ends_there : (ram : List ℕ) (va : ℕ) (a : Access) (left level at pa acc to : ℕ) → IsPage ram at pa acc →
    permits (rights_of acc a.user) a.kind ≡ true → ((w : ℕ) → w / 256 * 4096 ≡ pa → physical w level va ≡ to) →
    goes_from ram va a left level at (entry_of ram at) ≡ Ok (page to level at)
ends_there ram va a left level at pa acc to is may place =
    let e = some_of (entry_of ram at) (λ w. (w % 4 ≡ 2) × (w / 256 * 4096 ≡ pa) × (acc_of w ≡ acc)) is in
    ap (permitted a) (page_ends ram va left level at e.0 e.1 e.2.0)
    ∙ allowed_used e.0 a (page (physical e.0 level va) level at) (may_use a e.0 acc e.2.2 may)
    ∙ ap (λ q. Ok (page q level at)) (place e.0 e.2.1)

small_page : (w pa va : ℕ) → w / 256 * 4096 ≡ pa → physical w 3 va ≡ pa + va % 2 ^ 12
small_page w pa va is = ap (λ p. p + va % 2 ^ 12) is

large_page : (w pa va : ℕ) → pa % 2 ^ 18 ≡ 0 → w / 256 * 4096 ≡ pa → physical w 2 va ≡ pa + va % 2 ^ 18
large_page w pa va whole is = let same : w / 256 * 4096 / 2 ^ 18 * 2 ^ 18 ≡ pa = omega arith in ap (λ p. p + va % 2 ^ 18) same

pub walk_page : (ram : List ℕ) (root va : ℕ) (a : Access) (t1 t2 t3 p1 p2 p3 pa acc : ℕ) →
    IsTable ram root t1 → (t1 + 4 * (va / 2 ^ 24)) % 2 ^ 36 ≡ p1 → IsTable ram p1 t2 → (t2 + 4 * (va / 2 ^ 18 % 64)) % 2 ^ 36 ≡ p2 →
    IsTable ram p2 t3 → (t3 + 4 * (va / 2 ^ 12 % 64)) % 2 ^ 36 ≡ p3 → IsPage ram p3 pa acc → permits (rights_of acc a.user) a.kind ≡ true →
    walked ram root va a ≡ Ok (page (pa + va % 2 ^ 12) 3 p3)
unfolding walked target_of
walk_page ram root va a t1 t2 t3 p1 p2 p3 pa acc i1 e1 i2 e2 i3 e3 is may =
    goes_down ram va a 2 0 root t1 p1 i1 e1 ∙ goes_down ram va a 1 1 p1 t2 p2 i2 e2 ∙ goes_down ram va a 0 2 p2 t3 p3 i3 e3
    ∙ ends_there ram va a 0 3 p3 pa acc (pa + va % 2 ^ 12) is may (λ w e. small_page w pa va e)

walk_region : (ram : List ℕ) (root va : ℕ) (a : Access) (t1 t2 p1 p2 pa acc : ℕ) →
    IsTable ram root t1 → (t1 + 4 * (va / 2 ^ 24)) % 2 ^ 36 ≡ p1 → IsTable ram p1 t2 → (t2 + 4 * (va / 2 ^ 18 % 64)) % 2 ^ 36 ≡ p2 →
    IsPage ram p2 pa acc → pa % 2 ^ 18 ≡ 0 → permits (rights_of acc a.user) a.kind ≡ true →
    walked ram root va a ≡ Ok (page (pa + va % 2 ^ 18) 2 p2)
unfolding walked target_of
walk_region ram root va a t1 t2 p1 p2 pa acc i1 e1 i2 e2 is whole may =
    goes_down ram va a 2 0 root t1 p1 i1 e1 ∙ goes_down ram va a 1 1 p1 t2 p2 i2 e2
    ∙ ends_there ram va a 1 2 p2 pa acc (pa + va % 2 ^ 18) is may (λ w e. large_page w pa va whole e)

-- ---- what a mark keeps

-- an entry that is marked
pub record Spot (b : ℕ) (ram : List ℕ) (q : ℕ) : Type 0 where
  pub word : ℕ
  pub there : entry_of ram q ≡ Some word
  pub kind : word % 4 ≡ 2
  pub small : word < 2 ^ 32
  pub low : b + 0x2900 ≤ q
  pub high : q + 4 ≤ b + 0x2E00

pub spot : (b : ℕ) (ram : List ℕ) (q pa acc : ℕ) → IsPage ram q pa acc → pa < 2 ^ 36 → b + 0x2900 ≤ q → q + 4 ≤ b + 0x2E00 → Spot b ram q
spot b ram q pa acc is fits low high =
    let e = some_of (entry_of ram q) (λ w. (w % 4 ≡ 2) × (w / 256 * 4096 ≡ pa) × (acc_of w ≡ acc)) is in
    let place = e.2.1 in
    record { word = e.0; there = e.1; kind = e.2.0; small = omega arith; low = low; high = high }

module _ (b : ℕ) (ram : List ℕ) (q : ℕ) (store : Bool) (s : Spot b ram q) where
  abbrev marks : List ℕ
  marks = marked_ram ram q store

  inside : Within ram q
  inside = (entry_is ram q s.word s.there).0

  new_word : marks ≡ with_entry ram q (marked s.word store)
  new_word = marked_is ram q s.word store s.there

  word_here : entry_of marks q ≡ Some (marked s.word store)
  word_here = ap (λ r. entry_of r q) new_word
      ∙ entry_of-with_entry ram q (marked s.word store) inside (marked_small s.word store s.small)

  pub word_marked : (p : ℕ) → (p + 4 ≤ q) ⊎ (q + 4 ≤ p) → entry_of marks p ≡ entry_of ram p
  word_marked p apart = ap (λ r. entry_of r p) new_word ∙ entry_elsewhere ram q p (marked s.word store) inside apart

  pub byte_marked : (j : ℕ) → (j < q) ⊎ (q + 4 ≤ j) → slice_index marks j ≡ slice_index ram j
  byte_marked j apart = ap (λ r. slice_index r j) new_word ∙ byte_beside_entry ram q (marked s.word store) j inside.fits apart

  -- an entry of another place, by its word
  aligned_apart : (p w : ℕ) → entry_of ram p ≡ Some w → p ≢ q → entry_of marks p ≡ entry_of ram p
  aligned_apart p w there other = word_marked p (sides p q (entry_is ram p w there).0.aligned inside.aligned other)

  pub page_marked : (p pa acc : ℕ) → IsPage ram p pa acc → IsPage marks p pa acc
  page_marked p pa acc is = by_place (p == q) refl
    where
      by_place : (t : Bool) → (p == q) ≡ t → IsPage marks p pa acc
      by_place true e =
          let same : p ≡ q = grind (arith, nat_tests) in
          let here : IsPage ram q pa acc = subst (λ k. IsPage ram k pa acc) same is in
          let was : (s.word % 4 ≡ 2) × (s.word / 256 * 4096 ≡ pa) × (acc_of s.word ≡ acc) = rw s.there at here in
          let high = marked_high s.word store in
          let low = marked_low s.word store in
          let kind = was.0 in
          let place = was.1 in
          let rights = was.2 in
          let now : IsPage marks q pa acc = rw word_here (omega arith, omega arith, omega arith) in
          subst (λ k. IsPage marks k pa acc) (sym same) now
      by_place false e =
          let other : p ≢ q = grind (arith, nat_tests) in
          let w = some_of (entry_of ram p) (λ w. (w % 4 ≡ 2) × (w / 256 * 4096 ≡ pa) × (acc_of w ≡ acc)) is in
          rw (aligned_apart p w.0 w.1 other) is

  pub table_marked : (p place : ℕ) → IsTable ram p place → IsTable marks p place
  table_marked p place is = by_place (p == q) refl
    where
      by_place : (t : Bool) → (p == q) ≡ t → IsTable marks p place
      by_place true e =
          let same : p ≡ q = grind (arith, nat_tests) in
          let here : IsTable ram q place = subst (λ k. IsTable ram k place) same is in
          let was : (s.word % 4 ≡ 1) × (s.word / 4 * 64 ≡ place) = rw s.there at here in
          let kind = s.kind in
          let one = was.0 in
          absurd (omega arith)
      by_place false e =
          let other : p ≢ q = grind (arith, nat_tests) in
          let w = some_of (entry_of ram p) (λ w. (w % 4 ≡ 1) × (w / 4 * 64 ≡ place)) is in
          rw (aligned_apart p w.0 w.1 other) is

  pub services_marked : HasServices b ram → HasServices b marks
  services_marked h =
      let low = s.low in
      record {
        distance = h.distance;
        fit = h.fit;
        size = let size = h.size in let same : length marks ≡ length ram = length-marked_ram ram q store in omega arith;
        context = table_marked (b + 0x2000) (b + 0x2400) h.context;
        system = table_marked (b + 0x2400 + 4 * 0xF0) (b + 0x2900) h.system;
        pages = table_marked (b + 0x2900) (b + 0x2D00) h.pages;
        table_page = page_marked (b + 0x2D00) b 6 h.table_page;
        routines_page = page_marked (b + 0x2D00 + 4) (b + 0x1000) 6 h.routines_page;
        mail_page = page_marked (b + 0x2D00 + 4 * 16) (b + 0xA0000) 7 h.mail_page;
        buffers_page = page_marked (b + 0x2900 + 4) (b + 0xC0000) 7 h.buffers_page;
        vectors = λ k less. word_marked (b + 0x800 + 4 * k) (inl (omega arith)) ∙ h.vectors k less;
        routines = λ k less. word_marked (b + 0x1100 + 4 * k) (inl (omega arith)) ∙ h.routines k less;
      }

-- ---- what a store above the tables keeps

pub services_stored : (b : ℕ) (ram new : List ℕ) → length new ≡ length ram →
    ((p : ℕ) → p + 4 ≤ b + 0x2E00 → entry_of new p ≡ entry_of ram p) → HasServices b ram → HasServices b new
services_stored b ram new same kept h = record {
  distance = h.distance;
  fit = h.fit;
  size = let size = h.size in omega arith;
  context = rw (kept (b + 0x2000) (omega arith)) h.context;
  system = rw (kept (b + 0x2400 + 4 * 0xF0) (omega arith)) h.system;
  pages = rw (kept (b + 0x2900) (omega arith)) h.pages;
  table_page = rw (kept (b + 0x2D00) (omega arith)) h.table_page;
  routines_page = rw (kept (b + 0x2D00 + 4) (omega arith)) h.routines_page;
  mail_page = rw (kept (b + 0x2D00 + 4 * 16) (omega arith)) h.mail_page;
  buffers_page = rw (kept (b + 0x2900 + 4) (omega arith)) h.buffers_page;
  vectors = λ k less. kept (b + 0x800 + 4 * k) (omega arith) ∙ h.vectors k less;
  routines = λ k less. kept (b + 0x1100 + 4 * k) (omega arith) ∙ h.routines k less;
}

-- ---- the pages, and what is fetched there

abbrev pub by_supervisor : AccessKind → Access
by_supervisor k = record { user = false; kind = k }

module _ (b : ℕ) (ram : List ℕ) (mmu : MmuRegs) (h : HasServices b ram) (root : root_of mmu ≡ b + 0x2000) where
  -- a page of the system, by the number of its entry
  system_walk : (va : ℕ) (a : Access) (k pa acc : ℕ) → va / 2 ^ 24 ≡ 0xF0 → va / 2 ^ 18 % 64 ≡ 0 → va / 2 ^ 12 % 64 ≡ k → k < 64 →
      IsPage ram (b + 0x2D00 + 4 * k) pa acc → permits (rights_of acc a.user) a.kind ≡ true →
      walked ram (root_of mmu) va a ≡ Ok (page (pa + va % 2 ^ 12) 3 (b + 0x2D00 + 4 * k))
  system_walk va a k pa acc one two three less is may =
      let fit = h.fit in
      ap (λ r. walked ram r va a) root
      ∙ walk_page ram (b + 0x2000) va a (b + 0x2400) (b + 0x2900) (b + 0x2D00) (b + 0x2400 + 4 * 0xF0) (b + 0x2900) (b + 0x2D00 + 4 * k) pa acc
      h.context (omega arith) h.system (omega arith) h.pages (omega arith) is may

  table_walk : (k : ℕ) → k < 1024 → walked ram (root_of mmu) (0xF0000000 + 4 * k) (by_supervisor Fetch) ≡ Ok (page (b + 4 * k) 3 (b + 0x2D00))
  table_walk k less =
      let same : b + (0xF0000000 + 4 * k) % 2 ^ 12 ≡ b + 4 * k = omega arith in
      let place : b + 0x2D00 + 4 * 0 ≡ b + 0x2D00 = omega arith in
      system_walk (0xF0000000 + 4 * k) (by_supervisor Fetch) 0 b 6 (omega arith) (omega arith) (omega arith) (omega arith)
      (subst (λ p. IsPage ram p b 6) (sym place) h.table_page) refl
      ∙ ap (λ p. Ok (page p 3 (b + 0x2D00 + 4 * 0))) same ∙ ap (λ p. Ok (page (b + 4 * k) 3 p)) place

  routines_walk : (k : ℕ) → k < 1024 → walked ram (root_of mmu) (0xF0001000 + 4 * k) (by_supervisor Fetch) ≡ Ok (page (b + 0x1000 + 4 * k) 3 (b + 0x2D04))
  routines_walk k less =
      let same : b + 0x1000 + (0xF0001000 + 4 * k) % 2 ^ 12 ≡ b + 0x1000 + 4 * k = omega arith in
      let place : b + 0x2D00 + 4 * 1 ≡ b + 0x2D04 = omega arith in
      system_walk (0xF0001000 + 4 * k) (by_supervisor Fetch) 1 (b + 0x1000) 6 (omega arith) (omega arith) (omega arith) (omega arith)
      (h.routines_page) refl
      ∙ ap (λ p. Ok (page p 3 (b + 0x2D00 + 4 * 1))) same ∙ ap (λ p. Ok (page (b + 0x1000 + 4 * k) 3 p)) place

  pub mail_walk : (k : ℕ) (kind : AccessKind) → k < 4096 → permits (rights_of 7 false) kind ≡ true →
      walked ram (root_of mmu) (0xF0010000 + k) (by_supervisor kind) ≡ Ok (page (b + 0xA0000 + k) 3 (b + 0x2D40))
  mail_walk k kind less may =
      let same : b + 0xA0000 + (0xF0010000 + k) % 2 ^ 12 ≡ b + 0xA0000 + k = omega arith in
      let place : b + 0x2D00 + 4 * 16 ≡ b + 0x2D40 = omega arith in
      system_walk (0xF0010000 + k) (by_supervisor kind) 16 (b + 0xA0000) 7 (omega arith) (omega arith) (omega arith) (omega arith)
      h.mail_page may
      ∙ ap (λ p. Ok (page p 3 (b + 0x2D00 + 4 * 16))) same ∙ ap (λ p. Ok (page (b + 0xA0000 + k) 3 p)) place

  pub buffers_walk : (k : ℕ) (kind : AccessKind) → k < 0x40000 → permits (rights_of 7 false) kind ≡ true →
      walked ram (root_of mmu) (0xF0040000 + k) (by_supervisor kind) ≡ Ok (page (b + 0xC0000 + k) 2 (b + 0x2904))
  buffers_walk k kind less may =
      let fit = h.fit in
      let distance = h.distance in
      let va = 0xF0040000 + k in
      let a = by_supervisor kind in
      let same : b + 0xC0000 + (0xF0040000 + k) % 2 ^ 18 ≡ b + 0xC0000 + k = omega arith in
      let place : b + 0x2900 + 4 ≡ b + 0x2904 = omega arith in
      ap (λ r. walked ram r va a) root
      ∙ walk_region ram (b + 0x2000) va a (b + 0x2400) (b + 0x2900) (b + 0x2400 + 4 * 0xF0) (b + 0x2900 + 4) (b + 0xC0000) 7
      h.context (omega arith) h.system (omega arith) h.buffers_page (omega arith) may
      ∙ ap (λ p. Ok (page p 2 (b + 0x2900 + 4))) same ∙ ap (λ p. Ok (page (b + 0xC0000 + k) 2 p)) place

  pub table_spot : Spot b ram (b + 0x2D00)
  table_spot = let fit = h.fit in spot b ram (b + 0x2D00) b 6 h.table_page (omega arith) (omega arith) (omega arith)

  pub routines_spot : Spot b ram (b + 0x2D04)
  routines_spot =
      let fit = h.fit in
      let place : b + 0x2D00 + 4 ≡ b + 0x2D04 = omega arith in
      subst (λ p. Spot b ram p) place (spot b ram (b + 0x2D00 + 4) (b + 0x1000) 6 h.routines_page (omega arith) (omega arith) (omega arith))

  pub mail_spot : Spot b ram (b + 0x2D40)
  mail_spot =
      let fit = h.fit in
      let place : b + 0x2D00 + 4 * 16 ≡ b + 0x2D40 = omega arith in
      subst (λ p. Spot b ram p) place (spot b ram (b + 0x2D00 + 4 * 16) (b + 0xA0000) 7 h.mail_page (omega arith) (omega arith) (omega arith))

  pub buffers_spot : Spot b ram (b + 0x2904)
  buffers_spot =
      let fit = h.fit in
      let place : b + 0x2900 + 4 ≡ b + 0x2904 = omega arith in
      subst (λ p. Spot b ram p) place (spot b ram (b + 0x2900 + 4) (b + 0xC0000) 7 h.buffers_page (omega arith) (omega arith) (omega arith))

  pub vector_fetched : (k : ℕ) → k < 12 →
      fetches mmu (0xF0000800 + 4 * k) (by_supervisor Fetch) ram ≡ (Ok (slice_index mail_vectors k), marked_ram ram (b + 0x2D00) false)
  vector_fetched k less =
      let va : 0xF0000000 + 4 * (0x200 + k) ≡ 0xF0000800 + 4 * k = omega arith in
      let pa : b + 4 * (0x200 + k) ≡ b + 0x800 + 4 * k = omega arith in
      let w = slice_index mail_vectors k in
      let walk = ap (λ v. walked ram (root_of mmu) v (by_supervisor Fetch)) (sym va) ∙ table_walk (0x200 + k) (omega arith) ∙ ap (λ p. Ok (page p 3 (b + 0x2D00))) pa in
      fetched mmu (0xF0000800 + 4 * k) (by_supervisor Fetch) ram (page (b + 0x800 + 4 * k) 3 (b + 0x2D00)) w w walk (h.vectors k less)
      ((services_marked b ram (b + 0x2D00) false table_spot h).vectors k less)

  pub routine_fetched : (k : ℕ) → k < 37 →
      fetches mmu (0xF0001100 + 4 * k) (by_supervisor Fetch) ram ≡ (Ok (slice_index mail_routines k), marked_ram ram (b + 0x2D04) false)
  routine_fetched k less =
      let va : 0xF0001000 + 4 * (0x40 + k) ≡ 0xF0001100 + 4 * k = omega arith in
      let pa : b + 0x1000 + 4 * (0x40 + k) ≡ b + 0x1100 + 4 * k = omega arith in
      let w = slice_index mail_routines k in
      let walk = ap (λ v. walked ram (root_of mmu) v (by_supervisor Fetch)) (sym va) ∙ routines_walk (0x40 + k) (omega arith) ∙ ap (λ p. Ok (page p 3 (b + 0x2D04))) pa in
      fetched mmu (0xF0001100 + 4 * k) (by_supervisor Fetch) ram (page (b + 0x1100 + 4 * k) 3 (b + 0x2D04)) w w walk (h.routines k less)
      ((services_marked b ram (b + 0x2D04) false routines_spot h).routines k less)
