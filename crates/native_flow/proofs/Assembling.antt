-- Blocks in the order of their labels are a translation.
use Rattle.std.proofs.Common.{◌≡◌, ℕ, zero, suc, ◌+◌, ◌-◌, ◌<◌, Bool, true, false, List, [], ◌∷◌, ◌++◌, length, get_or, Option, Some, None, Ok, append_assoc, refl, sym, ap, ◌∙◌, subst, arith}
use Rattle.std.specs.Prelude.{◌==◌, slice_get, slice_index}
use Rattle.std.proofs.lemmas.Bool.Decides.{nat_tests}
use Rattle.std.proofs.lemmas.List.{length-append}
use Rattle.std.proofs.lemmas.Option.{slice_get-get_or}
use Rattle.sbx_image.specs.Order.{IsFunction, code_end, function_at, or_function}
use Rattle.sbx_image.specs.Function.{Function}
use Rattle.sbx_image.specs.Parts.{Parts}
use Rattle.sbx_image.specs.Regions.{data_at}
use Rattle.sbx_image.specs.Rules.{parts_keep}
use Rattle.sbx_parts.proofs.Ordered.{in_order}
use Rattle.sbx_flat.specs.Runs.{AreBytes}
use Rattle.native_lang.specs.declared.program.NativeProgram.{NativeProgram}
use Rattle.native_lang.specs.declared.program.ProgramBlock.{ProgramBlock}
use Rattle.native_ends.specs.Translations.{Begins, DetachedSlot, HasDetached, IsMadeAt, IsTranslation, ReturnsBehind}
use Rattle.native_flow.specs.Assembling.{AreFrom, AreReturning, IsBeginning}
use Rattle.native_flow.specs.Labelling.{AreStarts, HasCalls, labels_of}
use Rattle.native_flow.specs.Returning.{IsReturning}
use Rattle.native_flow.specs.Translating.{Grows, IsAmong, IsBlockFrom, edges_from}
use Rattle.native_flow.specs.declared.labels.Site.{Site}
use Rattle.native_flow.proofs.Growing.{still_from}
use Rattle.native_flow.proofs.Rows.{begins_word}
use Rattle.native_flow.proofs.Starting.{label_there}

-- ---- places in lists one behind the other

in_front : {A : Type 0} (xs ys : List A) (k : ℕ) (x : A) → slice_get xs k ≡ Some x → slice_get (xs ++ ys) k ≡ Some x
in_front [] ys k x e = absurd (cc)
in_front (y ∷ xs) ys zero x e = e
in_front (y ∷ xs) ys (suc k) x e = in_front xs ys k x e

further : {A : Type 0} (xs ys : List A) (k : ℕ) → slice_get (xs ++ ys) (length xs + k) ≡ slice_get ys k
further [] ys k = let e : 0 + k ≡ k = omega arith in ap (slice_get ys) e
further (x ∷ xs) ys k = let e : length (x ∷ xs) + k ≡ suc (length xs + k) = omega arith in ap (slice_get (x ∷ xs ++ ys)) e ∙ further xs ys k

within_list : {A : Type 0} (xs : List A) (k : ℕ) (x : A) → slice_get xs k ≡ Some x → k < length xs
within_list [] k x e = absurd (cc)
within_list (y ∷ xs) zero x e = omega arith
within_list (y ∷ xs) (suc k) x e = let h = within_list xs k x e in omega (arith, h)

last_get : {A : Type 0} (xs : List A) (x : A) → slice_get (xs ++ x ∷ []) (length xs) ≡ Some x
last_get xs x = let e : length xs ≡ length xs + 0 = omega arith in ap (slice_get (xs ++ x ∷ [])) e ∙ further xs (x ∷ []) 0

-- ---- one more

pub first_from : (parts : Parts) (starts : List ℕ) (edges : List ProgramBlock) → edges ≡ [] → AreFrom parts starts edges 0 []
first_from parts starts edges none = record { count = refl; each = λ i less. absurd (omega (arith, less)); few = (let e = ap (λ (l : List ProgramBlock). length l) none in omega (arith, e)) }

pub next_from : (parts : Parts) (starts : List ℕ) (old new : List ProgramBlock) (many : ℕ) (blocks more : List ProgramBlock) (block : ProgramBlock) → AreFrom parts starts old many blocks → Grows old new
    → IsBlockFrom parts starts new (slice_index starts many) block → more ≡ blocks ++ block ∷ [] → AreFrom parts starts new (many + 1) more
next_from parts starts old new many blocks more block h grows is pushed = record {
  count = (let a = ap (λ (l : List ProgramBlock). length l) pushed in let b = length-append blocks (block ∷ []) in let c = h.count in omega (arith, a, b, c));
  each = each;
  few = (let a = ap (λ (l : List ProgramBlock). length l) grows.is in let b = length-append old grows.more in let c = h.few in let d = grows.few in omega (arith, a, b, c, d));
}
  where
    by_last : (i : ℕ) (t : Bool) → (i == many) ≡ t → i < many + 1 → (b : ProgramBlock) × (slice_get more i ≡ Some b) × IsBlockFrom parts starts new (slice_index starts i) b
    by_last i true e less =
        (let same : i ≡ many = grind (arith, nat_tests) in
        let count = h.count in (
          block,
          ap (slice_get more) (same ∙ sym count) ∙ ap (λ (l : List ProgramBlock). slice_get l (length blocks)) pushed ∙ last_get blocks block,
          subst (λ k. IsBlockFrom parts starts new (slice_index starts k) block) (sym same) is,
        ))
    by_last i false e less =
        (let below : i < many = grind (arith, nat_tests) in
        let was = h.each i below in (
          was.0,
          ap (λ (l : List ProgramBlock). slice_get l i) pushed ∙ in_front blocks (block ∷ []) i was.0 was.1,
          still_from parts starts old new (slice_index starts i) was.0 grows was.2,
        ))

    each : (i : ℕ) → i < many + 1 → (b : ProgramBlock) × (slice_get more i ≡ Some b) × IsBlockFrom parts starts new (slice_index starts i) b
    each i less = by_last i (i == many) refl less

pub first_return : (parts : Parts) (starts : List ℕ) (sites : List Site) → AreReturning parts starts sites 0 []
first_return parts starts sites = record { count = refl; each = λ i less. absurd (omega (arith, less)) }

pub next_return : (parts : Parts) (starts : List ℕ) (sites : List Site) (many : ℕ) (blocks more : List ProgramBlock) (block : ProgramBlock) (function : Function) → AreReturning parts starts sites many blocks
    → many < length parts.functions → function ≡ get_or parts.functions many function → IsReturning starts sites function.entry block → more ≡ blocks ++ block ∷ [] → AreReturning parts starts sites (many + 1) more
next_return parts starts sites many blocks more block function h within is_there is pushed = record {
  count = (let a = ap (λ (l : List ProgramBlock). length l) pushed in let b = length-append blocks (block ∷ []) in let c = h.count in omega (arith, a, b, c));
  each = λ i less. by_last i (i == many) refl less;
}
  where
    entry : function.entry ≡ (function_at parts many).entry
    entry = ap (λ (o : Option Function). (or_function o).entry) (sym (slice_get-get_or parts.functions many function within ∙ ap Some (sym is_there)))

    by_last : (i : ℕ) (t : Bool) → (i == many) ≡ t → i < many + 1 → (b : ProgramBlock) × (slice_get more i ≡ Some b) × IsReturning starts sites (function_at parts i).entry b
    by_last i true e less =
        (let same : i ≡ many = grind (arith, nat_tests) in
        let count = h.count in (
          block,
          ap (slice_get more) (same ∙ sym count) ∙ ap (λ (l : List ProgramBlock). slice_get l (length blocks)) pushed ∙ last_get blocks block,
          subst (λ k. IsReturning starts sites k block) (entry ∙ ap (λ k. (function_at parts k).entry) (sym same)) is,
        ))
    by_last i false e less =
        (let below : i < many = grind (arith, nat_tests) in
        let was = h.each i below in
        (was.0, ap (λ (l : List ProgramBlock). slice_get l i) pushed ∙ in_front blocks (block ∷ []) i was.0 was.1, was.2))

-- ---- one behind the other

pub joined : (first : ProgramBlock) (words returns edges a b c d e f : List ProgramBlock) (between : ProgramBlock) → a ≡ [] → b ≡ a ++ first ∷ [] → c ≡ b ++ words → d ≡ c ++ between ∷ [] → e ≡ d ++ returns
    → f ≡ e ++ edges → f ≡ first ∷ (words ++ (between ∷ (returns ++ edges)))
joined first words returns edges a b c d e f between p q r s t u =
    u ∙ ap (λ (l : List ProgramBlock). l ++ edges) (t ∙ ap (λ (l : List ProgramBlock). l ++ returns) (s ∙ ap (λ (l : List ProgramBlock). l ++ between ∷ []) (r ∙ ap (λ (l : List ProgramBlock). l ++ words) (q ∙ ap (λ (l : List ProgramBlock). l ++ first ∷ []) p))))
    ∙ append_assoc ((first ∷ words) ++ between ∷ []) returns edges ∙ append_assoc (first ∷ words) (between ∷ []) (returns ++ edges)

-- ---- the whole

module _ (parts : Parts) (kept : parts_keep parts ≡ Ok tt) (starts owners : List ℕ) (sites : List Site) (beginning between : ProgramBlock) (words returns edges : List ProgramBlock) (program : NativeProgram)
    (ordered : AreStarts parts (code_end parts) starts owners) (calls : HasCalls parts sites) (begins : IsBeginning starts beginning)
    (from : AreFrom parts starts edges (length starts) words) (back : AreReturning parts starts sites (length parts.functions) returns)
    (is : program.blocks.items ≡ beginning ∷ (words ++ (between ∷ (returns ++ edges)))) where
  plus_one : (i : ℕ) → i + 1 ≡ suc i
  plus_one i = omega arith

  get : (label : ℕ) (block : ProgramBlock) → slice_get (beginning ∷ (words ++ (between ∷ (returns ++ edges)))) label ≡ Some block → slice_get program.blocks.items label ≡ Some block
  get label block e = ap (λ (l : List ProgramBlock). slice_get l label) is ∙ e

  among_words : (i : ℕ) (block : ProgramBlock) → slice_get words i ≡ Some block → slice_get program.blocks.items (suc i) ≡ Some block
  among_words i block e = get (suc i) block (in_front words (between ∷ (returns ++ edges)) i block e)

  behind_words : (k label : ℕ) (block : ProgramBlock) → label ≡ length starts + 2 + k → slice_get (returns ++ edges) k ≡ Some block → slice_get program.blocks.items label ≡ Some block
  behind_words k label block at e =
      let count = from.count in
      let same : label ≡ suc (length words + suc k) = omega (arith, count, at) in
      ap (slice_get program.blocks.items) same ∙ get (suc (length words + suc k)) block (further words (between ∷ (returns ++ edges)) (suc k) ∙ e)

  among_returns : (f : ℕ) (block : ProgramBlock) → slice_get returns f ≡ Some block → slice_get program.blocks.items (length starts + 2 + f) ≡ Some block
  among_returns f block e = behind_words f (length starts + 2 + f) block refl (in_front returns edges f block e)

  among_edges : (k : ℕ) (block : ProgramBlock) → slice_get edges k ≡ Some block → slice_get program.blocks.items (edges_from parts starts + k) ≡ Some block
  among_edges k block e =
      let count = back.count in
      behind_words (length returns + k) (edges_from parts starts + k) block (omega (arith, count)) (further returns edges k ∙ e)

  detached_there : (slot : Option DetachedSlot) → IsAmong (edges_from parts starts) edges slot → HasDetached program slot
  detached_there None h = tt
  detached_there (Some slot) h =
      let k = h.0 in
      let it = h.3 in
      record { block = h.1; there = ap (slice_get program.blocks.items) it.at ∙ among_edges k h.1 h.2; statements = it.made; ends = it.goes }

  made_at : (a : ℕ) → Begins parts a → IsMadeAt parts (labels_of starts) program a
  made_at a begin =
      let word = begins_word parts (in_order parts kept) a begin in
      let low = word.1 in
      let is_at = word.2 in
      let at = ordered.all a begin (omega (arith, low, is_at)) in
      let block = from.each at.0 at.1 in
      let label = label_there starts a at.0 ordered.ascending at.1 at.2 in
      let it = subst (λ x. IsBlockFrom parts starts edges x block.0) at.2 block.2 in
      record {
        function = it.function;
        made = block.0.statements.items;
        end = block.0.end;
        detached = it.detached;
        there = record { block = block.0; there = ap (slice_get program.blocks.items) (label ∙ plus_one at.0) ∙ among_words at.0 block.0 block.1; statements = refl; ends = refl };
        makes = it.is;
        has = detached_there it.detached it.has;
      }

  returns_there : (f : ℕ) → IsFunction parts f → ReturnsBehind parts (labels_of starts) program f
  returns_there f within =
      let block = back.each f within in
      let it = block.2 in
      record {
        arms = it.arms;
        there = record { block = block.0; there = among_returns f block.0 block.1; statements = it.none; ends = it.ends };
        arm = λ a displacement asks callee. it.arm parts a displacement calls asks callee;
      }

  pub assembled : AreBytes program.data.items → ((a byte : ℕ) → data_at parts.regions a ≡ Some byte → slice_index program.data.items (a - 0x80000) ≡ byte) → IsTranslation parts program
  assembled bytes data_are = record {
    labels = labels_of starts;
    start = record { block = beginning; there = get 0 beginning refl; statements = begins.sets; ends = begins.goes };
    words = made_at;
    returns = returns_there;
    bytes = bytes;
    data_are = data_are;
  }

-- the same where the image is another name of its parts
pub translation_of : (parts image : Parts) → image ≡ parts → parts_keep image ≡ Ok tt → (starts owners : List ℕ) (sites : List Site) (beginning between : ProgramBlock) (words returns edges : List ProgramBlock)
    (program : NativeProgram) → AreStarts image (code_end image) starts owners → HasCalls image sites → IsBeginning starts beginning → AreFrom image starts edges (length starts) words
    → AreReturning image starts sites (length image.functions) returns → program.blocks.items ≡ beginning ∷ (words ++ (between ∷ (returns ++ edges))) → AreBytes program.data.items
    → ((a byte : ℕ) → data_at image.regions a ≡ Some byte → slice_index program.data.items (a - 0x80000) ≡ byte) → IsTranslation parts program
translation_of parts image same kept starts owners sites beginning between words returns edges program ordered calls begins from back is bytes data_are =
    subst (λ (p : Parts). IsTranslation p program) same
    (assembled image kept starts owners sites beginning between words returns edges program ordered calls begins from back is bytes data_are)
