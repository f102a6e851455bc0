-- Where a block stands before a word of its stretch.
use Rattle.std.proofs.Common.{◌≡◌, ℕ, ◌+◌, ◌<◌, ◌≤◌, Bool, true, false, subst, arith}
use Rattle.std.specs.Prelude.{nat_lt}
use Rattle.std.proofs.lemmas.Bool.Decides.{nat_tests}
use Rattle.v8_meaning.specs.Operands.{following}
use Rattle.v8_meaning.specs.declared.operation.Operation.{Operation}
use Rattle.sbx_image.specs.Parts.{Parts}
use Rattle.native_ends.specs.Translations.{AsksFor, Labelled}
use Rattle.native_flow.specs.Labelling.{word_address}
use Rattle.native_flow.specs.Making.{Passes, Stands}
use Rattle.native_flow.specs.declared.blocks.BlockMaking.{BlockMaking}

pub stands_first : (parts : Parts) (labels : Labelled) (f start first : ℕ) (m : BlockMaking) → start ≡ word_address first → Stands parts labels f start false start m →
    Stands parts labels f start (nat_lt first first) (word_address first) m
stands_first parts labels f start first m at h =
    let test : false ≡ nat_lt first first = grind (arith, nat_tests) in
    subst (λ b. Stands parts labels f start b (word_address first) m) test (subst (λ a. Stands parts labels f start false a m) at h)

pub stands_next : (parts : Parts) (labels : Labelled) (f start first k : ℕ) (some : Bool) (op : Operation) (old new : BlockMaking) → first ≤ k → following (word_address k) ≡ word_address (k + 1) →
    AsksFor parts (word_address k) op → Passes op old new → Stands parts labels f start some (word_address k) old → Stands parts labels f start (nat_lt first (k + 1)) (word_address (k + 1)) new
stands_next parts labels f start first k some op old new from next asks passes h =
    let test : true ≡ nat_lt first (k + 1) = grind (arith, nat_tests) in
    subst (λ b. Stands parts labels f start b (word_address (k + 1)) new) test
    (subst (λ a. Stands parts labels f start true a new) next (passes parts labels f start some (word_address k) asks h))

pub stands_last : (parts : Parts) (labels : Labelled) (f start first last k : ℕ) (m : BlockMaking) → first < last → k ≡ last → Stands parts labels f start (nat_lt first k) (word_address k) m →
    Stands parts labels f start true (word_address last) m
stands_last parts labels f start first last k m more same h =
    let test : nat_lt first k ≡ true = grind (arith, nat_tests) in
    subst (λ a. Stands parts labels f start true (word_address a) m) same (subst (λ b. Stands parts labels f start b (word_address k) m) test h)
