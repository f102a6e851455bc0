-- A write to RAM keeps the words beside it.
use Rattle.std.proofs.Common.{◌≡◌, ℕ, ◌<◌, Bool, true, false, List, Option, Some, None, refl, ap, ◌∙◌}
use Rattle.std.specs.Prelude.{if◌then◌else◌}
use Rattle.v8_mmu.specs.Size.{Size}
use Rattle.v8_mmu.specs.Meaning.{bytes_in, limit_of}
use Rattle.v8_mmu.specs.Ram.{KeepsWords, entry_of, number_at, with_number}
use Rattle.v8_mmu.proofs.RamNumbers.{stores}

kept_by : (old new : List ℕ) (at v : ℕ) (size : Size) (done : Bool) (o : Option ℕ) → number_at old at size ≡ o → (o ≡ None → done ≡ false) → v < limit_of size →
    new ≡ (if done then with_number old at size v else old) → KeepsWords old new at (bytes_in size)
kept_by old new at v size false o is missing small change = λ p apart. ap (λ r. entry_of r p) change
kept_by old new at v size true (Some before) is missing small change = λ p apart. ap (λ r. entry_of r p) change ∙ (stores old at before v size is small).words p apart
kept_by old new at v size true None is missing small change = let bad : true ≡ false = missing refl in cc

pub write_keeps : (old new : List ℕ) (at v : ℕ) (size : Size) (done : Bool) → (number_at old at size ≡ None → done ≡ false) → v < limit_of size →
    new ≡ (if done then with_number old at size v else old) → KeepsWords old new at (bytes_in size)
write_keeps old new at v size done missing small change = kept_by old new at v size done (number_at old at size) refl missing small change
