-- The function that an address is in.
use Rattle.std.proofs.Common.{◌≡◌, ℕ, suc, ◌+◌, ◌<◌, List, ◌∷◌, length, get_or, drop, sym, ap, ◌∙◌, add-one, drop-cons}
use Rattle.sbx_image.specs.Function.{Function}
use Rattle.inspect_run.specs.declared.places.CodePlace.{CodePlace}
use Rattle.inspect_run.specs.Places.{last_from, nearer}

-- one function more
pub one_more : (n i address : ℕ) (before new total : CodePlace) (fs : List Function) (f : Function) → i < length fs → f ≡ get_or fs i f
    → new ≡ nearer before n f address → last_from n before (drop i fs) address ≡ total → last_from (n + 1) new (drop (i + 1) fs) address ≡ total
one_more n i address before new total fs f lt is step so_far =
    let front : drop i fs ≡ f ∷ drop (i + 1) fs = rw add-one (drop-cons fs i f lt ∙ ap (λ (g : Function). g ∷ drop (suc i) fs) (sym is)) in
    rw step (sym (ap (λ (gs : List Function). last_from n before gs address) front) ∙ so_far)
