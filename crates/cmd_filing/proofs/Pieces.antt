-- What a file that is read piece by piece tells of the image.
use Rattle.std.proofs.Common.{◌≡◌, ◌≢◌, sym, ap, subst, ℕ, List, ◌++◌, Option, None, Some, IfSome, Result, Ok, Err, ◌∙◌}
use Rattle.std.proofs.lemmas.List.{append_assoc}
use Rattle.std.specs.Io.KnownBytes.{Consumes}
use Rattle.sbx_image.specs.ImageFault.{ImageFault}
use Rattle.sbx_image.specs.ImageFault.TheVariants as fault
use Rattle.sbx_image.specs.Reading.{reading}
use Rattle.sbx_reader.specs.Fronts.{Kept, IsFed, front}
use Rattle.sbx_reader.proofs.Lasting.{front_lasts}
use Rattle.want.specs.Wants.{refused}
use Rattle.cmd_stops.specs.Stops.{IsTrueOfImage, stop_of_image}

-- the reader joined what the file gave so far
abbrev pub Joined : Option (List ℕ) → Option (List ℕ) → Kept → Type 0
Joined all left (Ok bytes) = Consumes all left bytes
Joined all left (Err fault) = ⊥

-- a piece more
pub joined_more : (all left less : Option (List ℕ)) (bytes piece : List ℕ) → Consumes all left bytes → Consumes left less piece → Consumes all less (bytes ++ piece)
joined_more None left less bytes piece p q = tt
joined_more (Some a) None less bytes piece p q = absurd p
joined_more (Some a) (Some b) None bytes piece p q = absurd q
joined_more (Some a) (Some b) (Some c) bytes piece p q = p ∙ (ap (λ (l : List ℕ). bytes ++ l) q ∙ sym (append_assoc bytes piece c))

-- the fault of the pieces joined is that of the whole file
stop_holds : (e : ImageFault) (bytes : List ℕ) → (e ≢ fault.Memory refused → reading bytes ≡ Err e) → IsTrueOfImage (stop_of_image e) bytes
stop_holds (fault.Memory want) bytes p = tt
stop_holds fault.Short bytes p = p (λ q. absurd cc)
stop_holds fault.Magic bytes p = p (λ q. absurd cc)
stop_holds fault.Version bytes p = p (λ q. absurd cc)
stop_holds fault.Service bytes p = p (λ q. absurd cc)
stop_holds fault.Limit bytes p = p (λ q. absurd cc)
stop_holds fault.Trailing bytes p = p (λ q. absurd cc)
stop_holds fault.Order bytes p = p (λ q. absurd cc)
stop_holds fault.Range bytes p = p (λ q. absurd cc)

pub front_stop : (all less : Option (List ℕ)) (joined : List ℕ) (e : ImageFault) → (e ≢ fault.Memory refused → front joined ≡ Err e)
    → Consumes all less joined → IfSome all (IsTrueOfImage (stop_of_image e))
front_stop None less joined e p q = tt
front_stop (Some a) None joined e p q = absurd q
front_stop (Some a) (Some b) joined e p q = subst (IsTrueOfImage (stop_of_image e)) (sym q) (stop_holds e (joined ++ b) (λ ne. front_lasts joined b e (p ne)))

-- what a piece more tells where it is refused
pub fed_stop : (all left less : Option (List ℕ)) (old new : Kept) (piece : List ℕ) (result : Result (Unit {0}) ImageFault) (e : ImageFault)
    → Joined all left old → Consumes left less piece → IsFed old piece result new → result ≡ Err e → IfSome all (IsTrueOfImage (stop_of_image e))
fed_stop all left less (Err fault) new piece result e joined more fed is = absurd joined
fed_stop all left less (Ok bytes) new piece (Ok unit) e joined more fed is = absurd cc
fed_stop all left less (Ok bytes) new piece (Err other) e joined more fed is =
    let same : other ≡ e = cc in
    let told : IfSome all (IsTrueOfImage (stop_of_image other)) = front_stop all less (bytes ++ piece) other fed.0 (joined_more all left less bytes piece joined more) in
    subst (λ (f : ImageFault). IfSome all (IsTrueOfImage (stop_of_image f))) same told
