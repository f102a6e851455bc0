-- What the services get and put do, by the rules.
use Rattle.std.proofs.Common.{◌≡◌, ℕ, zero, suc, Bool, true, false, List, [], ◌∷◌, Option, Some, None, refl, sym, ap, ◌∙◌, subst, arith}
use Rattle.std.specs.Prelude.{◌==◌, ◌&&◌, slice_get, if◌then◌else◌}
use Rattle.v8_formats.specs.declared.instr.Operand.{Operand}
use Rattle.v8_formats.specs.declared.instr.Operand.TheVariants.{Register, Immediate}
use Rattle.v8_formats.specs.declared.instr.Trap.{Trap}
use Rattle.v8_meaning.specs.Admitted.{is_admitted, is_immediate, is_service_call}
use Rattle.v8_meaning.specs.Operands.{is_always}
use Rattle.v8_meaning.specs.declared.operation.Operation.TheVariants.{TrapOnCondition}
use Rattle.sbx_image.specs.Function.{Function}
use Rattle.sbx_image.specs.Parts.{Parts}
use Rattle.sbx_range.specs.Rows.{byte_or_end}
use Rattle.sbx_flat.specs.Effects.{service_in, service_of}
use Rattle.sbx_flat.specs.Runs.{AreBytes}
use Rattle.sbx_rules.specs.Entry.{Entry}
use Rattle.sbx_rules.specs.Fits.{Fits}
use Rattle.sbx_rules.specs.Known.{Known, plain_entry, with_entry}
use Rattle.sbx_rules.specs.Transfer.{served, transferred}
use Rattle.sbx_fits.specs.Held.{Held, Keeps, with_location}
use Rattle.sbx_fits.proofs.Branches.{services_keep_fitting}
use Rattle.sbx_rules.specs.Operations.{is_framed, reads_of, service_reads}
use Rattle.sbx_image.specs.Order.{function_at}
use Rattle.sbx_rules.specs.Places.{is_exit}
use Rattle.sbx_rules.specs.Rules.{is_declared, reads_undefined, touches_reserved}
use Rattle.sbx_sound.proofs.Running.{window_of}
use Rattle.sbx_sound.proofs.Shared.{Lent}
use Rattle.sbx_sound.proofs.DataWords.{got, gets_byte, puts_byte}
use Rattle.sbx_sound.proofs.Moves.{register_shown}
use Rattle.sbx_sound.proofs.Read.{read_known}
use Rattle.sbx_sound.proofs.Safe.{Spot}
use Rattle.sbx_sound.proofs.Steps.{Does, op_of}
use Rattle.sbx_sound.proofs.Writing.{is_fewer, then_knows, unchanged_is_fewer}
use Rattle.sbx_sound.proofs.Written.{fits_shown}

-- a trap that sandboxed code may ask for is a service's
third : (a b c : Bool) → (a && b && c) ≡ true → c ≡ true
third true true c h = h
third true false c h = absurd (cc)
third false b c h = absurd (cc)

some_service : (o : Operand) → is_immediate o ≡ true → service_in o ≡ None → ⊥
some_service (Immediate n) h e = cc
some_service (Register r) h e = cc

asks_some : (t : Trap) → is_service_call t ≡ true → service_of t ≡ None → ⊥
asks_some t h e =
    some_service t.operand2 (third (is_always t.cond) (t.rs1 == 0) (is_immediate t.operand2) h)
    (sym (ap (λ (x : Bool). if x then service_in t.operand2 else None) h) ∙ e)

same_number : (m n : ℕ) → Some m ≡ Some n → m ≡ n
same_number m n e = cc

module _ (parts : Parts) (w : ℕ) (p : Spot parts w) (lent : window_of (function_at parts p.f) p.b p.i ≡ Lent →
    is_framed (function_at parts p.f).kind ≡ false) (t : Trap) (is : op_of parts w p ≡ TrapOnCondition t) where
  abbrev function : Function
  function = function_at parts p.f

  abbrev d : Known
  d = p.v.known

  abbrev held : Held
  held = record { words = p.k.words; icc = p.k.icc; y = p.k.y }

  got_fits : (input : List ℕ) → AreBytes input → service_of t ≡ Some 1 → Keeps d (then_knows parts w p (TrapOnCondition t)) held (with_location 8 (got parts w p input) held)
  got_fits [] are service = services_keep_fitting.get_end function.frame t d held service
  got_fits (byte ∷ rest) are service = services_keep_fitting.get_byte function.frame byte t d held service (are 0)

  pub gets : service_of t ≡ Some 1 → is_declared parts.services (service_of t) ≡ true → Does parts w p
  unfolding transferred
  gets service asked =
      let o = TrapOnCondition t in
      let v = got parts w p p.k.input in
      let e : Option Entry = Some (plain_entry byte_or_end) in
      let same : then_knows parts w p o ≡ with_entry 8 e d = ap (λ x. served x d) service in
      gets_byte parts w p t is service (sym (ap (is_declared parts.services) service) ∙ asked)
      (record { register = omega arith; sp = omega arith; fp = omega arith; i7 = omega arith; lent = λ e. (omega arith, omega arith) })
      (fits_shown p.start (then_knows parts w p o) 8 v p.k.words p.k.icc p.k.y (omega arith) ((got_fits p.k.input p.at.stored.of_input service).fits p.start p.at.fits)) (is_fewer parts w p o 8 e same)

  pub puts : service_of t ≡ Some 2 → is_declared parts.services (service_of t) ≡ true → reads_undefined function (TrapOnCondition t) d ≡ false →
      touches_reserved function (TrapOnCondition t) ≡ false → Does parts w p
  unfolding reads_of transferred
  puts service asked known kept =
      let o = TrapOnCondition t in
      let same : then_knows parts w p o ≡ d = services_keep_fitting.others function.frame t d (λ e. (let x = same_number 2 1 (sym service ∙ e) in omega (arith, x))) in
      puts_byte parts w p t (p.k.words 8) is service (sym (ap (is_declared parts.services) service) ∙ asked)
      (register_shown parts w p lent 8 (omega arith) (read_known function o d known kept 0 8 (ap (λ x. slice_get (service_reads x) 0) service)))
      (subst (λ x. Fits p.start x p.k.words p.k.icc p.k.y) (sym same) p.at.fits) (unchanged_is_fewer parts w p o same)

  -- a service but the exit
  pub serves : is_admitted (TrapOnCondition t) ≡ true → is_declared parts.services (service_of t) ≡ true → is_exit (service_of t) ≡ false
      → reads_undefined function (TrapOnCondition t) d ≡ false → touches_reserved function (TrapOnCondition t) ≡ false → Does parts w p
  unfolding is_admitted
  serves admitted asked runs_on known kept = by_service (service_of t) refl
    where
      by_service : (o : Option ℕ) → service_of t ≡ o → Does parts w p
      by_service None e = absurd (asks_some t admitted e)
      by_service (Some zero) e = absurd (let x : is_exit (service_of t) ≡ true = ap is_exit e in cc)
      by_service (Some (suc zero)) e = gets e asked
      by_service (Some (suc (suc zero))) e = puts e asked known kept
      by_service (Some (suc (suc (suc n)))) e = absurd (let x : is_declared parts.services (service_of t) ≡ false = ap (is_declared parts.services) e in cc)
