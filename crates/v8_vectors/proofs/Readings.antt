-- What one more word does to those that were read before it, and what the flags of a digit are.
use Rattle.std.proofs.Common.{◌≡◌, ◌≢◌, ℕ, ◌<◌, ◌+◌, ◌/◌, ◌%◌, List, length, Bor, Bool, true, false, ◌&&◌, IsTrue, ◌↔◌, refl, sym, subst, take, get_or, Some, arith}
use Rattle.std.specs.Str.Parse.{digits_value}
use Rattle.std.specs.List.{All}
use Rattle.std.proofs.lemmas.List.{take_more}
use Rattle.std.proofs.lemmas.List.Elements.{All-more, All-pop}
use Rattle.v8_word.specs.Word.{bits_of}
use Rattle.v8_word.specs.declared.Icc.{Icc}
use Rattle.v8_alu.specs.Results.{from_flag}
use Rattle.v8_vectors.specs.Agreement.{IsSpelledAgain}
use Rattle.v8_vectors.specs.Pieces.{IsWord, AreSpelledAgain, digit_of}

-- what is known of the words so far
pub record WordsSoFar (seen : List (Bor (List ℕ))) (all : Bool) : Type 0 where
  pub words : All (λ p. IsWord p.now) seen
  pub spelled : IsTrue all ↔ AreSpelledAgain seen

both : (a b : Bool) → IsTrue a → IsTrue b → IsTrue (a && b)
both true b x y = y
both false b x y = x

left : (a b : Bool) → IsTrue (a && b) → IsTrue a
left true b x = refl
left false b x = x

right : (a b : Bool) → IsTrue (a && b) → IsTrue b
right true b x = x
right false b x = absurd (cc x)

-- one more word is read, of the number n
pub words_next : (ws : List (Bor (List ℕ))) (i : ℕ) (d : Bor (List ℕ)) (n : ℕ) (all answer : Bool) → i < length ws → WordsSoFar (take i ws) all
    → IsWord (get_or ws i d).now × (n ≡ digits_value 16 (get_or ws i d).now) → (IsTrue answer ↔ IsSpelledAgain n) → WordsSoFar (take (i + 1) ws) (all && answer)
words_next ws i d n all answer l before word decides =
    let decides' : IsTrue answer ↔ IsSpelledAgain (digits_value 16 (get_or ws i d).now) = subst (λ n. IsTrue answer ↔ IsSpelledAgain n) word.1 decides in
    record {
      words = All-more (λ p. IsWord p.now) ws i d l before.words word.0;
      spelled = (
        λ t. All-more (λ p. IsSpelledAgain (digits_value 16 p.now)) ws i d l (before.spelled.0 (left all answer t)) (decides'.0 (right all answer t)),
        λ whole. let parts =
            All-pop (λ p. IsSpelledAgain (digits_value 16 p.now)) (take (i + 1) ws) (take i ws) (Some (get_or ws i d)) (take_more ws i d l) whole in
            both all answer (before.spelled.1 parts.0) (decides'.1 parts.1),
      );
    }

flag_value : (b : Bool) (n : ℕ) → n < 2 → (IsTrue b ↔ (n ≡ 1)) → from_flag b ≡ n
flag_value true n l h = sym (h.0 refl)
flag_value false n l h = let ne : n ≢ 1 = λ e. cc (h.1 e) in omega arith

-- the flags that stand at a digit's bits spell that digit
pub digit_of_flags : (digit : ℕ) (f : Icc) → digit < 16
    → (IsTrue f.n ↔ (bits_of digit 3 1 ≡ 1)) → (IsTrue f.z ↔ (bits_of digit 2 1 ≡ 1)) → (IsTrue f.v ↔ (bits_of digit 1 1 ≡ 1)) → (IsTrue f.c ↔ (bits_of digit 0 1 ≡ 1))
    → digit_of f ≡ digit
digit_of_flags digit f l n z v c =
    let ns : from_flag f.n ≡ digit / 8 % 2 = flag_value f.n (digit / 8 % 2) (omega arith) n in
    let zs : from_flag f.z ≡ digit / 4 % 2 = flag_value f.z (digit / 4 % 2) (omega arith) z in
    let vs : from_flag f.v ≡ digit / 2 % 2 = flag_value f.v (digit / 2 % 2) (omega arith) v in
    let cs : from_flag f.c ≡ digit / 1 % 2 = flag_value f.c (digit / 1 % 2) (omega arith) c in
    omega arith
