-- What runs as an image does, runs in pieces as it does.
use Rattle.std.proofs.Common.{◌≡◌, ℕ, ◌+◌, ◌-◌, ◌≤◌, List, [], ◌++◌, refl, sym, ap, ◌∙◌, subst, arith}
use Rattle.sbx_image.specs.Parts.{Parts}
use Rattle.sbx_flat.specs.Traffic.{traffic}
use Rattle.sbx_flat.specs.declared.path.Traffic.{Traffic}
use Rattle.native_lang.specs.Runs.{Turn, Goes, Over, Lost, onward, run, start}
use Rattle.native_lang.specs.World.{World}
use Rattle.native_lang.specs.declared.program.NativeProgram.{NativeProgram}
use Rattle.native_ends.specs.Answers.{EndsAs, RunsAs}
use Rattle.native_flow.specs.Pieces.{AreFirstOf, IsOnItsWay, IsOver, Piece, RunsInPieces, bytes_of_all, come_to, given}
use Rattle.native_flow.proofs.Pieces.{Grown, both_made, by_pieces, further, nothing_given, run_grown}

module _ (parts : Parts) (program : NativeProgram) (n : ℕ) (input : List ℕ) (ends : EndsAs parts program n input) where
  abbrev OnItsWay : Turn → Type 0
  OnItsWay turn = IsOnItsWay ends.output ends.status (traffic parts n ends.path) turn

  abbrev begun : Turn
  begun = Goes 0 0 (start program input)

  over_all : (word : ℕ) (w : World) → Over word w ≡ Over ends.status ends.world → OnItsWay (Over word w)
  over_all word w e =
      let same : w ≡ ends.world = cc in
      let word_is : word ≡ ends.status = cc in
      (ap (λ (v : World). v.output) same ∙ ends.is_output, word_is, ap (λ (v : World). v.counts) same ∙ ends.is_traffic)

  by_its_end : (turn : Turn) → further program n ends.steps turn ≡ Over ends.status ends.world → OnItsWay turn
  by_its_end (Goes label at w) e =
      let grown = subst (λ x. Grown w.output x) e (run_grown program n ends.steps label at w) in
      (grown.0, sym ends.is_output ∙ grown.1)
  by_its_end (Over word w) e = over_all word w e
  by_its_end Lost e = absurd (cc)

  pub on_its_way : (k : ℕ) (turn : Turn) → turn ≡ further program n k begun → OnItsWay turn
  on_its_way k turn is =
      let turned : k + ends.steps ≡ ends.steps + k = omega arith in
      by_its_end turn
      (ap (further program n ends.steps) is ∙ both_made program n k ends.steps begun ∙ ap (λ j. further program n j begun) turned
      ∙ sym (both_made program n ends.steps k begun) ∙ ap (further program n k) ends.ends)

  pub over_by_then : (k : ℕ) → ends.steps ≤ k → further program n k begun ≡ Over ends.status ends.world
  over_by_then k late =
      let e : k ≡ ends.steps + (k - ends.steps) = omega (arith, late) in
      ap (λ j. further program n j begun) e ∙ sym (both_made program n ends.steps (k - ends.steps) begun) ∙ ap (further program n (k - ends.steps)) ends.ends

  pub none_later : (later : List ℕ) (turn : Turn) → OnItsWay (given later turn) → OnItsWay turn
  none_later later (Goes label at w) h = h
  none_later later (Over word w) h = h
  none_later later Lost h = h

pub runs_in_pieces : (parts : Parts) (program : NativeProgram) → RunsAs parts program → RunsInPieces parts program
runs_in_pieces parts program runs n pieces later two bytes =
    let all = bytes_of_all pieces ++ later in
    let ends = runs n all two bytes in
    let there = come_to program n pieces in
    let made = by_pieces program n pieces later (Goes 0 0 (start program [])) in
    let so_long = ends.within in
    let at_once : later ≡ [] → (k : ℕ) → further program n k there ≡ further program n (made.0 + k) (Goes 0 0 (start program all)) =
    λ none k. ap (further program n k) (sym (nothing_given there) ∙ ap (λ (bytes : List ℕ). given bytes there) (sym none) ∙ made.1)
    ∙ both_made program n made.0 k (Goes 0 0 (start program all)) in
    record {
      output = ends.output;
      status = ends.status;
      path = ends.path;
      behaves = ends.behaves;
      so_far = none_later parts program n all ends later there (on_its_way parts program n all ends made.0 (given later there) made.1);
      at_end = λ none k. on_its_way parts program n all ends (made.0 + k) (further program n k there) (at_once none k);
      ends =
          λ none k late.
          subst IsOver (sym (at_once none k ∙ over_by_then parts program n all ends (made.0 + k) (omega (arith, so_long, late)))) tt;
    }
