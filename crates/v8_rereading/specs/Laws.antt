-- The text of an instruction is read as that instruction.
use Rattle.std.specs.Prelude.{◌≡◌, ℕ, ◌^◌, ◌<◌, List, [], ◌∷◌, length, Option, None, Ok, Err, MatchResult}
use Rattle.sbx_text.specs.declared.Token.{Token}
use Rattle.sbx_text.specs.Tokens.{tokens_of}
use Rattle.v8_formats.specs.declared.instr.AlternateOperand.{AlternateOperand}
use Rattle.v8_formats.specs.declared.instr.AlternateOperand.TheVariants as places
use Rattle.v8_formats.specs.declared.instr.Instr.{Instr}
use Rattle.v8_formats.specs.declared.instr.Instr.TheVariants.{LoadAlternate, LoadUnsignedByteAlternate}
use Rattle.v8_formats.specs.declared.instr.Instr.TheVariants.{LoadUnsignedHalfAlternate, LoadDoubleAlternate}
use Rattle.v8_formats.specs.declared.instr.Instr.TheVariants.{LoadSignedByteAlternate, LoadSignedHalfAlternate}
use Rattle.v8_formats.specs.declared.instr.Instr.TheVariants.{LoadStoreUnsignedByteAlternate, SwapAlternate}
use Rattle.v8_formats.specs.declared.instr.Instr.TheVariants.{StoreAlternate, StoreByteAlternate, StoreHalfAlternate}
use Rattle.v8_formats.specs.declared.instr.Instr.TheVariants.{StoreDoubleAlternate, FpOperate, CpOperate, FpMemory}
use Rattle.v8_formats.specs.declared.instr.Instr.TheVariants.{CpMemory, FpBranch, CpBranch, Undefined}
use Rattle.v8_formats.specs.Table.{meaning}
use Rattle.v8_syntax.specs.declared.fault.SyntaxFault.{SyntaxFault}
use Rattle.v8_syntax.specs.declared.fault.SyntaxFault.TheVariants.{UnknownMnemonic, Shape, Immediate, UnknownSymbol}
use Rattle.v8_syntax.specs.declared.fault.SyntaxFault.TheVariants.{Target}
use Rattle.v8_formats.specs.Spelling.{spelling}
use Rattle.v8_forms.specs.Text.{native_of, text_of}
use Rattle.v8_syntax.specs.Statements.{source_meaning, statement_length}

-- an address in another space has a syntax where it is two registers (appendix A, "asi")
abbrev pub IsPair : AlternateOperand → Type 0
IsPair (places.Register r asi) = Unit {0}
IsPair (places.Immediate n) = ⊥

-- the instruction has a mnemonic: its text is no bare `.word`
abbrev pub HasSyntax : Instr → Type 0
HasSyntax (LoadAlternate f) = IsPair f.place
HasSyntax (LoadUnsignedByteAlternate f) = IsPair f.place
HasSyntax (LoadUnsignedHalfAlternate f) = IsPair f.place
HasSyntax (LoadDoubleAlternate f) = IsPair f.place
HasSyntax (LoadSignedByteAlternate f) = IsPair f.place
HasSyntax (LoadSignedHalfAlternate f) = IsPair f.place
HasSyntax (LoadStoreUnsignedByteAlternate f) = IsPair f.place
HasSyntax (SwapAlternate f) = IsPair f.place
HasSyntax (StoreAlternate f) = IsPair f.place
HasSyntax (StoreByteAlternate f) = IsPair f.place
HasSyntax (StoreHalfAlternate f) = IsPair f.place
HasSyntax (StoreDoubleAlternate f) = IsPair f.place
HasSyntax (FpOperate w) = ⊥
HasSyntax (CpOperate w) = ⊥
HasSyntax (FpMemory w) = ⊥
HasSyntax (CpMemory w) = ⊥
HasSyntax (FpBranch w) = ⊥
HasSyntax (CpBranch w) = ⊥
HasSyntax (Undefined w) = ⊥
HasSyntax _ = Unit {0}

-- a line has tokens, and is a statement of this one instruction, whatever its names are worth and wherever it stands
abbrev pub IsReadAs : List ℕ → Instr → Type 0
IsReadAs line i = (tokens : List Token) × (tokens_of line ≡ Ok tokens)
    × ((values : List ℕ → Option ℕ) (here : ℕ) → source_meaning values here line tokens ≡ Ok (i ∷ []))

-- what a word means, printed and read again
abbrev pub ReadsEachTextBack : Type 0
ReadsEachTextBack = (w : ℕ) → w < 2 ^ 32 → HasSyntax (meaning w) → IsReadAs (text_of (meaning w)) (meaning w)

-- a line has tokens, whose mnemonic is unknown
abbrev pub IsNotRead : List ℕ → Type 0
IsNotRead line = (tokens : List Token) × (tokens_of line ≡ Ok tokens)
    × ((values : List ℕ → Option ℕ) (here : ℕ) → source_meaning values here line tokens ≡ Err UnknownMnemonic)

-- a bare `.word` is taken for no instruction
abbrev pub RefusesEachBareWord : Type 0
RefusesEachBareWord = (w : ℕ) → native_of (spelling (meaning w)) ≡ None → IsNotRead (text_of (meaning w))

-- the tokens are no statement: the mnemonic is unknown, or its operands have another shape
abbrev pub IsNoStatement : SyntaxFault → Type 0
IsNoStatement UnknownMnemonic = Unit {0}
IsNoStatement Shape = Unit {0}
IsNoStatement Immediate = ⊥
IsNoStatement UnknownSymbol = ⊥
IsNoStatement Target = ⊥

-- what has instructions has as many as are counted before any of its names is worth anything; what is no statement
-- counts as one
abbrev pub CountsInstructions : Type 0
CountsInstructions =
    (values : List ℕ → Option ℕ) (here : ℕ) (line : List ℕ) (tokens : List Token)
    → MatchResult (source_meaning values here line tokens) (λ is. length is ≡ statement_length line tokens)
    (λ f. IsNoStatement f → statement_length line tokens ≡ 1)
