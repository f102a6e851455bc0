-- The fault status of the reference MMU (appendix H): the level in bits 9:8, the access type in 7:5, the fault type in
-- 4:2.
use Rattle.std.specs.Prelude.{ℕ, ◌==◌, if◌then◌else◌, List, ◌++◌, codes}
use Rattle.std.specs.Fmt.{decimal}
use Rattle.v8_word.specs.Word.{bits_of}
use Rattle.inspect_lines.specs.Words.{word_text}

-- the access types (AT)
abbrev pub access_text : ℕ → List ℕ
access_text a =
    if a == 0 then codes "load from user data"
    else (if a == 1 then codes "load from supervisor data"
    else (if a == 2 then codes "load or execute from user instructions"
    else (if a == 3 then codes "load or execute from supervisor instructions"
    else (if a == 4 then codes "store to user data"
    else (if a == 5 then codes "store to supervisor data"
    else (if a == 6 then codes "store to user instructions"
    else codes "store to supervisor instructions"))))))

-- the fault types (FT)
abbrev pub error_text : ℕ → List ℕ
error_text f =
    if f == 0 then codes "none"
    else (if f == 1 then codes "invalid address"
    else (if f == 2 then codes "protection"
    else (if f == 3 then codes "privilege violation"
    else (if f == 4 then codes "translation"
    else (if f == 5 then codes "access bus"
    else (if f == 6 then codes "internal"
    else codes "reserved"))))))

-- a status that isn't 0: the fault, the level of the entry that ended the walk, and the access
abbrev pub fault_text : ℕ → List ℕ
fault_text s =
    word_text s ++
    (codes ": " ++
    (error_text (bits_of s 2 3)
    ++ (codes " at level " ++ (decimal (bits_of s 8 2) ++ (codes ", " ++ access_text (bits_of s 5 3))))))

abbrev pub status_text : ℕ → List ℕ
status_text s = if s == 0 then codes "none" else fault_text s
