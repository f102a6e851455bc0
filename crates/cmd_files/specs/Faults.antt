-- What the errors of calls of the system say of a file.
use Rattle.std.specs.Prelude.{ℕ, List, codes}
use Rattle.std.specs.declared.io.ErrorKind.{ErrorKind}
use Rattle.std.specs.declared.io.ErrorKind.TheVariants.{NotFound, NotADirectory, IsADirectory, PermissionDenied}
use Rattle.cmd_files.specs.declared.faults.FileFault.{FileFault}
use Rattle.cmd_files.specs.declared.faults.FileFault.TheVariants.{Missing, Directory, Forbidden, TooLong, Failing}

-- by the kind of the error, as std reads it off the system's number
abbrev pub fault_of : ErrorKind → FileFault
fault_of NotFound = Missing
fault_of NotADirectory = Missing
fault_of IsADirectory = Directory
fault_of PermissionDenied = Forbidden
fault_of _ = Failing

-- what is told of it
abbrev pub text_of : FileFault → List ℕ
text_of Missing = codes "no such file"
text_of Directory = codes "is a directory"
text_of Forbidden = codes "permission denied"
text_of TooLong = codes "longer than 16,777,216 bytes"
text_of Failing = codes "can't be read"
