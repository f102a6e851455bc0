-- Want of memory, as contracts see it: the evidence has one value.
use Rattle.std.specs.Prelude.{alloc_error}
use Rattle.want.specs.declared.Want.{Want}

abbrev pub refused : Want
refused = record { 0 = alloc_error }
