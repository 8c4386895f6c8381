-- What is told by each fault of a strict run.
use Rattle.std.specs.Prelude.{List, [], Option}
use Rattle.session_run.specs.StrictRuns.{Tells, TellsDocuments, TellsOneLine, Told}
use Rattle.session_run.specs.declared.strict.StrictFault.{StrictFault}
use Rattle.session_run.specs.declared.strict.StrictFault.TheVariants.{Refused, Run, Unsaved}

abbrev pub TellsFault : StrictFault → Option (List Told) → Option (List Told) → Type 0
TellsFault (Run fault) old new = Tells old new []
TellsFault Refused old new = TellsOneLine old new
TellsFault Unsaved old new = TellsDocuments old new
