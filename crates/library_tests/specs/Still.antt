-- A command of a test, which changes nothing.
use Rattle.std.specs.Prelude.{Bool, None}
use Rattle.command_api.specs.Exchange.{Exchange}
use Rattle.command_api.specs.Names.{Names}

-- an exchange that leaves each document as it is
abbrev pub still : Names → Bool → Exchange
still names obsolete = record { names = names; obsolete = obsolete; made = None; exchanged = λ d. d; fits = λ d. Unit {0} }
