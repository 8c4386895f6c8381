-- Which lines an editor reads, by C's numbers.
use Rattle.std.specs.Prelude.{ℕ, ◌==◌, Option, None, Some, if◌then◌else◌}
use Rattle.fractions.specs.declared.lines.Fractions.TheVariants.{Refused, SetAside}
use Rattle.document_lines.specs.declared.dialect.Dialect.{Dialect}
use Rattle.document_lines.specs.declared.dialect.Dialect.TheVariants.{Plain, AllEdits}

-- the dialect of a number
abbrev pub dialect_at : ℕ → Option Dialect
dialect_at n =
    if n == 0 then Some Plain else (if n == 1 then Some (AllEdits Refused) else (if n == 2 then Some (AllEdits SetAside) else None))
