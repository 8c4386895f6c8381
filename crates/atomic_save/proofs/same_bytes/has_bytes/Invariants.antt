-- Some bytes were read, and are those at the front.
use Rattle.std.proofs.Common.{◌≡◌, ℕ, List, ◌++◌}
use Rattle.std.specs.Io.KnownBytes.{Consumes}
use Rattle.atomic_save.proofs.same_bytes.has_bytes.Given as goal

abbrev pub invariant-loop : goal.invariant-loop
invariant-loop g l =
    (sofar : List ℕ) × (l.bytes ≡ sofar ++ l.rest) × Consumes (g.F.Read.remaining l.fn.file) (g.F.Read.remaining l.file) sofar
