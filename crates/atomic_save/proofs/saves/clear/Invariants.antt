use Rattle.std.proofs.Common.{ℕ, List}
use Rattle.atomic_save.specs.Saving.{LosesNothing, IsBeside}
use Rattle.atomic_save.specs.TwoRuns.{StaysCareful}
use Rattle.atomic_save.proofs.saves.clear.Given as goal

abbrev pub invariant-loop-number : goal.invariant-loop-number
invariant-loop-number g l = record {
  safe : (path bytes : List ℕ) → (IsBeside l.front path → ⊥)
      → LosesNothing (IsBeside l.front) path bytes (g.F.SaveFolder.log l.fn.folder) (g.F.SaveFolder.log l.folder);
  careful : (path : List ℕ) → StaysCareful (IsBeside l.front) path (g.F.SaveFolder.log l.fn.folder) (g.F.SaveFolder.log l.folder);
}
