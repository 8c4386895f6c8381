use Rattle.std.proofs.Common.{◌<◌}
use Rattle.atomic_save.specs.Crash.{refusals}
use Rattle.atomic_save.specs.Saving.{LosesNothing, IsBeside}
use Rattle.atomic_save.specs.TwoRuns.{StaysCareful}
use Rattle.atomic_save.proofs.saves.replace.Given as goal

abbrev pub invariant-loop-number : goal.invariant-loop-number
invariant-loop-number g l = record {
  safe : LosesNothing (IsBeside l.front) l.path l.bytes (g.F.SaveFolder.log l.fn.folder) (g.F.SaveFolder.log l.folder);
  careful : StaysCareful (IsBeside l.front) l.path (g.F.SaveFolder.log l.fn.folder) (g.F.SaveFolder.log l.folder);
  reason : 0 < l.number → refusals (g.F.SaveFolder.log l.fn.folder) < refusals (g.F.SaveFolder.log l.folder);
}
