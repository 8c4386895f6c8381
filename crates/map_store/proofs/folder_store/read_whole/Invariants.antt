use Rattle.std.proofs.Common.{◌≤◌, vec_len, take}
use Rattle.std.specs.Io.KnownBytes.{Consumes}
use Rattle.map_store.proofs.folder_store.read_whole.Given as goal

abbrev pub invariant-loop : goal.invariant-loop
invariant-loop g l = record {
  within : l.end ≤ vec_len l.bytes;
  limit : vec_len l.bytes ≤ 67108865;
  input : Consumes (g.F.Read.remaining l.fn.file) (g.F.Read.remaining l.file) (take l.end l.bytes.items);
}
