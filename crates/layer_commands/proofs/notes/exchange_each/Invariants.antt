use Rattle.std.proofs.Common.{◌≡◌}
use Rattle.layer_commands.proofs.NoteLaws.{first_own, with_first}
use Rattle.layer_commands.proofs.notes.exchange_each.Given as goal

abbrev pub invariant-loop-at : goal.invariant-loop-at
invariant-loop-at l = record {
  notes : l.notes ≡ first_own l.at l.fn.notes l.fn.document;
  document : l.document ≡ with_first l.at l.fn.notes l.fn.document;
}
