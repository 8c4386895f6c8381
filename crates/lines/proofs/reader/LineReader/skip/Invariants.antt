use Rattle.std.proofs.Common.{◌≡◌, ◌-◌, ◌*◌, ◌^◌, ◌<◌, ◌≤◌, IsTrue}
use Rattle.std.specs.Io.KnownBytes.{IsAtEnd}
use Rattle.lines.specs.Reading.{input_left, StopsInLine, budget, AsksInNeed}
use Rattle.lines.proofs.reader.LineReader.skip.Given as goal

abbrev pub invariant-loop-self : goal.invariant-loop-self
invariant-loop-self g l = record {
  input : StopsInLine (input_left l.fn.self (g.R.Read.remaining l.fn.reader)) (input_left l.self (g.R.Read.remaining l.reader));
  ended : IsTrue l.self.ended → IsAtEnd (g.R.Read.remaining l.reader);
  within : budget l.self ≤ budget l.fn.self;
  asks : AsksInNeed l.fn.self (g.R.Read.remaining l.fn.reader) l.self (g.R.Read.remaining l.reader);
  untouched : l.self.calls ≡ l.fn.self.calls → l.reader ≡ l.fn.reader;
  called : l.fn.self.calls ≤ l.self.calls;
  spent : (2 ^ 32 - l.self.calls) * 2 ^ 16 < budget l.fn.self;
}

abbrev pub decreases-loop-self : goal.decreases-loop-self
decreases-loop-self g l = 2 ^ 32 - l.self.calls
