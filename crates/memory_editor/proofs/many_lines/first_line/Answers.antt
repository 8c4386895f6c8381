use Rattle.std.proofs.Common.{◌≤◌, length, arith}
use Rattle.lines.specs.Reading.{first_newline}
use Rattle.lines.proofs.Newlines.{first_is, first_is_none, none_at_all}
use Rattle.memory_editor.proofs.Cutting.{first_cut, last_cut}
use Rattle.memory_editor.proofs.many_lines.first_line.Goals as goal

pub returns-in-Some-clause-cut : goal.returns-in-Some-clause-cut
returns-in-Some-clause-cut c =
    let at = c.in-Some.at in
    let found = c.in-Some.ensures in
    first_cut c.args.bytes.now at (first_is c.args.bytes.now at found) (omega (arith, found.0.high))

pub returns-in-None-clause-cut : goal.returns-in-None-clause-cut
returns-in-None-clause-cut c =
    let bytes = c.args.bytes.now in
    let all : length bytes ≤ first_newline bytes = omega (arith, first_is_none bytes c.in-None.ensures) in
    last_cut bytes c.requires (none_at_all bytes all)
