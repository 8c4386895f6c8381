-- What is read as a line for all edits is no other line.
use Rattle.std.proofs.Common.{◌≡◌, cond, false, Ok, Err, is_err, refl, ap, ◌∙◌}
use Rattle.std.specs.List.{flat_map}
use Rattle.map_model.specs.declared.parts.MoreLayerKind.TheVariants.{Group, Image}
use Rattle.refusals.specs.declared.line_fault.LineFault.{LineFault}
use Rattle.session.specs.declared.line.Line.TheVariants.{Quiet}
use Rattle.session.specs.declared.more_line.MoreLine.{MoreLine}
use Rattle.session.specs.declared.more_line.MoreLine.TheVariants.{SetMember, PutMembers, RemoveMember, AddLayer, PutObject, PutLayer}
use Rattle.session.specs.declared.more_line.MoreLine.TheVariants.{ReparentObject, ReparentLayer, PutProperty, TakeProperty, PutTileset, NumberTileset, Extend}
use Rattle.session.specs.Grammar.{is_quiet, line_form, line_of, read, word_at}
use Rattle.session.specs.MoreSpelling.{MoreIsNotALine, more_spelling, more_tokens}
use Rattle.session.specs.Spelling.{token_words}
use Rattle.session.specs.Words.{words}
use Rattle.session.proofs.FirstChecks.{checked}
use Rattle.session.proofs.MoreForms.{more_read_is_spelled, more_words}

-- what is found of each line by computing: its words begin with a letter, and are no line
record Refused (line : MoreLine) : Type 0 where
  fault : LineFault
  are : read line_form (flat_map token_words (more_tokens line)) ≡ Err fault
  loud : is_quiet (more_spelling line) ≡ false

refused : (line : MoreLine) → Refused line
unfolding word_at
refused (SetMember owner name json follows) = record { fault = _; are = refl; loud = refl }
refused (PutMembers owner json follows) = record { fault = _; are = refl; loud = refl }
refused (RemoveMember owner name) = record { fault = _; are = refl; loud = refl }
refused (AddLayer Group name) = record { fault = _; are = refl; loud = refl }
refused (AddLayer Image name) = record { fault = _; are = refl; loud = refl }
refused (PutObject layer json) = record { fault = _; are = refl; loud = refl }
refused (ReparentObject object layer place) = record { fault = _; are = refl; loud = refl }
refused (ReparentLayer layer group place) = record { fault = _; are = refl; loud = refl }
refused (PutLayer group place json) = record { fault = _; are = refl; loud = refl }
refused (PutProperty owner json) = record { fault = _; are = refl; loud = refl }
refused (TakeProperty owner json) = record { fault = _; are = refl; loud = refl }
refused (PutTileset json) = record { fault = _; are = refl; loud = refl }
refused (NumberTileset first_id number) = record { fault = _; are = refl; loud = refl }
refused (Extend left top right bottom) = record { fault = _; are = refl; loud = refl }

pub more_is_not_a_line : MoreIsNotALine
more_is_not_a_line bytes line e =
    let spelled = more_read_is_spelled bytes line e in
    let back = more_words line spelled.1 in
    let r = refused line in
    let is : line_of (more_spelling line) ≡ Err r.fault = checked (more_spelling line) spelled.1.short back.0
    ∙ ap (λ b. cond b (Ok Quiet) (read line_form (words (more_spelling line)))) r.loud
    ∙ ap (read line_form) back.1
    ∙ r.are in
    ap is_err (ap line_of spelled.0 ∙ is)
