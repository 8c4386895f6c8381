-- Lines for which no store is asked.
use Rattle.std.proofs.Common.{List, refl}
use Rattle.map_store.specs.Asking.{Asked}
use Rattle.session.specs.declared.line.Line.{Line}
use Rattle.session.specs.declared.line.Line.TheVariants.{Open, Save}
use Rattle.session.specs.declared.reply.Reply.{Reply}
use Rattle.document_lines.specs.declared.planned.Planned.{Planned}
use Rattle.document_lines.specs.declared.planned.Planned.TheVariants as planned
use Rattle.document_lines.specs.Machine.{Machine}
use Rattle.document_lines.specs.Planning.{IsOfActive}
use Rattle.document_lines.specs.Rules.{rule_of}
use Rattle.editor.specs.Asking.{Asks, Keeps, PlanAsks}

-- a line about the active document
unasked-reply : (line : Line) (m : Machine) (keeps : Keeps) (reply : Reply) (asked : List Asked) → IsOfActive (rule_of line)
    → Asks line m keeps reply asked asked
unasked-reply (Open name file) m keeps reply asked about = absurd about
unasked-reply (Save file) m keeps reply asked about = absurd about
unasked-reply line m keeps reply asked about = refl

pub unasked : (line : Line) (m : Machine) (keeps : Keeps) (plan : Planned) (asked : List Asked) → IsOfActive (rule_of line)
    → PlanAsks line m keeps plan asked asked
unasked line m keeps planned.Quiet asked about = refl
unasked line m keeps (planned.Reply reply) asked about = unasked-reply line m keeps reply asked about
unasked line m keeps (planned.Push edit) asked about = refl
