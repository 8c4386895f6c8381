use Rattle.std.proofs.Common.{◌∙◌, ap, map, sym, refl}
use Rattle.undo_stack.specs.Nestings.{nesting}
use Rattle.undo_stack.proofs.Held.{stays, goes, nestings_go, nestings_stay, reports-target_in}
use Rattle.undo_stack.proofs.sequence.Sequence.settle.Goals as goal

pub returns-then-obsolete-clause-settled : goal.returns-then-obsolete-clause-settled
returns-then-obsolete-clause-settled g c d h has =
    let r = c.requires in
    let e = c.obsolete.ensures in
    goes g.C.Command.change c.args.self.now c.index.result.now r.some r.at_end c.index.ensures e.law d _
    (record { entries = c.truncate.ensures.items; index = refl; clean = refl; limit = refl; has_free = refl })
    (sym e.answer ∙ c.if-obsolete.true) h has

pub returns-else-obsolete-clause-settled : goal.returns-else-obsolete-clause-settled
returns-else-obsolete-clause-settled g c d h has =
    let r = c.requires in
    let e = c.obsolete.ensures in
    stays g.C.Command.change c.args.self.now c.index.result.now r.some r.at_end c.index.ensures e.law d (sym e.answer ∙ c.if-obsolete.false) h

pub returns-then-obsolete-clause-nests : goal.returns-then-obsolete-clause-nests
returns-then-obsolete-clause-nests g c =
    let r = c.requires in
    let e = c.obsolete.ensures in
    ap (map nesting) c.truncate.ensures.items
    ∙ nestings_go g.C.Command.change c.args.self.now c.index.result.now r.some r.at_end c.index.ensures e.law (sym e.answer ∙ c.if-obsolete.true)

pub returns-else-obsolete-clause-nests : goal.returns-else-obsolete-clause-nests
returns-else-obsolete-clause-nests g c =
    let r = c.requires in
    let e = c.obsolete.ensures in
    nestings_stay g.C.Command.change c.args.self.now c.index.result.now r.some r.at_end c.index.ensures e.law (sym e.answer ∙ c.if-obsolete.false)

pub returns-then-obsolete-clause-gone : goal.returns-then-obsolete-clause-gone
returns-then-obsolete-clause-gone g c =
    let r = c.requires in
    let e = c.obsolete.ensures in
    let is = reports-target_in g.C.Command.change c.args.self.now c.index.result.now r.some r.at_end c.index.ensures e.law in
    sym (is ∙ sym e.answer ∙ c.if-obsolete.true)

pub returns-else-obsolete-clause-gone : goal.returns-else-obsolete-clause-gone
returns-else-obsolete-clause-gone g c =
    let r = c.requires in
    let e = c.obsolete.ensures in
    let is = reports-target_in g.C.Command.change c.args.self.now c.index.result.now r.some r.at_end c.index.ensures e.law in
    sym (is ∙ sym e.answer ∙ c.if-obsolete.false)
