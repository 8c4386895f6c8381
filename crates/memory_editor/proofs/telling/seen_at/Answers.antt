use Rattle.std.proofs.Common.{◌+◌}
use Rattle.std.specs.Prelude.{slice_get}
use Rattle.undo_stack.specs.Entries.{entry_change}
use Rattle.undo_stack.specs.History.{document_at}
use Rattle.undo_stack.specs.Nestings.{nesting}
use Rattle.undo_stack.specs.Stacks.{history}
use Rattle.document_lines.specs.Differing.{DifferWithin}
use Rattle.document_lines.specs.Planning.{edit_change}
use Rattle.memory_editor.specs.Unions.{open_document}
use Rattle.memory_editor.proofs.Unions.{behind-open, behind-step, has-none, none-within, tells-change}
use Rattle.memory_editor.proofs.telling.seen_at.Goals as goal

pub returns-in-Some : goal.returns-in-Some
returns-in-Some c =
    let s = c.args.stack.now in
    let h = history edit_change s in
    let at = c.args.at in
    let e = c.in-Some.entry.now in
    let none : DifferWithin c.nothing.result.differences (document_at h at) (document_at h at) = rw c.nothing.ensures (none-within (document_at h at)) in
    rw (behind-step edit_change s at (nesting e) c.in-Some.ensures.nests) (tells-change c.nothing.result.differences c.with_entry.result.differences
    (entry_change edit_change e) (document_at h at) (document_at h (at + 1)) c.with_entry.ensures (c.in-Some.ensures.between c.requires.held)
    (document_at h at) none)

pub returns-in-None : goal.returns-in-None
returns-in-None c =
    let s = c.args.stack.now in
    let h = history edit_change s in
    let at = c.args.at in
    let sides = behind-open edit_change s at c.requires.held c.in-None.ensures.nests c.requires.there in
    let begin = open_document h 0 0 in
    let none : DifferWithin c.nothing-in-None.result.differences begin begin = rw c.nothing-in-None.ensures (none-within begin) in
    rw (sides.0, sides.1) (c.open_seen.ensures c.requires.held (has-none (slice_get h.levels 0)) begin none)
