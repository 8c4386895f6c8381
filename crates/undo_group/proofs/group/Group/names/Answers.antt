use Rattle.std.proofs.Common.{length, sym, ◌∙◌, ap, map, arith}
use Rattle.std.proofs.lemmas.List.{length-map}
use Rattle.std.specs.String.{string_bytes}
use Rattle.undo_group.specs.Order.{order_of, place_in}
use Rattle.undo_group.specs.Stacks.{documents_of, entries_of}
use Rattle.undo_group.proofs.Documents.{IsGroup-at}
use Rattle.undo_group.proofs.Entries.{distinct_documents}
use Rattle.undo_group.proofs.NamedStacks.{names-documents_of}
use Rattle.undo_group.proofs.Ordered.{map-in_order}
use Rattle.undo_group.proofs.Shifting.{placed_of}
use Rattle.undo_group.proofs.group.Group.names.Goals as goal

pub over-requires : goal.over-requires
over-requires g c =
    let self = c.args.self.now in
    let placed = placed_of self.order (length self.stacks.entries) c.requires.order in
    rw (c.entries.ensures, c.as_slice.ensures, c.keys.ensures.rest, length-map self.stacks.entries (λ e. e.0))
    (λ at lt. placed.placed.within at (omega (arith, placed.entries)))

pub returns-clause-names : goal.returns-clause-names
returns-clause-names g c =
    let self = c.args.self.now in
    c.over.ensures
    ∙ rw (c.entries.ensures, c.as_slice.ensures, c.keys.ensures.rest) (
    ap (map string_bytes) (sym (map-in_order (λ e. e.0) self.stacks.entries (order_of self.order)))
    ∙ sym (names-documents_of g.C.Command.change (entries_of self))
    )

pub returns-clause-whole : goal.returns-clause-whole
returns-clause-whole g c =
    let self = c.args.self.now in
    IsGroup-at (documents_of g.C.Command.change (entries_of self)) (place_in self.order self.active) (distinct_documents g.C.Command.change self c.requires)
