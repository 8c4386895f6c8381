use Rattle.std.proofs.Common.{map}
use Rattle.std.specs.Prelude.{string_bytes}
use Rattle.std.specs.Option.{option_copied}
use Rattle.undo_group.specs.Groups.{OpenDocument}
use Rattle.undo_group.specs.Stacks.{group_of}
use Rattle.editor.proofs.Listing.{IsListed}
use Rattle.editor.proofs.editor.documents.documents_text.Given as goal

abbrev pub invariant-loop-name : goal.invariant-loop-name
invariant-loop-name g l =
    IsListed (option_copied l.active) (map (λ (d : OpenDocument). d.name) (group_of g.C.Command.change l.group).documents)
    (string_bytes l.text) l.is_first l.name-iterator
