use Rattle.std.proofs.Common.{◌≡◌, false, true, is_some, sym, ◌∙◌, ap, arith}
use Rattle.std.specs.Map.{lookup}
use Rattle.undo_stack.specs.Stacks.{history}
use Rattle.undo_group.proofs.Entries.{history_named-entries, name_at-found}
use Rattle.undo_group.proofs.Lookups.{mapped_none, mapped_some}
use Rattle.undo_group.proofs.NamedStacks.{is_name}
use Rattle.undo_group.proofs.group.Group.set_active.Goals as goal

pub returns-in_default-get_index_of-clause-none : goal.returns-in_default-get_index_of-clause-none
returns-in_default-get_index_of-clause-none g c =
    let f = g.C.Command.change in
    let self = c.args.self.now in
    let name = c.in-Some.name.now in
    let absent : is_some (lookup (is_name name) self.stacks.entries) ≡ false =
    sym c.get_index_of.ensures.found ∙ ap is_some c.in_default-get_index_of.is in
    rw c.in-Some.is (history_named-entries f self c.requires name ∙ mapped_none (history f) _ absent)

pub returns-clause-open : goal.returns-clause-open
returns-clause-open g c =
    let f = g.C.Command.change in
    let self = c.args.self.now in
    let name = c.in-Some.name.now in
    let there : is_some (lookup (is_name name) self.stacks.entries) ≡ true =
    sym c.get_index_of.ensures.found ∙ ap is_some c.in-Some-get_index_of.is in
    rw (c.in-Some.is, history_named-entries f self c.requires name) (mapped_some (history f) _ there)

pub returns-clause-chosen : goal.returns-clause-chosen
returns-clause-chosen g c =
    grind (arith, name_at-found g.C.Command.change c.args.self.now c.requires c.in-Some.name.now c.in-Some-get_index_of.at)
