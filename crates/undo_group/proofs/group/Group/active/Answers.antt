use Rattle.std.proofs.Common.{◌≡◌, Some, sym, ◌∙◌, ap, arith}
use Rattle.std.specs.Option.{option_map}
use Rattle.undo_stack.specs.Stacks.{Holds, history}
use Rattle.undo_group.proofs.Entries.{active_history-number, stack_at-active}
use Rattle.undo_group.proofs.Lookups.{All-at}
use Rattle.undo_group.proofs.group.Group.active.Goals as goal

pub returns-clause-active : goal.returns-clause-active
returns-clause-active g c =
    let f = g.C.Command.change in
    let number : c.args.self.now.active ≡ Some c.in_ok-self.field-0 = grind arith in
    sym (active_history-number f c.args.self.now c.requires c.in_ok-self.field-0 number ∙ ap (option_map (λ e. history f e.1)) (sym c.in_ok-stack.ensures.entry))

pub returns-clause-held : goal.returns-clause-held
returns-clause-held g c = All-at (λ e. Holds g.C.Command.change e.1) c.args.self.now.stacks.entries _ _ (sym c.in_ok-stack.ensures.entry) c.requires.stacks

pub returns-clause-stack : goal.returns-clause-stack
returns-clause-stack g c =
    let number : c.args.self.now.active ≡ Some c.in_ok-self.field-0 = grind arith in
    sym (stack_at-active g.C.Command.change c.args.self.now c.requires c.in_ok-self.field-0 number ∙ ap (option_map (λ e. e.1)) (sym c.in_ok-stack.ensures.entry))
