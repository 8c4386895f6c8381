use Rattle.std.proofs.Common.{rules, ◌≡◌, IfErr, sym, subst}
use Rattle.session.specs.Grammar.{Gives, common_commands, rare_commands}
use Rattle.refusals.specs.declared.line_fault.LineFault.TheVariants.{UnknownCommand}
use Rattle.session.proofs.Forms.{choose-append}
use Rattle.session.proofs.Places.{fault_append}
use Rattle.session.proofs.parse.command.Goals as goal

pub returns-in_default-clause-value : goal.returns-in_default-clause-value
returns-in_default-clause-value g c =
    let later = choose-append common_commands rare_commands UnknownCommand c.args.name.now c.args.fields.now.words (search rules) in
    subst (Gives (λ x. x) c.rare_command.result) (sym later) c.rare_command.ensures.value

pub returns-in_default-clause-place : goal.returns-in_default-clause-place
returns-in_default-clause-place g c =
    let old = c.args.fields.now in
    let later = fault_append common_commands rare_commands UnknownCommand old.place c.args.name.now old.words (search rules) in
    subst (λ place. IfErr c.rare_command.result (λ _. c.rare_command.new.fields.place ≡ place)) (sym later) c.rare_command.ensures.place
