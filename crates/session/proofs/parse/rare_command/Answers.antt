use Rattle.std.proofs.Common.{rules, sym}
use Rattle.session.specs.Grammar.{rare_commands}
use Rattle.refusals.specs.declared.line_fault.LineFault.TheVariants.{UnknownCommand}
use Rattle.session.proofs.Forms.{choose_none}
use Rattle.session.proofs.Places.{fault_none}
use Rattle.session.proofs.parse.rare_command.Goals as goal

pub returns-in_default-clause-value : goal.returns-in_default-clause-value
returns-in_default-clause-value g c = choose_none rare_commands UnknownCommand c.args.name.now c.args.fields.now.words (search rules)

pub returns-in_default-clause-place : goal.returns-in_default-clause-place
returns-in_default-clause-place g c =
    sym (fault_none rare_commands UnknownCommand c.args.fields.now.place c.args.name.now c.args.fields.now.words (search rules))
