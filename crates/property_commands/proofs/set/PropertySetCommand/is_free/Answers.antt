use Rattle.std.proofs.Common.{sym, ap}
use Rattle.command_api.specs.Names.{Names, is_free}
use Rattle.property_commands.proofs.Settings.{set-names}
use Rattle.property_commands.proofs.set.PropertySetCommand.is_free.Goals as goal

pub returns : goal.returns
returns c = sym (ap (λ (n : Names). is_free n.vanishing) (set-names c.args.self.now))
