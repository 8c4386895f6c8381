use Rattle.property_commands.proofs.Settings.{set-offered, set-shown}
use Rattle.property_commands.proofs.set.PropertySetCommand.offer.Goals as goal

pub returns-clause-answer : goal.returns-clause-answer
returns-clause-answer c =
    set-shown c.args.self.now c.as_str.result c.kind.result c.before-2.result c.value.result c.if-not-self.false c.as_str.ensures c.before-2.ensures
    c.kind.ensures c.value.ensures

pub returns-clause-law : goal.returns-clause-law
returns-clause-law c = set-offered c.args.self.now
