use Rattle.session.specs.declared.line.Line.TheVariants.{SetProperty}
use Rattle.session.proofs.property_lines.set_typed.Goals as goal

pub returns-in-Ok-clause-value : goal.returns-in-Ok-clause-value
returns-in-Ok-clause-value g c = c.in-Ok.ensures.value (λ value. SetProperty c.args.owner c.args.name value c.args.follows)

pub returns-in-Err-clause-value : goal.returns-in-Err-clause-value
returns-in-Err-clause-value g c = c.in-Err.ensures.value (λ value. SetProperty c.args.owner c.args.name value c.args.follows)
