use Rattle.std.proofs.Common.{rules}
use Rattle.map_json.proofs.layer.map_layers.Goals as goal

pub returns-in_err-value-clause-value : goal.returns-in_err-value-clause-value
returns-in_err-value-clause-value g c = search rules

pub returns-in_err-value-clause-left : goal.returns-in_err-value-clause-left
returns-in_err-value-clause-left g c = search rules

pub returns-in_err-layers-clause-value : goal.returns-in_err-layers-clause-value
returns-in_err-layers-clause-value g c = search rules

pub returns-in_err-layers-clause-left : goal.returns-in_err-layers-clause-left
returns-in_err-layers-clause-left g c = search rules

pub returns-clause-value : goal.returns-clause-value
returns-clause-value g c = search rules

pub returns-clause-left : goal.returns-clause-left
returns-clause-left g c = search rules
