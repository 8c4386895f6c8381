-- `search` finds this in half a minute.
use Rattle.std.proofs.Common.{refl}
use Rattle.map_report.proofs.options.list_arg.Goals as goal

pub value_parser-requires : goal.value_parser-requires
value_parser-requires c κs = (refl, tt)
