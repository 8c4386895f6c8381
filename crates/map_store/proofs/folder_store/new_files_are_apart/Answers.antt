use Rattle.map_store.proofs.Names.{beside_apart, beside_told, others_told}
use Rattle.map_store.proofs.folder_store.new_files_are_apart.Goals as goal

pub returns-clause-apart : goal.returns-clause-apart
returns-clause-apart c = beside_apart

pub returns-clause-told : goal.returns-clause-told
returns-clause-told c = beside_told

pub returns-clause-others : goal.returns-clause-others
returns-clause-others c = others_told
