-- A fault that is counted leaves the folder and its saves.
use Rattle.std.proofs.Common.{List, ℕ}
use Rattle.atomic_save.specs.Saving.{IsKept}
use Rattle.atomic_save.specs.TwoRuns.{IsPut}
use Rattle.map_store.specs.Paths.{path_to}
use Rattle.map_store.proofs.folder_store.FolderStoreMapStore.load.Goals as goal

pub returns-clause-kept : goal.returns-clause-kept
returns-clause-kept g c = λ other bytes kept. rw (c.counted.ensures.folder, c.counted.ensures.saves) kept
