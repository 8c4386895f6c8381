-- The paths that were made are those of the name.
use Rattle.std.proofs.Common.{◌≡◌, List, ℕ, sym, ap, subst, ◌∙◌}
use Rattle.atomic_save.specs.Crash.{Call}
use Rattle.atomic_save.specs.Saving.{IsBeside, IsKept, LosesNothing}
use Rattle.atomic_save.specs.TwoRuns.{IsPut, StaysCareful}
use Rattle.map_store.specs.Paths.{front_of, path_to}
use Rattle.map_store.proofs.folder_store.FolderStoreMapStore.store.Goals as goal

pub returns-in-Ok-clause-kept : goal.returns-in-Ok-clause-kept
returns-in-Ok-clause-kept g c =
    let calls = c.save.new.folder.asked.log.calls in
    subst (λ (path : List ℕ). IsKept path c.args.bytes.now calls × IsPut path c.args.bytes.now calls)
    (c.as_str.ensures.value ∙ c.in-Ok-Ok.ensures) (c.in-Ok.ensures.kept, c.in-Ok.ensures.put)

-- what a save promises, whatever its answer is
abbrev IsSafe : List ℕ → List ℕ → List ℕ → List Call → List Call → Type 0
IsSafe front path bytes old new = LosesNothing (IsBeside front) path bytes old new × StaysCareful (IsBeside front) path old new

at_paths : (made_front front made_path path bytes : List ℕ) (old new : List Call) → made_front ≡ front → made_path ≡ path
    → IsSafe made_front made_path bytes old new → IsSafe front path bytes old new
at_paths made_front front made_path path bytes old new e f safe =
    subst (λ (p : List ℕ). IsSafe front p bytes old new) f (subst (λ (q : List ℕ). IsSafe q made_path bytes old new) e safe)

pub returns-in-Ok-clause-safe : goal.returns-in-Ok-clause-safe
returns-in-Ok-clause-safe g c =
    at_paths _ _ _ _ c.args.bytes.now c.args.self.now.saves.asked.log.calls c.save.new.folder.asked.log.calls
    (c.as_str-2.ensures.value ∙ c.in-Ok-Ok.ensures') (c.as_str.ensures.value ∙ c.in-Ok-Ok.ensures) (c.save.ensures.safe, c.save.ensures.careful)

pub returns-in-Err-Memory-clause-safe : goal.returns-in-Err-Memory-clause-safe
returns-in-Err-Memory-clause-safe g c =
    at_paths _ _ _ _ c.args.bytes.now c.args.self.now.saves.asked.log.calls c.save.new.folder.asked.log.calls
    (c.as_str-2.ensures.value ∙ c.in-Ok-Ok.ensures') (c.as_str.ensures.value ∙ c.in-Ok-Ok.ensures) (c.save.ensures.safe, c.save.ensures.careful)

pub returns-clause-safe : goal.returns-clause-safe
returns-clause-safe g c =
    let safe = at_paths _ _ _ _ c.args.bytes.now c.args.self.now.saves.asked.log.calls c.save.new.folder.asked.log.calls
    (c.as_str-2.ensures.value ∙ c.in-Ok-Ok.ensures') (c.as_str.ensures.value ∙ c.in-Ok-Ok.ensures) (c.save.ensures.safe, c.save.ensures.careful) in
    let front = front_of c.args.self.now.folder.now c.args.name.now in let path = path_to c.args.self.now.folder.now c.args.name.now in
    subst (λ (l : List Call). IsSafe front path c.args.bytes.now c.args.self.now.saves.asked.log.calls l)
    (sym (ap (λ s. s.asked.log.calls) c.counted.ensures.saves)) safe
