use Rattle.std.proofs.Common.{Some, refl, sym, ap, ◌∙◌, Vec, ℕ}
use Rattle.std.specs.Global.{Global}
use Rattle.std.specs.Option.{option_map}
use Rattle.map_store.proofs.Keeping.{get_stored}
use Rattle.map_store.proofs.memory_store.MemoryStoreMapStore.load.Goals as goal

pub returns-in-None-clause-loads : goal.returns-in-None-clause-loads
returns-in-None-clause-loads c = λ u. (
  get_stored c.args.self.now.files c.args.name.now ∙ ap (option_map (λ (v : Vec ℕ Global). v.items)) (sym c.in-None.ensures.value),
  refl,
)

pub returns-in-Ok-clause-loads : goal.returns-in-Ok-clause-loads
returns-in-Ok-clause-loads c = λ u. (
  get_stored c.args.self.now.files c.args.name.now ∙ ap (option_map (λ (v : Vec ℕ Global). v.items)) (sym c.in-Some.ensures.value)
      ∙ ap Some (sym (c.in-Ok.ensures.items ∙ c.as_slice.ensures.value)),
  refl,
)
