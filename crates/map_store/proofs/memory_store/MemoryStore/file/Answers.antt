use Rattle.std.proofs.Common.{Some, sym, ap, ◌∙◌, Vec, ℕ}
use Rattle.std.specs.Global.{Global}
use Rattle.std.specs.Option.{option_map}
use Rattle.map_store.proofs.Keeping.{get_stored}
use Rattle.map_store.proofs.memory_store.MemoryStore.file.Goals as goal

pub returns-in-Some : goal.returns-in-Some
returns-in-Some c = ap Some c.as_slice.ensures.value ∙ sym (get_stored c.args.self.now.files c.args.name.now ∙ ap (option_map (λ (v : Vec ℕ Global). v.items))
    (sym c.in-Some.ensures.value))

pub returns-in-None : goal.returns-in-None
returns-in-None c = sym (get_stored c.args.self.now.files c.args.name.now ∙ ap (option_map (λ (v : Vec ℕ Global). v.items)) (sym c.in-None.ensures.value))
