use Rattle.std.proofs.Common.{Some, None, slice_get, sym, ap, ◌∙◌}
use Rattle.std.specs.Option.{option_map}
use Rattle.std.specs.String.{string_bytes}
use Rattle.std.specs.BTreeMap as tree
use Rattle.std.proofs.lemmas.Iterator.Consumers.{nth_from_yields_List}
use Rattle.std.proofs.lemmas.Option.{slice_get-map}
use Rattle.map_store.proofs.Keeping.{stored_names, keys_shown}
use Rattle.map_store.proofs.memory_store.MemoryStore.name.Goals as goal

pub returns-in-Some : goal.returns-in-Some
returns-in-Some c =
    let files = c.args.self.now.files in
    let item = nth_from_yields_List (Some c.in-Some.name) c.nth.new.self c.args.at c.in-Some.ensures.ran (keys_shown c.keys.result) in
    ap Some c.as_str.ensures.value ∙ ap (option_map string_bytes) (item ∙ ap (λ ks. slice_get ks c.args.at) c.keys.ensures.rest)
    ∙ sym (slice_get-map string_bytes (tree.keys files) c.args.at) ∙ ap (λ ns. slice_get ns c.args.at) (sym (stored_names files c.keys.ensures.ordered))

pub returns-in-None : goal.returns-in-None
returns-in-None c =
    let files = c.args.self.now.files in
    let item = nth_from_yields_List None c.nth.new.self c.args.at c.in-None.ensures.ran (keys_shown c.keys.result) in
    ap (option_map string_bytes) (item ∙ ap (λ ks. slice_get ks c.args.at) c.keys.ensures.rest)
    ∙ sym (slice_get-map string_bytes (tree.keys files) c.args.at) ∙ ap (λ ns. slice_get ns c.args.at) (sym (stored_names files c.keys.ensures.ordered))
