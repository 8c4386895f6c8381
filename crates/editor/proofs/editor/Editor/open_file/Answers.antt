use Rattle.std.proofs.Common.{sym, ◌∙◌, subst, ℕ, List, Ok, Err}
use Rattle.map_json.specs.Maps.{Says}
use Rattle.undo_group.proofs.Lookups.{none_from_is_some}
use Rattle.editor.specs.Editors.{machine_of}
use Rattle.editor.proofs.Opening.{opened-NewName, refused-NewName}
use Rattle.editor.proofs.editor.Editor.open_file.Goals as goal

pub returns-in-Ok-read_map-clause-step : goal.returns-in-Ok-read_map-clause-step
returns-in-Ok-read_map-clause-step g c =
    let named = rw (none_from_is_some c.get.result (sym c.is_some.ensures ∙ c.if-is_some.false), c.as_str.ensures) at c.get.ensures.named in
    let P : List ℕ → Type 0 = λ bytes. Says bytes (Ok c.in-Ok-read_map.map) in
    opened-NewName c.args.name.now c.args.file.now c.in-Ok.bytes.items c.in-Ok-read_map.map (machine_of g.C.Command.change c.args.self.now) _
    (g.S.MapStore.stored c.args.store.now) (g.S.MapStore.stored c.load.new.self)
    c.add_document.result (sym named) (λ honest. let loads = rw c.as_str-2.ensures at c.in-Ok.ensures.loads honest in sym loads.0)
    (subst P c.as_slice.ensures.value (rw c.in-Ok-read_map.is at c.read_map.ensures))
    (record { count = c.in-Ok.ensures.count; honest = c.in-Ok.ensures.honest; files = λ honest. (c.in-Ok.ensures.loads honest).1 })
    (rw c.new.ensures at c.add_document.ensures.step)

pub returns-clause-step : goal.returns-clause-step
returns-clause-step g c =
    let named = rw (none_from_is_some c.get.result (sym c.is_some.ensures ∙ c.if-is_some.false), c.as_str.ensures) at c.get.ensures.named in
    let P : List ℕ → Type 0 = λ bytes. Says bytes (Err c.in-Err-read_map.fault) in
    rw c.from-in-Err-read_map.ensures
    (refused-NewName c.args.name.now c.args.file.now c.in-Ok.bytes.items (machine_of g.C.Command.change c.args.self.now) (g.S.MapStore.stored c.args.store.now)
    (g.S.MapStore.stored c.load.new.self)
    c.in-Err-read_map.fault (sym named) (λ honest. let loads = rw c.as_str-2.ensures at c.in-Ok.ensures.loads honest in sym loads.0)
    (subst P c.as_slice.ensures.value (rw c.in-Err-read_map.is at c.read_map.ensures))
    (record { count = c.in-Ok.ensures.count; honest = c.in-Ok.ensures.honest; files = λ honest. (c.in-Ok.ensures.loads honest).1 }))
