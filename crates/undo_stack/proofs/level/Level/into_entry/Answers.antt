use Rattle.std.proofs.Common.{◌+◌, ◌∙◌, List, ap, map, subst, sym}
use Rattle.std.specs.Box.{with_value}
use Rattle.command_api.specs.Law.{Change}
use Rattle.command_api.specs.Names.{untagged, Never}
use Rattle.undo_stack.specs.Entries.{entry_change, greatest, depth}
use Rattle.undo_stack.specs.Nestings.{nested, nesting}
use Rattle.undo_stack.specs.Sequence.{before}
use Rattle.undo_stack.specs.declared.entry.Entry.{Entry}
use Rattle.undo_stack.specs.declared.entry.MacroContents.{MacroContents}
use Rattle.undo_stack.proofs.EntryChanges.{Contents, entry_change-Macro, depth-Macro, nesting-Macro}
use Rattle.undo_stack.proofs.level.Level.into_entry.Goals as goal

pub returns : goal.returns
returns g c =
    let f = g.C.Command.change in
    let now = c.deref_mut.result.now in
    let m : Contents g.row.C.Denot =
    with_value c.args.self.contents (record { text = now.text; action = now.action; children = c.from.result }) in
    let items = c.from.ensures.0 in
    let change = entry_change-Macro f m in
    record {
      names = ap (λ (k : Change). k.names) change ∙ ap (λ (k : MacroContents (Entry g.row.C.Denot)). untagged k.text k.action Never) c.deref_mut.ensures.value;
      undone = λ d. ap (λ (k : Change). k.undone d) change ∙ ap (λ (es : List (Entry g.row.C.Denot)). before (entry_change f) es d) items;
      fits = λ d h. subst (λ (k : Change). k.fits_undo d) (sym change) (rw items h);
      live = ap (λ (k : Change). k.obsolete) change;
      nests = nesting-Macro m ∙ ap (λ (es : List (Entry g.row.C.Denot)). nested (map nesting es)) items;
      deep = depth-Macro m ∙ ap (λ (es : List (Entry g.row.C.Denot)). greatest (map depth es) + 1) items;
    }
