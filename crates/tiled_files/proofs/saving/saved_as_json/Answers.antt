use Rattle.std.proofs.Common.{rules, true, Ok, inl, inr, refl, subst}
use Rattle.map_layout.specs.Laid.{LaysOut}
use Rattle.tiled_files.specs.Saving.{PutsBy}
use Rattle.tiled_files.proofs.saving.saved_as_json.Goals as goal

pub returns-in-Ok : goal.returns-in-Ok
returns-in-Ok c =
    let bytes = c.args.bytes.now in
    let source = c.args.source.now in
    let laid = c.in_ok-laid.laid in
    let puts : PutsBy true bytes source (Ok laid) = subst (λ xml. PutsBy xml bytes source (Ok laid)) c.requires c.in_ok-laid.ensures in
    let lays : LaysOut laid.text.items (Ok c.in-Ok.text) = search rules in
    (laid, puts, inr lays)

pub returns-in-Err : goal.returns-in-Err
returns-in-Err c =
    let bytes = c.args.bytes.now in
    let source = c.args.source.now in
    let laid = c.in_ok-laid.laid in
    let puts : PutsBy true bytes source (Ok laid) = subst (λ xml. PutsBy xml bytes source (Ok laid)) c.requires c.in_ok-laid.ensures in
    (laid, puts, inl refl)
