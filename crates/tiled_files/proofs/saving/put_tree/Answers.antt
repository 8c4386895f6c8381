use Rattle.std.proofs.Common.{◌≡◌, true, false, Some, option_map, sym, ap, ◌∙◌, subst}
use Rattle.serde_json.specs.View.{view}
use Rattle.tiled_files.specs.Kinds.{is_xml}
use Rattle.tiled_files.specs.Saving.{xml_in, IsTreeIn, PutsTree, PutsTreeBy}
use Rattle.tiled_maps.proofs.PackedLaws.{seen_by}
use Rattle.tmx_maps.specs.Maps.{tmx_data}
use Rattle.tiled_files.proofs.Puts.{puts_tree, reads_in}
use Rattle.tiled_files.proofs.saving.put_tree.Goals as goal

pub returns-in-Some : goal.returns-in-Some
returns-in-Some c =
    let bytes = c.args.bytes.now in
    let source = c.args.source.now in
    let xml : is_xml source ≡ true = sym c.is_xml.ensures ∙ c.if-is_xml.true in
    let trees = option_map (λ r. view r.now.tree) in
    let s = Some (view c.in-Some.read.now.tree) in
    let read = subst (λ x. tmx_data (xml_in x source) ≡ trees c.args.read) xml c.requires in
    let is : IsTreeIn true source s = read ∙ ap trees c.in-Some.is in
    let r = c.put_by_tree.result in
    subst (λ x. PutsTree x bytes source r) (sym xml) (puts_tree true bytes source s r is c.put_by_tree.ensures)

pub returns-in-Ok : goal.returns-in-Ok
returns-in-Ok c =
    let bytes = c.args.bytes.now in
    let source = c.args.source.now in
    let json : is_xml source ≡ false = sym c.is_xml.ensures ∙ c.if-is_xml.false in
    let s = option_map view c.in-Ok.tree in
    let is : IsTreeIn false source s = reads_in source c.in-Ok.tree c.in-Ok.ensures in
    let r = c.put_by_tree-in-Ok.result in
    let puts = subst (λ s. PutsTreeBy bytes s r) (seen_by c.as_ref.result c.in-Ok.tree c.as_ref.ensures.value) c.put_by_tree-in-Ok.ensures in
    subst (λ x. PutsTree x bytes source r) (sym json) (puts_tree false bytes source s r is puts)
