use Rattle.std.proofs.Common.{◌≡◌, map, drop}
use Rattle.serde_json.specs.View.{members_view}
use Rattle.xml_text.specs.Xml.{attribute_view}
use Rattle.tmx_tree.specs.Rows.{row_of, with_rows}
use Rattle.tmx_tree.proofs.row.put_rows.Given as goal

abbrev pub invariant-loop-row : goal.invariant-loop-row
invariant-loop-row l =
    with_rows (map row_of (drop l.row-index l.rows)) (map attribute_view l.attributes.items) (members_view l.members.entries)
    ≡ with_rows (map row_of l.rows) (map attribute_view l.attributes.items) (members_view l.initial.members.entries)
