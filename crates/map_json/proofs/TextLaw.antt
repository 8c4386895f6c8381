-- The text of a well-formed map has that map's tree.
use Rattle.map_model.specs.declared.parts.MapParts.{MapParts}
use Rattle.map_model.specs.WellFormed.{IsWellFormed}
use Rattle.map_json.specs.Maps.{IsTreeOf}
use Rattle.map_json.specs.Trees.{text_of, tree_of}
use Rattle.map_json.proofs.Plain.{tree_plain}
use Rattle.map_json.proofs.Returning.{read-compact_text}
use Rattle.map_json.proofs.Told.{told}
use Rattle.map_json.proofs.WrittenTrees.{tree_readable}

pub text-IsTreeOf : (m : MapParts) → IsWellFormed m → IsTreeOf (text_of m) (tree_of m)
text-IsTreeOf m h =
    let plain = tree_plain m h in
    let own = told (tree_of m) (tree_readable m h) plain.0 in
    (own.utf8, read-compact_text (tree_of m) own plain.1)
