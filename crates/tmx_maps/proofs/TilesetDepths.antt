-- A tree of a tileset in XML has a text.
use Rattle.std.proofs.Common.{◌≡◌, ◌≤◌, Bool, true, false, Some, None, Ok, Err, refl}
use Rattle.std.specs.Prelude.{Option, Result, nat_le, option_and_then, codes, if◌then◌else◌}
use Rattle.std.specs.Result.{result_ok}
use Rattle.serde_json.specs.Data.{Data, depth, object, Members}
use Rattle.serde_json.specs.Read.{max_depth}
use Rattle.xml_text.specs.Xml.{Xml}
use Rattle.tmx_tree.specs.declared.fault.Refusal.{Refusal}
use Rattle.tmx_tree.specs.declared.fault.Refusal.TheVariants.{NotATileset}
use Rattle.tmx_tree.specs.Answers.{◌>>=◌}
use Rattle.tmx_tree.specs.Elements.{is_named}
use Rattle.tmx_tree.specs.Tilesets.{file_members}
use Rattle.tmx_tree.specs.Maps.{within}
use Rattle.tmx_tree.specs.TilesetFiles.{tsx_tree}
use Rattle.tmx_maps.proofs.Depths.{within-depth}

named-depth : (named : Bool) (found : Result Members Refusal) (e : Data)
    → result_ok (if named then (found >>= λ ms. within (object ms)) else Err NotATileset) ≡ Some e → depth e ≤ max_depth
named-depth true (Ok ms) e is = within-depth (nat_le (depth (object ms)) max_depth) (object ms) e refl is
named-depth true (Err r) e is = absurd (cc)
named-depth false found e is = absurd (cc)

pub tileset-depth : (x : Option Xml) (e : Data) → option_and_then tsx_tree x ≡ Some e → depth e ≤ max_depth
tileset-depth None e is = absurd (cc)
tileset-depth (Some x) e is = named-depth (is_named (codes "tileset") x) (file_members x) e is
