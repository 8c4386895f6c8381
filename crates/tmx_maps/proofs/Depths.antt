-- A tree of a map in XML has a text.
use Rattle.std.proofs.Common.{◌≡◌, ◌≤◌, ℕ, List, Bool, true, false, Some, None, Ok, Err, refl, sym, subst}
use Rattle.std.specs.Prelude.{Option, Result, nat_le, option_and_then, codes, if◌then◌else◌}
use Rattle.std.specs.Result.{result_ok}
use Rattle.std.proofs.lemmas.Bool.{leb-true}
use Rattle.serde_json.specs.Data.{Data, depth, object, Members}
use Rattle.serde_json.specs.Read.{max_depth}
use Rattle.xml_text.specs.Xml.{Xml}
use Rattle.tmx_tree.specs.declared.fault.Refusal.{Refusal}
use Rattle.tmx_tree.specs.declared.fault.Refusal.TheVariants.{TooDeep, NotAMap}
use Rattle.tmx_tree.specs.Answers.{◌>>=◌}
use Rattle.tmx_tree.specs.Elements.{is_named, attributes_of, kids_of}
use Rattle.tmx_tree.specs.Maps.{map_members, within, tmx_tree}

pub within-depth : (fits : Bool) (d e : Data) → fits ≡ nat_le (depth d) max_depth → result_ok (if fits then Ok d else Err TooDeep) ≡ Some e → depth e ≤ max_depth
within-depth true d e fits is =
    let same : d ≡ e = cc in
    subst (λ x. depth x ≤ max_depth) same (leb-true (depth d) max_depth (sym fits))
within-depth false d e fits is = absurd (cc)

named-depth : (named : Bool) (found : Result Members Refusal) (e : Data)
    → result_ok (if named then (found >>= λ ms. within (object ms)) else Err NotAMap) ≡ Some e → depth e ≤ max_depth
named-depth true (Ok ms) e is = within-depth (nat_le (depth (object ms)) max_depth) (object ms) e refl is
named-depth true (Err r) e is = absurd (cc)
named-depth false found e is = absurd (cc)

pub tree-depth : (x : Option Xml) (e : Data) → option_and_then tmx_tree x ≡ Some e → depth e ≤ max_depth
tree-depth None e is = absurd (cc)
tree-depth (Some x) e is = named-depth (is_named (codes "map") x) (map_members (attributes_of x) (kids_of x)) e is
