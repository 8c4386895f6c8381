use Rattle.std.proofs.Common.{◌≡◌, ◌∙◌, List, [], ◌∷◌, map, length, nat_eq, refl, arith, ne_eqb}
use Rattle.serde_json.specs.View.{view}
use Rattle.serde_json.specs.declared.value.Value.{Value}
use Rattle.tmx_tree.specs.Properties.{has_none}
use Rattle.tmx_tree.proofs.properties.has_none.Goals as goal

length-has_none : (vs : List Value) → nat_eq (length vs) 0 ≡ has_none (map view vs)
length-has_none [] = refl
length-has_none (v ∷ vs) = ne_eqb (length (v ∷ vs)) 0 (λ same. omega (arith, same))

pub returns : goal.returns
returns c = c.is_empty.ensures ∙ length-has_none c.args.found.now
