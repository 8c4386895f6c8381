use Rattle.std.proofs.Common.{◌≡◌, ◌∙◌, List, [], ◌∷◌, length, nat_eq, refl, ap, arith, ne_eqb}
use Rattle.serde_json.specs.View.{members_view}
use Rattle.serde_json.proofs.Views.{Entry}
use Rattle.tmx_tree.specs.Tilesets.{is_alone}
use Rattle.tmx_tree.proofs.tiles.is_alone.Goals as goal

length-is_alone : (es : List Entry) → nat_eq (length es) 1 ≡ is_alone (members_view es)
length-is_alone [] = refl
length-is_alone (e ∷ []) = refl
length-is_alone (e ∷ f ∷ es) = ne_eqb (length (e ∷ f ∷ es)) 1 (λ same. omega (arith, same))

pub returns : goal.returns
returns c = ap (λ n. nat_eq n 1) c.len.ensures.len ∙ length-is_alone c.args.members.now.entries
