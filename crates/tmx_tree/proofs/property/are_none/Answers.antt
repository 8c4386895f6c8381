use Rattle.std.proofs.Common.{◌≡◌, ◌∙◌, List, [], ◌∷◌, length, nat_eq, refl, ap, arith, ne_eqb}
use Rattle.serde_json.specs.View.{members_view}
use Rattle.serde_json.proofs.Views.{Entry}
use Rattle.tmx_tree.specs.Properties.{are_none}
use Rattle.tmx_tree.proofs.property.are_none.Goals as goal

length-are_none : (es : List Entry) → nat_eq (length es) 0 ≡ are_none (members_view es)
length-are_none [] = refl
length-are_none (e ∷ es) = ne_eqb (length (e ∷ es)) 0 (λ same. omega (arith, same))

pub returns : goal.returns
returns c = ap (λ n. nat_eq n 0) c.len.ensures.len ∙ length-are_none c.args.members.now.entries
