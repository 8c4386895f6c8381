use Rattle.std.proofs.Common.{◌≡◌, true, false, Bool, None, is_some, ap, sym, refl, ◌∙◌, arith}
use mathlib.Core.List.{reverse}
use Rattle.std.specs.Bool.{IsFalse, IsTrue}
use Rattle.std.specs.List.{position}
use Rattle.std.proofs.lemmas.List.{length-reverse}
use Rattle.map_model.specs.declared.limits.TheConstants.{MAX_GROUPS}
use Rattle.map_model.specs.Groups.{find_one, holds}
use Rattle.map_model.specs.Keeping.{layer_tier}
use Rattle.map_model.specs.Ways.{IsWay}
use Rattle.map_model.proofs.Walks.{position-first_some}
use Rattle.map_model.proofs.Ways.{way-arrived}
use Rattle.map_model.proofs.groups.change_found.Goals.{then-not-find_way_here, else-not-find_way_here}
use Rattle.map_model.proofs.groups.change_found.Goals as goal

pub change_along-requires-clause-way : goal.change_along-requires-clause-way
change_along-requires-clause-way g c =
    let way : IsWay c.args.id MAX_GROUPS (reverse c.if-not-find_way_here.way'.items) c.args.layers.now =
    elim c.if-not-find_way_here.branch [
      | then-not-find_way_here w ↦
          rw w.way'-is (w.find_way.ensures.way (led w.find_way.result (λ f. (w.find_way.ensures.none f).0)))
      | else-not-find_way_here w ↦
          let here = c.find_way_here.new.way.items in
          rw w.way'-is (way-arrived c.args.id (reverse here) MAX_GROUPS layer_tier c.args.layers.now
          (omega (arith, c.find_way_here.ensures.short, length-reverse here)) c.requires.distinct
          (c.find_way_here.ensures.way w.if-not-find_way_here.false))
    ] in
    rw c.as_slice.ensures.value way
  where
    -- where the layer is there, its way was found
    led : (b : Bool) → (IsFalse b → position (holds c.args.id MAX_GROUPS) c.args.layers.now ≡ None) → IsTrue b
    led true none = refl
    led false none =
        let bad : false ≡ true = ap is_some (sym (none refl)) ∙ position-first_some (find_one c.args.id MAX_GROUPS) c.args.layers.now ∙ c.requires.there in
        absurd cc
