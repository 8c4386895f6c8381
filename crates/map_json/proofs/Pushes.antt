-- Elements of an array that grows at its end.
use Rattle.std.proofs.Common.{◌≡◌, List, [], ◌∷◌, ◌++◌, refl, ap}
use Rattle.serde_json.specs.Data.{Items, no_items, item}
use Rattle.serde_json.specs.View.{view, items_view}
use Rattle.serde_json.specs.declared.value.Value.{Value}

-- elements in front of others
abbrev pub joined : Items → Items → Items
joined no_items es = es
joined (item d ds) es = item d (joined ds es)

pub joined-none : (ds : Items) → joined ds no_items ≡ ds
joined-none no_items = refl
joined-none (item d ds) = ap (item d) (joined-none ds)

pub joined-push : (vs : List Value) (v : Value) (es : Items) → joined (items_view (vs ++ v ∷ [])) es ≡ joined (items_view vs) (item (view v) es)
joined-push [] v es = refl
joined-push (w ∷ vs) v es = ap (item (view w)) (joined-push vs v es)
