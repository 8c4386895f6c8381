use Rattle.std.proofs.Common.{◌≡◌, ℕ, zero, suc, List, [], ◌∷◌, Some, slice_get, slice_set, refl, ap}
use Rattle.map_model.specs.declared.parts.Body.{Body}
use Rattle.map_model.specs.declared.parts.Layer.{Layer}
use Rattle.map_model.proofs.+here.Goals as goal

-- layers one of which is given the body that it has
same_body : (ls : List Layer) (at : ℕ) (l : Layer) (b : Body) → slice_get ls at ≡ Some l → b ≡ l.body → slice_set ls at (record l { body = b }) ≡ ls
same_body [] zero l b found is = refl
same_body [] (suc at) l b found is = refl
same_body (k ∷ ls) zero l b found is = let same : k ≡ l = cc in rw (is, same) refl
same_body (k ∷ ls) (suc at) l b found is = ap (λ ks. k ∷ ks) (same_body ls at l b found is)

pub seek::seek_here-returns-in-Some : goal.seek::seek_here-returns-in-Some
seek::seek_here-returns-in-Some t c =
    same_body c.args.layers.now c.in-Some.at c.get_mut.result.now c.seek_object_here.new.self c.get_mut.ensures.value c.seek_object_here.ensures
