-- What holds of each element of two lists, one behind the other.
use Rattle.std.proofs.Common.{List, [], ◌∷◌, ◌++◌}
use Rattle.map_model.specs.Lists.{Each}

module _ {A : Type 0} (P : A → Type 0) where
  pub Each-left : (xs ys : List A) → Each P (xs ++ ys) → Each P xs
  Each-left [] ys h = tt
  Each-left (x ∷ xs) ys h = (h.0, Each-left xs ys h.1)

  pub Each-right : (xs ys : List A) → Each P (xs ++ ys) → Each P ys
  Each-right [] ys h = h
  Each-right (x ∷ xs) ys h = Each-right xs ys h.1

  pub Each-both : (xs ys : List A) → Each P xs → Each P ys → Each P (xs ++ ys)
  Each-both [] ys h g = g
  Each-both (x ∷ xs) ys h g = (h.0, Each-both xs ys h.1 g)
