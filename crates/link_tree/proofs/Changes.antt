-- Changes of items before an item, at it and behind it.
use Rattle.std.proofs.Common.{◌≡◌, ℕ, ◌-◌, ◌<◌, List, [], ◌∷◌, ◌++◌, length, Option, Some, None, IsSomeAnd, sym, refl}
use Rattle.std.specs.Borrow.{MutBor}
use Rattle.std.specs.Fn.{Once, FnOnceReturnsAtMut}
use Rattle.std.specs.List.{AllByRecursion, AllZip}
use Rattle.link_tree.specs.Changing.{ChangesAt}
use Rattle.link_tree.proofs.Edits.{get-before, get-at, get-behind, set-before, set-at, set-behind}

-- what one change has given, where the closure and that stood in places of their own
module _ {F T R : Type 0} (g : Once F (MutBor T × Unit {0}) (R × (MutBor T × Unit {0}))) (xs ys : List T) (x : T) (at : ℕ) where
  pub given-before : (f : Option F) (r : Option R) (old new zs : List T) → old ≡ xs ++ x ∷ ys → new ≡ zs ++ x ∷ ys → at < length xs
      → IsSomeAnd f (λ a. IsSomeAnd r (λ b. ChangesAt g a at xs b zs)) → IsSomeAnd f (λ a. IsSomeAnd r (λ b. ChangesAt g a at old b new))
  given-before None r old new zs was is h given = given
  given-before (Some a) None old new zs was is h given = given
  given-before (Some a) (Some b) old new zs was is h given =
      record {
        item = given.item;
        left = given.left;
        found = rw (was, get-before xs (x ∷ ys) at h) given.found;
        call = given.call;
        is = rw (was, is, set-before xs (x ∷ ys) at given.left h, sym given.is) refl;
      }

  pub given-at : (f : Option F) (r : Option R) (old new : List T) (z : T) → old ≡ xs ++ x ∷ ys → new ≡ xs ++ z ∷ ys → at ≡ length xs
      → IsSomeAnd f (λ a. IsSomeAnd r (λ b. FnOnceReturnsAtMut g a x b z)) → IsSomeAnd f (λ a. IsSomeAnd r (λ b. ChangesAt g a at old b new))
  given-at None r old new z was is h given = given
  given-at (Some a) None old new z was is h given = given
  given-at (Some a) (Some b) old new z was is h given =
      record {
        item = x;
        left = z;
        found = rw (was, get-at xs ys x at (sym h)) refl;
        call = given;
        is = rw (was, is, set-at xs ys x at z (sym h)) refl;
      }

  pub given-behind : (f : Option F) (r : Option R) (old new zs : List T) → old ≡ xs ++ x ∷ ys → new ≡ xs ++ x ∷ zs → length xs < at
      → IsSomeAnd f (λ a. IsSomeAnd r (λ b. ChangesAt g a (at - length xs - 1) ys b zs)) → IsSomeAnd f (λ a. IsSomeAnd r (λ b. ChangesAt g a at old b new))
  given-behind None r old new zs was is h given = given
  given-behind (Some a) None old new zs was is h given = given
  given-behind (Some a) (Some b) old new zs was is h given =
      record {
        item = given.item;
        left = given.left;
        found = rw (was, get-behind xs ys x at h) given.found;
        call = given.call;
        is = rw (was, is, set-behind xs ys x at given.left h, sym given.is) refl;
      }

module _ {X : Type 0} (P : X → Type 0) where
  pub all-before : (all xs ys : List X) (x : X) → all ≡ xs ++ x ∷ ys → AllByRecursion P all → AllByRecursion P xs
  all-before all [] ys x is each = tt
  all-before [] (z ∷ xs) ys x is each = cc
  all-before (w ∷ all) (z ∷ xs) ys x is each = let same : w ≡ z = cc in
      let rest : all ≡ xs ++ x ∷ ys = cc in (rw same at each.0, all-before all xs ys x rest each.1)

  pub all-at : (all xs ys : List X) (x : X) → all ≡ xs ++ x ∷ ys → AllByRecursion P all → P x
  all-at [] [] ys x is each = cc
  all-at (w ∷ all) [] ys x is each = let same : w ≡ x = cc in rw same at each.0
  all-at [] (z ∷ xs) ys x is each = cc
  all-at (w ∷ all) (z ∷ xs) ys x is each = let rest : all ≡ xs ++ x ∷ ys = cc in all-at all xs ys x rest each.1

  pub all-behind : (all xs ys : List X) (x : X) → all ≡ xs ++ x ∷ ys → AllByRecursion P all → AllByRecursion P ys
  all-behind [] [] ys x is each = cc
  all-behind (w ∷ all) [] ys x is each = let rest : all ≡ ys = cc in rw rest at each.1
  all-behind [] (z ∷ xs) ys x is each = cc
  all-behind (w ∷ all) (z ∷ xs) ys x is each = let rest : all ≡ xs ++ x ∷ ys = cc in all-behind all xs ys x rest each.1

module _ {X : Type 0} (R : X → X → Type 0) where
  around : (xs zs ys ws : List X) (x z : X) → AllZip R xs zs → R x z → AllZip R ys ws → AllZip R (xs ++ x ∷ ys) (zs ++ z ∷ ws)
  around [] [] ys ws x z before at behind = (at, behind)
  around [] (c ∷ zs) ys ws x z before at behind = absurd before
  around (a ∷ xs) [] ys ws x z before at behind = absurd before
  around (a ∷ xs) (c ∷ zs) ys ws x z before at behind = (before.0, around xs zs ys ws x z before.1 at behind)

  pub zip-around : (old new xs zs ys ws : List X) (x z : X) → old ≡ xs ++ x ∷ ys → new ≡ zs ++ z ∷ ws
      → AllZip R xs zs → R x z → AllZip R ys ws → AllZip R old new
  zip-around old new xs zs ys ws x z was is before at behind = rw (was, is) (around xs zs ys ws x z before at behind)
