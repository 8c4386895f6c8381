-- Items that are changed where they stand.
use Rattle.std.specs.Prelude.{◌≡◌, ℕ, List, Some, slice_get, slice_set}
use Rattle.std.specs.List.{AllByRecursion, AllZip}
use Rattle.std.specs.Fn.{Once, Shared, FnOnceReturnsAtMut}
use Rattle.std.specs.Borrow.{MutBor}

-- f is called once at the item at a place of the old list, may give r, and the new list has what it left there
pub record ChangesAt {F T R : Type 0} (g : Once F (MutBor T × Unit {0}) (R × (MutBor T × Unit {0}))) (f : F) (at : ℕ) (old : List T) (r : R)
    (new : List T) : Type 0 where
  pub item : T
  pub left : T
  pub found : slice_get old at ≡ Some item
  pub call : FnOnceReturnsAtMut g f item r left
  pub is : new ≡ slice_set old at left

-- f may be called at x
abbrev pub Takes : {F T R : Type 0} → Shared F (MutBor T × Unit {0}) R → F → T → Type 0
Takes {F} {T} g f x = (p : MutBor T) → p.now ≡ x → g.pre f (p, tt)

-- f may be called at each item
abbrev pub TakesEach : {F T R : Type 0} → Shared F (MutBor T × Unit {0}) R → F → List T → Type 0
TakesEach g f xs = AllByRecursion (Takes g f) xs

-- a call of f at x may leave y there
pub record Leaves {F T : Type 0} (g : Shared F (MutBor T × Unit {0}) (Unit {0} × (MutBor T × Unit {0}))) (f : F) (x y : T) : Type 0 where
  pub shown : MutBor T
  pub shows : shown.now ≡ x
  pub left : MutBor T
  pub met : g.post f (shown, tt) (tt, (left, tt))
  pub leaves : left.now ≡ y

-- each item is changed by one call of f: in order, the new ones are what these calls may leave of the old ones
abbrev pub ChangesEach : {F T : Type 0} → Shared F (MutBor T × Unit {0}) (Unit {0} × (MutBor T × Unit {0})) → F → List T → List T → Type 0
ChangesEach g f old new = AllZip (Leaves g f) old new
