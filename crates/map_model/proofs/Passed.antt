-- What a list of links says of a test, where each call of it answers by a function.
use Rattle.std.proofs.Common.{◌≡◌, ℕ, zero, suc, ◌+◌, Bool, true, false, ◌||◌, MatchBool, List, [], ◌∷◌, take, Option, Some, None, option_map}
use Rattle.std.proofs.Common.{slice_get, refl, sym, ap, ◌∙◌, arith, inl, inr}
use Rattle.std.specs.List.{list_any, position, position_from}
use Rattle.std.specs.Option.{MatchOption}
use Rattle.std.specs.Borrow.{Bor}
use Rattle.std.specs.Fn.{Shared}
use Rattle.std.proofs.lemmas.Iterator.Adapters.{position_from-zero}
use Rattle.link_tree.specs.Passing.{Answers, SomePasses, NonePasses, IsFirst}

some_or : (b c : Bool) → c ≡ true → (b || c) ≡ true
some_or true c is = refl
some_or false c is = is

module _ {F T : Type 0} (g : Shared F (Bor T × Unit {0}) Bool) (f : F) (p : T → Bool) (is : (x : T) (b : Bool) → Answers g f b x → p x ≡ b) where
  some_is : (xs : List T) → SomePasses g f xs → list_any p xs ≡ true
  some_is [] some = absurd some
  some_is (x ∷ xs) (inl here) = rw (is x true here) refl
  some_is (x ∷ xs) (inr there) = some_or (p x) (list_any p xs) (some_is xs there)

  none_is : (xs : List T) → NonePasses g f xs → list_any p xs ≡ false
  none_is [] none = refl
  none_is (x ∷ xs) none = rw (is x false none.0, none_is xs none.1) refl

  pub any_is : (b : Bool) (xs : List T) → MatchBool b (SomePasses g f xs) (NonePasses g f xs) → b ≡ list_any p xs
  any_is true xs some = sym (some_is xs some)
  any_is false xs none = sym (none_is xs none)

  nowhere : (xs : List T) (i : ℕ) → NonePasses g f xs → position_from p i xs ≡ None
  nowhere [] i none = refl
  nowhere (x ∷ xs) i none = rw (is x false none.0) (nowhere xs (i + 1) none.1)

  first_is : (xs : List T) (i k : ℕ) (x : T) → slice_get xs k ≡ Some x → Answers g f true x → NonePasses g f (take k xs) → position_from p i xs ≡ Some (i + k)
  first_is [] i zero x found passes before = cc
  first_is [] i (suc k) x found passes before = cc
  first_is (y ∷ xs) i zero x found passes before =
      let same : y ≡ x = cc in
      let here : i + 0 ≡ i = omega arith in rw (same, is x true passes, here) refl
  first_is (y ∷ xs) i (suc k) x found passes before =
      let there : i + suc k ≡ i + 1 + k = omega arith in rw (is y false before.0, there) (first_is xs (i + 1) k x found passes before.1)

  pub find_is : (r : Option (ℕ × Bor T)) (xs : List T) → MatchOption r (NonePasses g f xs) (λ found. IsFirst g f xs found.0)
      → option_map (λ found. found.0) r ≡ position p xs
  find_is None xs none = sym (position_from-zero p xs ∙ nowhere xs 0 none)
  find_is (Some found) xs first =
      let here : 0 + found.0 ≡ found.0 = omega arith in
      sym (position_from-zero p xs ∙ first_is xs 0 found.0 first.item first.found first.passes first.before ∙ ap (λ k. Some k) here)
