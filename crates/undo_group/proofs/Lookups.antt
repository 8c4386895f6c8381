-- What a number among named things, or a look-up, has.
use Rattle.std.proofs.Common.{◌≡◌, ℕ, List, slice_get, true, false, Option, Some, None, IfSome, IsSome, is_some, All, refl, subst, arith}
use Rattle.std.specs.Option.{option_map}
use Rattle.std.proofs.lemmas.Option.{slice_get_within, get_or_from_slice_get}

pub All-at : {X : Type 0} (P : X → Type 0) (xs : List X) (i : ℕ) (x : X) → slice_get xs i ≡ Some x → All P xs → P x
All-at P xs i x at all = subst P (get_or_from_slice_get xs i x x at) (all i x (slice_get_within xs i x at))

pub none_from_is_some : {X : Type 0} (o : Option X) → is_some o ≡ false → o ≡ None
none_from_is_some o e = grind arith

pub mapped_none : {X Y : Type 0} (f : X → Y) (o : Option X) → is_some o ≡ false → option_map f o ≡ None
mapped_none f None e = refl
mapped_none f (Some x) e = absurd cc

pub mapped_some : {X Y : Type 0} (f : X → Y) (o : Option X) → is_some o ≡ true → IsSome (option_map f o)
mapped_some f None e = absurd cc
mapped_some f (Some x) e = grind arith

pub option_map-map : {X Y Z : Type 0} (f : X → Y) (h : Y → Z) (o : Option X) → option_map h (option_map f o) ≡ option_map (λ x. h (f x)) o
option_map-map f h None = refl
option_map-map f h (Some x) = refl

pub IfSome-mapped : {X Y : Type 0} (f : X → Y) (P : Y → Type 0) (o : Option X) → IfSome (option_map f o) P → IfSome o (λ x. P (f x))
IfSome-mapped f P None h = tt
IfSome-mapped f P (Some x) h = h

pub IfSome-at : {X Y : Type 0} (f : X → Y) (P : Y → Type 0) (xs : List X) (i : ℕ) → All (λ x. P (f x)) xs → IfSome (option_map f (slice_get xs i)) P
IfSome-at {X = X} f P xs i all = by_item (slice_get xs i) refl
  where
    by_item : (o : Option X) → slice_get xs i ≡ o → IfSome (option_map f o) P
    by_item None none = tt
    by_item (Some x) at = All-at (λ x. P (f x)) xs i x at all
