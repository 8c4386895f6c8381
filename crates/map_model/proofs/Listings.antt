-- The lists that are read off a list of layers, as a piece of that list is replaced.
use Rattle.std.proofs.Common.{◌≡◌, ◌≢◌, ℕ, zero, suc, List, [], ◌∷◌, ◌++◌, take, drop, Bool, true, false, cond, Some, append-nil, refl, sym, ap, ◌∙◌}
use Rattle.std.specs.List.{flat_map, slice_get, insert, remove}
use Rattle.std.proofs.lemmas.List.{take-append-drop}
use Rattle.std.proofs.lemmas.Grind.{flat_map-append}
use Rattle.map_model.specs.Lists.{Each, Distinct, change_first}
use Rattle.map_model.specs.WellFormed.{IsId, AreIds}

-- ---- two lists behind one another
pub Each-append : {X : Type 0} (P : X → Type 0) (xs ys : List X) → Each P xs → Each P ys → Each P (xs ++ ys)
Each-append P [] ys h k = k
Each-append P (x ∷ xs) ys h k = (h.0, Each-append P xs ys h.1 k)

pub Each-prefix : {X : Type 0} (P : X → Type 0) (xs ys : List X) → Each P (xs ++ ys) → Each P xs
Each-prefix P [] ys h = tt
Each-prefix P (x ∷ xs) ys h = (h.0, Each-prefix P xs ys h.1)

pub Each-rest : {X : Type 0} (P : X → Type 0) (xs ys : List X) → Each P (xs ++ ys) → Each P ys
Each-rest P [] ys h = h
Each-rest P (x ∷ xs) ys h = Each-rest P xs ys h.1

-- no element of one list stands in the other
abbrev Apart : {X : Type 0} → List X → List X → Type 0
Apart xs ys = Each (λ x. Each (λ y. x ≢ y) ys) xs

Distinct-append : {X : Type 0} (xs ys : List X) → Apart xs ys → Distinct xs → Distinct ys → Distinct (xs ++ ys)
Distinct-append [] ys a h k = k
Distinct-append (x ∷ xs) ys a h k = (Each-append (λ y. x ≢ y) xs ys h.0 a.0, Distinct-append xs ys a.1 h.1 k)

pub Distinct-prefix : {X : Type 0} (xs ys : List X) → Distinct (xs ++ ys) → Distinct xs
Distinct-prefix [] ys h = tt
Distinct-prefix (x ∷ xs) ys h = (Each-prefix (λ y. x ≢ y) xs ys h.0, Distinct-prefix xs ys h.1)

pub Distinct-rest : {X : Type 0} (xs ys : List X) → Distinct (xs ++ ys) → Distinct ys
Distinct-rest [] ys h = h
Distinct-rest (x ∷ xs) ys h = Distinct-rest xs ys h.1

pub Apart-pieces : {X : Type 0} (xs ys : List X) → Distinct (xs ++ ys) → Apart xs ys
Apart-pieces [] ys h = tt
Apart-pieces (x ∷ xs) ys h = (Each-rest (λ y. x ≢ y) xs ys h.0, Apart-pieces xs ys h.1)

Apart-append : {X : Type 0} (zs xs ys : List X) → Apart zs xs → Apart zs ys → Apart zs (xs ++ ys)
Apart-append [] xs ys a b = tt
Apart-append (z ∷ zs) xs ys a b = (Each-append (λ y. z ≢ y) xs ys a.0 b.0, Apart-append zs xs ys a.1 b.1)

Apart-prefix : {X : Type 0} (zs xs ys : List X) → Apart zs (xs ++ ys) → Apart zs xs
Apart-prefix [] xs ys a = tt
Apart-prefix (z ∷ zs) xs ys a = (Each-prefix (λ y. z ≢ y) xs ys a.0, Apart-prefix zs xs ys a.1)

Apart-rest : {X : Type 0} (zs xs ys : List X) → Apart zs (xs ++ ys) → Apart zs ys
Apart-rest [] xs ys a = tt
Apart-rest (z ∷ zs) xs ys a = (Each-rest (λ y. z ≢ y) xs ys a.0, Apart-rest zs xs ys a.1)

Apart-none : {X : Type 0} (xs : List X) → Apart xs []
Apart-none [] = tt
Apart-none (x ∷ xs) = (tt, Apart-none xs)

Apart-more : {X : Type 0} (xs : List X) (y : X) (ys : List X) → Each (λ x. y ≢ x) xs → Apart xs ys → Apart xs (y ∷ ys)
Apart-more [] y ys h a = tt
Apart-more (x ∷ xs) y ys h a = ((λ e. h.0 (sym e), a.0), Apart-more xs y ys h.1 a.1)

Apart-turned : {X : Type 0} (xs ys : List X) → Apart xs ys → Apart ys xs
Apart-turned [] ys a = Apart-none ys
Apart-turned (x ∷ xs) ys a = Apart-more ys x xs a.0 (Apart-turned xs ys a.1)

-- ---- a piece of a list replaced
-- ys is xs with a new piece in the place of another, which has these lists before and behind it
pub record IsReplaced {X : Type 0} (prefix piece new rest xs ys : List X) : Type 0 where
  pub was : xs ≡ prefix ++ (piece ++ rest)
  pub now : ys ≡ prefix ++ (new ++ rest)

pub insert-IsReplaced : {X : Type 0} (xs : List X) (k : ℕ) (x : X) → IsReplaced (take k xs) [] (x ∷ []) (drop k xs) xs (insert xs k x)
insert-IsReplaced xs k x = record { was = sym (take-append-drop k xs); now = refl }

drop-one : {X : Type 0} (xs : List X) (k : ℕ) → drop k xs ≡ take 1 (drop k xs) ++ drop (suc k) xs
drop-one [] zero = refl
drop-one [] (suc k) = refl
drop-one (x ∷ xs) zero = refl
drop-one (x ∷ xs) (suc k) = drop-one xs k

pub remove-IsReplaced : {X : Type 0} (xs : List X) (k : ℕ) → IsReplaced (take k xs) (take 1 (drop k xs)) [] (drop (suc k) xs) xs (remove xs k)
remove-IsReplaced xs k = record { was = sym (take-append-drop k xs) ∙ ap (λ ys. take k xs ++ ys) (drop-one xs k); now = refl }

pub take-one : {X : Type 0} (xs : List X) (k : ℕ) (x : X) → slice_get xs k ≡ Some x → take 1 (drop k xs) ≡ x ∷ []
take-one [] zero x e = cc
take-one [] (suc k) x e = cc
take-one (y ∷ ys) zero x e = let same : y ≡ x = cc in ap (λ z. z ∷ []) same
take-one (y ∷ ys) (suc k) x e = take-one ys k x e

module _ {X A : Type 0} (g : X → List A) where
  flat-pieces : (prefix piece rest : List X) → flat_map g (prefix ++ (piece ++ rest)) ≡ flat_map g prefix ++ (flat_map g piece ++ flat_map g rest)
  flat-pieces prefix piece rest = flat_map-append g prefix (piece ++ rest) ∙ ap (λ qs. flat_map g prefix ++ qs) (flat_map-append g piece rest)

  -- what is read off the list is replaced with it
  pub flat-IsReplaced : {prefix piece new rest xs ys : List X} → IsReplaced prefix piece new rest xs ys
      → IsReplaced (flat_map g prefix) (flat_map g piece) (flat_map g new) (flat_map g rest) (flat_map g xs) (flat_map g ys)
  flat-IsReplaced {prefix = prefix} {piece = piece} {new = new} {rest = rest} r = record {
    was = ap (flat_map g) r.was ∙ flat-pieces prefix piece rest;
    now = ap (flat_map g) r.now ∙ flat-pieces prefix new rest;
  }

  pub flat-one : (x : X) → flat_map g (x ∷ []) ≡ g x
  flat-one x = append-nil (g x)

  pub flat-change_first : (p : X → Bool) (f : X → X) → ((x : X) → g (f x) ≡ g x) → (xs : List X) → flat_map g (change_first p f xs) ≡ flat_map g xs
  flat-change_first p f same [] = refl
  flat-change_first p f same (x ∷ xs) =
      elim (p x) as (λ b. flat_map g (cond b (f x ∷ xs) (x ∷ change_first p f xs)) ≡ g x ++ flat_map g xs)
      [ true ↦ ap (λ ys. ys ++ flat_map g xs) (same x) | false ↦ ap (λ ys. g x ++ ys) (flat-change_first p f same xs) ]

-- a list stays distinct with a new piece that stands in none of the others
pub Distinct-replaced : {X : Type 0} {prefix piece new rest xs ys : List X} → IsReplaced prefix piece new rest xs ys → Distinct xs → Distinct new
    → Apart new (prefix ++ rest) → Distinct ys
Distinct-replaced {prefix = prefix} {piece = piece} {new = new} {rest = rest} r h n apart =
    let distinct : Distinct (prefix ++ (piece ++ rest)) = rw (← r.was) h in
    let behind = Distinct-rest prefix (piece ++ rest) distinct in
    rw r.now (Distinct-append prefix (new ++ rest)
    (Apart-append prefix new rest (Apart-turned new prefix (Apart-prefix new prefix rest apart))
    (Apart-rest prefix piece rest (Apart-pieces prefix (piece ++ rest) distinct)))
    (Distinct-prefix prefix (piece ++ rest) distinct)
    (Distinct-append new rest (Apart-rest new prefix rest apart) n (Distinct-rest piece rest behind)))

module _ {X A : Type 0} (g : X → List A) where
  pub Distinct-insert : (xs : List X) (k : ℕ) (x : X) → Distinct (g x) → Apart (g x) (flat_map g xs) → Distinct (flat_map g xs)
      → Distinct (flat_map g (insert xs k x))
  Distinct-insert xs k x n apart h =
      let all : flat_map g xs ≡ flat_map g (take k xs) ++ flat_map g (drop k xs) = ap (flat_map g) (sym (take-append-drop k xs))
      ∙ flat_map-append g (take k xs) (drop k xs) in
      Distinct-replaced (flat-IsReplaced g (insert-IsReplaced xs k x)) h (rw (flat-one g x) n) (rw (flat-one g x, ← all) apart)

  pub Distinct-remove : (xs : List X) (k : ℕ) → Distinct (flat_map g xs) → Distinct (flat_map g (remove xs k))
  Distinct-remove xs k h = Distinct-replaced (flat-IsReplaced g (remove-IsReplaced xs k)) h tt tt

-- ---- ids
-- what is asked of the ids of a new piece, beside those that are there
pub record AreNewIds (next : ℕ) (new ids : List ℕ) : Type 0 where
  pub each : Each (IsId next) new
  pub distinct : Distinct new
  pub apart : Apart new ids

pub AreNewIds-none : (next : ℕ) (ids : List ℕ) → AreNewIds next [] ids
AreNewIds-none next ids = record { each = tt; distinct = tt; apart = tt }

module _ {next : ℕ} {prefix piece new rest xs ys : List ℕ} (r : IsReplaced prefix piece new rest xs ys) (h : AreIds next xs) where
  -- the ids are those of both other pieces and of the new one
  pub AreIds-replaced : AreNewIds next new (prefix ++ rest) → AreIds next ys
  AreIds-replaced n =
      let each : Each (IsId next) (prefix ++ (piece ++ rest)) = rw (← r.was) h.each in
      let all = Distinct-replaced r h.distinct n.distinct n.apart in
      rw r.now (record {
        next_low = h.next_low;
        next_high = h.next_high;
        each = Each-append (IsId next) prefix (new ++ rest) (Each-prefix (IsId next) prefix (piece ++ rest) each)
            (Each-append (IsId next) new rest n.each (Each-rest (IsId next) piece rest (Each-rest (IsId next) prefix (piece ++ rest) each)));
        distinct = rw r.now at all;
      })

  -- the ids of the piece that is taken out are new beside the others
  pub AreNewIds-piece : AreNewIds next piece (prefix ++ rest)
  AreNewIds-piece =
      let each : Each (IsId next) (prefix ++ (piece ++ rest)) = rw (← r.was) h.each in
      let distinct : Distinct (prefix ++ (piece ++ rest)) = rw (← r.was) h.distinct in
      let behind = Distinct-rest prefix (piece ++ rest) distinct in
      record {
        each = Each-prefix (IsId next) piece rest (Each-rest (IsId next) prefix (piece ++ rest) each);
        distinct = Distinct-prefix piece rest behind;
        apart = Apart-append piece prefix rest (Apart-turned prefix piece (Apart-prefix prefix piece rest (Apart-pieces prefix (piece ++ rest) distinct)))
            (Apart-pieces piece rest behind);
      }

module _ {X : Type 0} (g : X → List ℕ) (next : ℕ) where
  pub AreIds-insert : (xs : List X) (k : ℕ) (x : X) → AreNewIds next (g x) (flat_map g xs) → AreIds next (flat_map g xs)
      → AreIds next (flat_map g (insert xs k x))
  AreIds-insert xs k x new h =
      let all : flat_map g xs ≡ flat_map g (take k xs) ++ flat_map g (drop k xs) = ap (flat_map g) (sym (take-append-drop k xs))
      ∙ flat_map-append g (take k xs) (drop k xs) in
      AreIds-replaced (flat-IsReplaced g (insert-IsReplaced xs k x)) h (rw (flat-one g x, ← all) new)

  pub AreIds-remove : (xs : List X) (k : ℕ) → AreIds next (flat_map g xs) → AreIds next (flat_map g (remove xs k))
  AreIds-remove xs k h = AreIds-replaced (flat-IsReplaced g (remove-IsReplaced xs k)) h
      (AreNewIds-none next (flat_map g (take k xs) ++ flat_map g (drop (suc k) xs)))

  -- the ids of an element that was taken out may be put in again
  pub AreNewIds-taken : (xs : List X) (k : ℕ) (x : X) → slice_get xs k ≡ Some x → AreIds next (flat_map g xs) → AreNewIds next (g x) (flat_map g (remove xs k))
  AreNewIds-taken xs k x e h =
      let piece : flat_map g (take 1 (drop k xs)) ≡ g x = ap (flat_map g) (take-one xs k x e) ∙ flat-one g x in
      let taken = AreNewIds-piece (flat-IsReplaced g (remove-IsReplaced xs k)) h in
      rw (← piece, flat_map-append g (take k xs) (drop (suc k) xs)) taken

  pub AreIds-change_first : (p : X → Bool) (f : X → X) → ((x : X) → g (f x) ≡ g x) → (xs : List X) → AreIds next (flat_map g xs)
      → AreIds next (flat_map g (change_first p f xs))
  AreIds-change_first p f same xs h = rw (flat-change_first g p f same xs) h
