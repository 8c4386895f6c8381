-- Keys that are met one after the other, and a set of those that were.
use Rattle.std.proofs.Common.{◌≡◌, ℕ, ◌+◌, ◌<◌, ◌∙◌, length, get_or, drop, map, bytes_eq, Bor, ◌++◌, eqb, arith, Less, Equal, Greater, List, [], ◌∷◌, Bool}
use Rattle.std.proofs.Common.{true, false, not, cond, true≢false, ◌&&◌, ◌||◌, nat_cmp, is_eq, refl, sym, ap}
use Rattle.std.specs.Prelude.{◌==◌, nat_lt}
use Rattle.std.proofs.lemmas.Bool.{ltb-true, eqb-true}
use Rattle.std.proofs.lemmas.List.{at_drop_more}
use Rattle.std.specs.List.{list_any, list_all}
use Rattle.std.specs.Cmp.Lexicographic.{slice_cmp}
use Rattle.std.proofs.lemmas.Map.Text.{is_eq-slice_cmp}
use Rattle.map_json.specs.Distinctness.{are_distinct}
use Rattle.map_model.proofs.TilesetChanges.{list_any-same}

module _ {K : Type 0} (eq : K → K → Bool) where
  -- no element was met
  abbrev pub are_new : (K → Bool) → List K → Bool
  are_new met xs = list_all (λ x. not (met x)) xs

  -- of elements that are to come: whether all are new, and differ
  abbrev pub go_on : (K → Bool) → List K → Bool
  go_on met xs = are_new met xs && are_distinct eq xs

  swapped : (a b c : Bool) → (not a && (b && not c)) ≡ (not a && b) && not c
  swapped true b c = refl
  swapped false b c = refl

  one_more : (a d : Bool) (n m : Bool) → not (cond a true d) && (n && not m) ≡ (not d && n) && not (a || m)
  one_more true true n m = refl
  one_more true false true m = refl
  one_more true false false m = refl
  one_more false true n m = refl
  one_more false false n m = refl

  pub are_new-met : (met after : K → Bool) (x : K) → ((q : K) → after q ≡ cond (eq x q) true (met q)) → (xs : List K)
      → are_new after xs ≡ are_new met xs && not (list_any (eq x) xs)
  are_new-met met after x is [] = refl
  are_new-met met after x is (y ∷ xs) = rw (is y, are_new-met met after x is xs) (one_more (eq x y) (met y) (are_new met xs) (list_any (eq x) xs))

  regroup : (n m d : Bool) → n && (not m && d) ≡ (n && not m) && d
  regroup true m d = refl
  regroup false m d = refl

  -- an element that is new
  pub go_on-new : (met after : K → Bool) (x : K) (xs : List K) → ((q : K) → after q ≡ cond (eq x q) true (met q)) → met x ≡ false
      → go_on met (x ∷ xs) ≡ go_on after xs
  go_on-new met after x xs is new = rw (new, are_new-met met after x is xs) (regroup (are_new met xs) (list_any (eq x) xs) (are_distinct eq xs))

  -- an element that was met before
  pub go_on-again : (met : K → Bool) (x : K) (xs : List K) → met x ≡ true → go_on met (x ∷ xs) ≡ false
  go_on-again met x xs again = rw again refl

  -- an element at a place that is new
  pub go_on-place : (met after : K → Bool) (xs : List K) (i : ℕ) (x : K) → i < length xs → x ≡ get_or xs i x → ((q : K) → after q ≡ cond (eq x q) true (met q))
      → met x ≡ false
      → go_on met (drop i xs) ≡ go_on after (drop (i + 1) xs)
  go_on-place met after xs i x lt at is new =
      at_drop_more (λ (ys : List K). go_on met ys) xs i x lt
      ∙ (ap (λ (y : K). go_on met (y ∷ drop (i + 1) xs)) (sym at) ∙ go_on-new met after x (drop (i + 1) xs) is new)

  -- nothing was met
  pub go_on-first : (met : K → Bool) → ((q : K) → met q ≡ false) → (xs : List K) → go_on met xs ≡ are_distinct eq xs
  go_on-first met none xs = ap (λ b. b && are_distinct eq xs) (all_new xs)
    where
      all_new : (ys : List K) → are_new met ys ≡ true
      all_new [] = refl
      all_new (y ∷ ys) = rw (none y, all_new ys) refl

-- ---- tests that agree
pub are_distinct-same : {A : Type 0} (p q : A → A → Bool) → ((x y : A) → p x y ≡ q x y) → (xs : List A) → are_distinct p xs ≡ are_distinct q xs
are_distinct-same p q e [] = refl
are_distinct-same p q e (x ∷ xs) = rw (list_any-same (p x) (q x) (e x) xs, are_distinct-same p q e xs) refl

nat_at : (a b : Bool) → (a ≡ true → b ≡ false) → is_eq (cond a Less (cond b Equal Greater)) ≡ b
nat_at true b h = sym (h refl)
nat_at false true h = refl
nat_at false false h = refl

lt_apart : (x y : ℕ) → nat_lt x y ≡ true → eqb x y ≡ false
lt_apart x y e = eqb_apart (eqb x y) x y (ltb-true x y e) refl
  where
    eqb_apart : (b : Bool) (m n : ℕ) → m < n → eqb m n ≡ b → b ≡ false
    eqb_apart true m n lt same = let is : m ≡ n = eqb-true m n same in absurd (omega arith)
    eqb_apart false m n lt same = refl

is_eq-nat_cmp : (x y : ℕ) → is_eq (nat_cmp x y) ≡ (x == y)
is_eq-nat_cmp x y = nat_at (nat_lt x y) (eqb x y) (lt_apart x y)

pub are_distinct-numbers : (xs : List ℕ) → are_distinct (λ a b. is_eq (nat_cmp a b)) xs ≡ are_distinct (λ a b. a == b) xs
are_distinct-numbers xs = are_distinct-same (λ a b. is_eq (nat_cmp a b)) (λ a b. a == b) is_eq-nat_cmp xs

-- ---- texts, lent
abbrev pub texts_of : List (Bor (List ℕ)) → List (List ℕ)
texts_of names = map (λ (n : Bor (List ℕ)). n.now) names

any_text : (p : List ℕ → Bool) (names : List (Bor (List ℕ))) → list_any (λ (n : Bor (List ℕ)). p n.now) names ≡ list_any p (texts_of names)
any_text p [] = refl
any_text p (n ∷ names) = ap (λ b. p n.now || b) (any_text p names)

pub are_distinct-texts : (names : List (Bor (List ℕ))) → are_distinct (λ (a b : Bor (List ℕ)). is_eq (slice_cmp nat_cmp a.now b.now)) names
    ≡ are_distinct bytes_eq (texts_of names)
are_distinct-texts [] = refl
are_distinct-texts (n ∷ names) =
    let same = list_any-same (λ (m : Bor (List ℕ)). is_eq (slice_cmp nat_cmp n.now m.now)) (λ (m : Bor (List ℕ)). bytes_eq n.now m.now)
    (λ m. is_eq-slice_cmp n.now m.now) names in
    rw (same, any_text (bytes_eq n.now) names, are_distinct-texts names) refl

pub texts_of-push : (names : List (Bor (List ℕ))) (n : Bor (List ℕ)) (rest : List (List ℕ))
    → texts_of (names ++ n ∷ []) ++ rest ≡ texts_of names ++ n.now ∷ rest
texts_of-push [] n rest = refl
texts_of-push (m ∷ names) n rest = ap (λ (ts : List (List ℕ)). m.now ∷ ts) (texts_of-push names n rest)

pub was_met : (met : Bool) → not met ≡ false → met ≡ true
was_met true e = refl
was_met false e = absurd (true≢false e)
