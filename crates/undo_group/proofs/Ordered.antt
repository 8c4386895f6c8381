-- Lists whose elements are told in an order: what stands at a place there, and what a change of the list or the order leaves.
use Rattle.std.proofs.Common.{◌≡◌, ◌≢◌, ℕ, zero, suc, ◌+◌, ◌-◌, ◌<◌, ◌≤◌, ◌==◌, List, [], ◌∷◌, ◌++◌, length, map, remove, get_or, slice_get}
use Rattle.std.proofs.Common.{if◌then◌else◌, Bool, true, false, Option, Some, None, refl, sym, ap, subst, ◌∙◌, ◌⊎◌, inl, inr, arith}
use Rattle.std.proofs.lemmas.Bool.{cases_lt}
use Rattle.std.proofs.lemmas.Bool.Decides.{nat_tests}
use Rattle.std.proofs.lemmas.Grind.{elements}
use Rattle.std.proofs.lemmas.List.Elements.{filter_map-append}
use Rattle.std.proofs.lemmas.List.Edits.{length-remove}
use Rattle.std.proofs.lemmas.Option.{gets, slice_get_read, slice_get-map}
use Rattle.std.specs.List.{swap_remove}
use Rattle.std.specs.Option.{option_map}
use Rattle.indexmap.specs.Layout.{set_value_at, length-set_value_at}
use Rattle.undo_group.specs.Order.{AreAmong, ArePlaced, IsTakenFrom, in_order, number_after}

-- lists that have the same at each place are equal
same_at_each : {X : Type 0} (xs ys : List X) → length xs ≡ length ys → ((i : ℕ) → i < length xs → slice_get xs i ≡ slice_get ys i) → xs ≡ ys
same_at_each [] [] l e = refl
same_at_each [] (y ∷ ys) l e = absurd (omega arith)
same_at_each (x ∷ xs) [] l e = absurd (omega arith)
same_at_each (x ∷ xs) (y ∷ ys) l e =
    let head : x ≡ y = some-eq (e zero (omega arith)) in
    rw (head, same_at_each xs ys (omega arith) (λ i lt. e (suc i) (omega arith)))
  where
    some-eq : Some x ≡ Some y → x ≡ y
    some-eq q = cc

pub AreAmong-rest : (ns : List ℕ) (n : ℕ) (rest : List ℕ) (m : ℕ) → ns ≡ n ∷ rest → AreAmong ns m → AreAmong rest m
AreAmong-rest ns n rest m is among at lt = subst (λ (l : List ℕ). get_or l (suc at) 0 < m) is (among (suc at) (rw is (omega arith)))

module _ {X : Type 0} where
  -- there are as many as numbers
  pub length-in_order : (xs : List X) (ns : List ℕ) → ((p : ℕ) → p < length ns → get_or ns p 0 < length xs) → length (in_order xs ns) ≡ length ns
  length-in_order xs [] within = refl
  length-in_order xs (n ∷ ns) within = by_head (slice_get xs n) refl (length-in_order xs ns (λ p lt. within (suc p) (omega arith)))
    where
      by_head : (o : Option X) → slice_get xs n ≡ o → length (in_order xs ns) ≡ length ns → length (in_order xs (n ∷ ns)) ≡ suc (length ns)
      by_head None none rest = absurd (grind (arith, gets, within zero))
      by_head (Some x) some rest = rw some (ap suc rest)

  -- at a place stands what has the number there
  pub slice_get-in_order : (xs : List X) (ns : List ℕ) (p : ℕ) → ((p : ℕ) → p < length ns → get_or ns p 0 < length xs) → p < length ns
      → slice_get (in_order xs ns) p ≡ slice_get xs (get_or ns p 0)
  slice_get-in_order xs [] p within lt = absurd (omega arith)
  slice_get-in_order xs (n ∷ ns) p within lt =
      by_head (slice_get xs n) refl p lt (λ q below. slice_get-in_order xs ns q (λ p lt. within (suc p) (omega arith)) below)
    where
      by_head : (o : Option X) → slice_get xs n ≡ o → (p : ℕ) → p < suc (length ns)
          → ((q : ℕ) → q < length ns → slice_get (in_order xs ns) q ≡ slice_get xs (get_or ns q 0))
          → slice_get (in_order xs (n ∷ ns)) p ≡ slice_get xs (get_or (n ∷ ns) p 0)
      by_head None none p lt rest = absurd (grind (arith, gets, within zero))
      by_head (Some x) some zero lt rest = rw some refl
      by_head (Some x) some (suc p) lt rest = rw some (rest p (omega arith))

  -- the first one
  pub in_order-first : (xs : List X) (ns : List ℕ) (n : ℕ) (rest : List ℕ) (x : X) → ns ≡ n ∷ rest → AreAmong ns (length xs) → x ≡ get_or xs n x
      → in_order xs ns ≡ x ∷ in_order xs rest
  in_order-first xs ns n rest x is among there =
      let first : n < length xs = subst (λ (l : List ℕ). get_or l 0 0 < length xs) is (among 0 (rw is (omega arith))) in
      let at : slice_get xs n ≡ Some x = slice_get_read xs (length xs) n x refl first there in
      rw (is, at) refl

  -- what has a number stands at its place
  pub in_order-at : (xs : List X) (ns ps : List ℕ) (i : ℕ) → ArePlaced ns ps (length xs) → i < length xs
      → slice_get (in_order xs ns) (get_or ps i 0) ≡ slice_get xs i
  in_order-at xs ns ps i order lt =
      let within : (p : ℕ) → p < length ns → get_or ns p 0 < length xs = λ p lt. order.placed.within p (omega (arith, order.entries)) in
      slice_get-in_order xs ns (get_or ps i 0) within (omega (arith, order.numbered.within i lt, order.entries))
      ∙ ap (slice_get xs) (order.numbered.back i lt)

  -- more behind them change nothing
  in_order-more : (xs ys : List X) (ns : List ℕ) → ((p : ℕ) → p < length ns → get_or ns p 0 < length xs) → in_order (xs ++ ys) ns ≡ in_order xs ns
  in_order-more xs ys [] within = refl
  in_order-more xs ys (n ∷ ns) within =
      let below : n < length xs = within zero (omega arith) in
      let head : slice_get (xs ++ ys) n ≡ slice_get xs n = grind (arith, gets, elements) in
      rw (head, in_order-more xs ys ns (λ p lt. within (suc p) (omega arith)))

  -- the last one is added
  pub in_order-push : (xs : List X) (ns : List ℕ) (x : X) (n : ℕ) → n ≡ length xs → ((p : ℕ) → p < length ns → get_or ns p 0 < length xs)
      → in_order (xs ++ x ∷ []) (ns ++ n ∷ []) ≡ in_order xs ns ++ x ∷ []
  in_order-push xs ns x n count within =
      let last : slice_get (xs ++ x ∷ []) n ≡ Some x = grind (arith, gets, elements) in
      filter_map-append (slice_get (xs ++ x ∷ [])) ns (n ∷ []) ∙ rw (in_order-more xs (x ∷ []) ns within, last) refl

  -- one is taken out, and the last one gets its number
  named_after : (xs : List X) (i o : ℕ) (d : X) → i < length xs → o < length xs → o ≢ i
      → slice_get (swap_remove xs i d) (number_after i (length xs - 1) o) ≡ slice_get xs o
  named_after xs i o d lt within other = by_test (o == (length xs - 1)) refl
    where
      by_test : (b : Bool) → (o == (length xs - 1)) ≡ b → slice_get (swap_remove xs i d) (if b then i else o) ≡ slice_get xs o
      by_test true is = grind (arith, nat_tests, gets, elements)
      by_test false is = grind (arith, nat_tests, gets, elements)

  slice_get-remove_below : (xs : List X) (p q : ℕ) → p < length xs → q < p → slice_get (remove xs p) q ≡ slice_get xs q
  slice_get-remove_below xs p q lt below = grind (arith, gets, elements)

  slice_get-remove_above : (xs : List X) (p q : ℕ) → p < length xs → p ≤ q → slice_get (remove xs p) q ≡ slice_get xs (q + 1)
  slice_get-remove_above xs p q lt above = grind (arith, gets, elements)

  pub in_order-take : (xs : List X) (ns ps ms : List ℕ) (i : ℕ) (d : X) → ArePlaced ns ps (length xs) → i < length xs
      → IsTakenFrom ns (get_or ps i 0) i ms
      → ((p : ℕ) → p < length ms → get_or ms p 0 < length xs - 1)
      → in_order (swap_remove xs i d) ms ≡ remove (in_order xs ns) (get_or ps i 0)
  in_order-take xs ns ps ms i d order lt taken within =
      let fewer : length (swap_remove xs i d) ≡ length xs - 1 = grind (arith, elements) in
      let among : (p : ℕ) → p < length ms → get_or ms p 0 < length (swap_remove xs i d) = λ p lt. rw fewer (within p lt) in
      let of_old : (p : ℕ) → p < length ns → get_or ns p 0 < length xs = λ p lt. order.placed.within p (omega (arith, order.entries)) in
      let place : get_or ps i 0 < length xs = order.numbered.within i lt in
      let l : length (in_order (swap_remove xs i d) ms) ≡ length ms = length-in_order (swap_remove xs i d) ms among in
      let m : length (in_order xs ns) ≡ length xs = length-in_order xs ns of_old ∙ order.entries in
      same_at_each (in_order (swap_remove xs i d) ms) (remove (in_order xs ns) (get_or ps i 0))
      (omega (arith, taken.one_less, order.entries, length-remove (in_order xs ns) (get_or ps i 0)))
      (λ q below. slice_get-in_order (swap_remove xs i d) ms q among (omega arith)
      ∙ each of_old place m q (omega (arith, taken.one_less, order.entries)) (cases_lt q (get_or ps i 0)))
    where
      -- another number than i stands at each other place
      other : (q : ℕ) → q < length xs → q ≢ get_or ps i 0 → get_or ns q 0 ≢ i
      other q lt apart same = apart (sym (order.placed.back q lt) ∙ ap (λ k. get_or ps k 0) same)

      after : (q : ℕ) → q < length xs → q ≢ get_or ps i 0
          → slice_get (swap_remove xs i d) (number_after i (length ns - 1) (get_or ns q 0)) ≡ slice_get xs (get_or ns q 0)
      after q below apart = rw order.entries (named_after xs i (get_or ns q 0) d lt (order.placed.within q below) (other q below apart))

      each : ((p : ℕ) → p < length ns → get_or ns p 0 < length xs) → get_or ps i 0 < length xs → length (in_order xs ns) ≡ length xs
          → (q : ℕ) → q < length xs - 1 → (q < get_or ps i 0) ⊎ (get_or ps i 0 ≤ q)
          → slice_get (swap_remove xs i d) (get_or ms q 0) ≡ slice_get (remove (in_order xs ns) (get_or ps i 0)) q
      each of_old place m q below (inl before) =
          ap (slice_get (swap_remove xs i d)) (taken.before q before)
          ∙ after q (omega arith) (λ same. omega arith)
          ∙ sym (slice_get-in_order xs ns q of_old (omega (arith, order.entries)))
          ∙ sym (slice_get-remove_below (in_order xs ns) (get_or ps i 0) q (omega arith) before)
      each of_old place m q below (inr from) =
          ap (slice_get (swap_remove xs i d)) (taken.behind q from (omega (arith, order.entries)))
          ∙ after (q + 1) (omega arith) (λ same. omega arith)
          ∙ sym (slice_get-in_order xs ns (q + 1) of_old (omega (arith, order.entries)))
          ∙ sym (slice_get-remove_above (in_order xs ns) (get_or ps i 0) q (omega arith) from)

pub map-in_order : {X Y : Type 0} (f : X → Y) (xs : List X) (ns : List ℕ) → map f (in_order xs ns) ≡ in_order (map f xs) ns
map-in_order f xs [] = refl
map-in_order f xs (n ∷ ns) = grind (arith, slice_get-map f xs n, map-in_order f xs ns)

-- a value is written
module _ {K X : Type 0} where
  slice_get-set_value_at : (es : List (K × X)) (i : ℕ) (w : X) (j : ℕ)
      → slice_get (set_value_at es i w) j ≡ option_map (λ e. (e.0, if i == j then w else e.1)) (slice_get es j)
  slice_get-set_value_at [] i w j = refl
  slice_get-set_value_at (e ∷ es) zero w zero = refl
  slice_get-set_value_at (e ∷ es) zero w (suc j) = by_entry (slice_get es j) refl
    where
      by_entry : (o : Option (K × X)) → slice_get es j ≡ o → slice_get es j ≡ option_map (λ e. (e.0, if 0 == suc j then w else e.1)) (slice_get es j)
      by_entry None none = rw none refl
      by_entry (Some x) some = rw some (grind (arith, nat_tests))
  slice_get-set_value_at (e ∷ es) (suc i) w zero = grind (arith, nat_tests)
  slice_get-set_value_at (e ∷ es) (suc i) w (suc j) =
      let tests : (suc i == suc j) ≡ (i == j) = grind (arith, nat_tests) in
      rw tests (slice_get-set_value_at es i w j)

  pub in_order-set_value_at : (es : List (K × X)) (ns ps : List ℕ) (i : ℕ) (w : X) → ArePlaced ns ps (length es) → i < length es
      → in_order (set_value_at es i w) ns ≡ set_value_at (in_order es ns) (get_or ps i 0) w
  in_order-set_value_at es ns ps i w order lt =
      let of_old : (p : ℕ) → p < length ns → get_or ns p 0 < length es = λ p lt. order.placed.within p (omega (arith, order.entries)) in
      let of_new : (p : ℕ) → p < length ns → get_or ns p 0 < length (set_value_at es i w) = λ p lt. rw (length-set_value_at es i w) (of_old p lt) in
      let l : length (in_order (set_value_at es i w) ns) ≡ length ns = length-in_order (set_value_at es i w) ns of_new in
      let m : length (in_order es ns) ≡ length ns = length-in_order es ns of_old in
      same_at_each (in_order (set_value_at es i w) ns) (set_value_at (in_order es ns) (get_or ps i 0) w)
      (omega (arith, length-set_value_at (in_order es ns) (get_or ps i 0) w))
      (λ q below. slice_get-in_order (set_value_at es i w) ns q of_new (omega arith) ∙ each of_old q (omega arith))
    where
      -- the number i stands at its place alone
      tests : (q : ℕ) → q < length es → (i == get_or ns q 0) ≡ (get_or ps i 0 == q)
      tests q below = grind (arith, nat_tests, order.placed.back q, order.numbered.back i)

      each : ((p : ℕ) → p < length ns → get_or ns p 0 < length es) → (q : ℕ) → q < length ns
          → slice_get (set_value_at es i w) (get_or ns q 0) ≡ slice_get (set_value_at (in_order es ns) (get_or ps i 0) w) q
      each of_old q below =
          slice_get-set_value_at es i w (get_or ns q 0)
          ∙ rw (tests q (omega (arith, order.entries)), sym (slice_get-in_order es ns q of_old below)) refl
          ∙ sym (slice_get-set_value_at (in_order es ns) (get_or ps i 0) w q)
