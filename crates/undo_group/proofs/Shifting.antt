-- Numbers in order of which one is taken out: places are written again behind it.
use Rattle.std.proofs.Common.{◌≡◌, ◌≢◌, ℕ, ◌+◌, ◌-◌, ◌<◌, ◌≤◌, List, length, get_or, set, remove}
use Rattle.std.proofs.Common.{arith, refl, ap, subst, ◌∙◌, ◌==◌, Bool, true, false, ◌⊎◌, inl, inr}
use Rattle.std.proofs.lemmas.Bool.{cases_lt}
use Rattle.std.proofs.lemmas.Bool.Decides.{nat_tests}
use Rattle.std.proofs.lemmas.Grind.{elements}
use Rattle.std.proofs.lemmas.List.Edits.{length-remove, get_or-remove_below, get_or-remove_above}
use Rattle.undo_group.specs.Order.{ArePlaced, IsFoundIn, IsOrder, IsTakenFrom, number_after}
use Rattle.undo_group.specs.declared.order.Order.{Order}

pub placed_of : (o : Order) (n : ℕ) → IsOrder o n → ArePlaced o.entries.items o.places.items n
unfolding IsOrder
placed_of o n order = order

pub is_order : (o : Order) (n : ℕ) → ArePlaced o.entries.items o.places.items n → IsOrder o n
unfolding IsOrder
is_order o n placed = placed

-- so it is with more room
pub same_order : (o p : Order) (n : ℕ) → p.entries.items ≡ o.entries.items → p.places.items ≡ o.places.items → IsOrder o n → IsOrder p n
unfolding IsOrder
same_order o p n entries places order = rw (entries, places) order

-- the places before this one are right, and those behind it are still one too high; n numbers stand in xs
pub record IsShifted (xs ps : List ℕ) (n at : ℕ) : Type 0 where
  pub entries : length xs ≡ n
  pub places : length ps ≡ n
  pub within : (p : ℕ) → p < n → get_or xs p 0 < n
  pub right : (p : ℕ) → p < at → p < n → get_or ps (get_or xs p 0) 0 ≡ p
  pub high : (p : ℕ) → at ≤ p → p < n → get_or ps (get_or xs p 0) 0 ≡ p + 1
  pub onto : (i : ℕ) → i < n → (p : ℕ) × (p < n) × (get_or xs p 0 ≡ i)

-- where all are right, each number is found at its place
numbered : (xs ps : List ℕ) (n at : ℕ) → IsShifted xs ps n at → n ≤ at → IsFoundIn ps xs n
numbered xs ps n at s done = record {
  within = λ i lt. let o = s.onto i lt in let r = s.right o.0 (omega arith) o.1 in grind arith;
  back = λ i lt. let o = s.onto i lt in let r = s.right o.0 (omega arith) o.1 in grind arith;
}

-- one place more is written
pub shifted_more : (xs ps : List ℕ) (n at x : ℕ) → IsShifted xs ps n at → at < n → x ≡ get_or xs at x → IsShifted xs (set ps x at) n (at + 1)
shifted_more xs ps n at x s lt is = record {
  entries = s.entries;
  places = grind (arith, elements, s.places);
  within = s.within;
  right = λ p before within. grind (arith, elements, s.within at, s.right p, s.high at, s.high p, s.places);
  high = λ p from within. grind (arith, elements, s.within at, s.high at, s.high p, s.places);
  onto = s.onto;
}

-- the number `entry` of es is taken out, of n and one more, and the number n is taken for it
module _ (es ps : List ℕ) (n entry : ℕ) (entries : length es ≡ n + 1) (places : length ps ≡ n + 1)
    (placed : IsFoundIn es ps (n + 1)) (numbers : IsFoundIn ps es (n + 1)) (within : entry < n + 1) where
  -- the number n is taken for `entry` wherever it stands
  named_at : (at : ℕ) → at < n + 1 → get_or (set es (get_or ps n 0) entry) at 0 ≡ number_after entry n (get_or es at 0)
  named_at at lt = grind (arith, elements, nat_tests, placed.back at, numbers.back n, numbers.within n)

  named_length : length (set es (get_or ps n 0) entry) ≡ n + 1
  named_length = grind (arith, elements)

  place_within : get_or ps entry 0 < n + 1
  place_within = numbers.within entry within

  left_below : (at : ℕ) → at < get_or ps entry 0 → get_or (remove (set es (get_or ps n 0) entry) (get_or ps entry 0)) at 0 ≡ number_after entry n (get_or es at 0)
  left_below at lt =
      let l = named_length in
      let p = place_within in
      grind (arith, get_or-remove_below (set es (get_or ps n 0) entry) (get_or ps entry 0) 0 at lt, named_at at)

  left_above : (at : ℕ) → get_or ps entry 0 ≤ at → at < n
      → get_or (remove (set es (get_or ps n 0) entry) (get_or ps entry 0)) at 0 ≡ number_after entry n (get_or es (at + 1) 0)
  left_above at from lt =
      let l = named_length in
      let p = place_within in
      grind (arith, get_or-remove_above (set es (get_or ps n 0) entry) (get_or ps entry 0) 0 at from, named_at (at + 1))

  left_length : length (remove (set es (get_or ps n 0) entry) (get_or ps entry 0)) ≡ n
  left_length =
      let l = named_length in
      let p = place_within in
      omega (arith, length-remove (set es (get_or ps n 0) entry) (get_or ps entry 0))

  taken : IsTakenFrom es (get_or ps entry 0) entry (remove (set es (get_or ps n 0) entry) (get_or ps entry 0))
  taken =
      let l = left_length in
      let last : length es - 1 ≡ n = omega arith in
      record {
        one_less = omega arith;
        before = λ at lt. rw last (left_below at lt);
        behind = λ at from lt. rw last (left_above at from (omega arith));
      }

  -- ps without the place of `entry`, where that of n is taken for it
  module _ (qs : List ℕ) (fewer : length qs + 1 ≡ n + 1) (here : entry < n → get_or qs entry 0 ≡ get_or ps n 0)
      (others : (k : ℕ) → k ≢ entry → k < n → get_or qs k 0 ≡ get_or ps k 0) where
    -- a number that is not taken out keeps its place, whatever it is called
    place_after : (at : ℕ) → at < n + 1 → at ≢ get_or ps entry 0
        → (number_after entry n (get_or es at 0) < n) × (get_or qs (number_after entry n (get_or es at 0)) 0 ≡ at)
    place_after at lt other =
        grind (arith, nat_tests, placed.back at, placed.within at, placed.back n, numbers.back entry, here, others (get_or es at 0))

    -- where the number i stood
    stood : (i : ℕ) → i < n → (p : ℕ) × (p < n + 1) × (p ≢ get_or ps entry 0) × (number_after entry n (get_or es p 0) ≡ i)
    stood i lt = by_test (i == entry) refl
      where
        by_test : (b : Bool) → (i == entry) ≡ b → (p : ℕ) × (p < n + 1) × (p ≢ get_or ps entry 0) × (number_after entry n (get_or es p 0) ≡ i)
        by_test true is = (
          get_or ps n 0,
          numbers.within n (omega arith),
          λ same. grind (arith, nat_tests, numbers.back n, numbers.back entry),
          grind (arith, nat_tests, numbers.back n),
        )
        by_test false is = (
          get_or ps i 0,
          numbers.within i (omega arith),
          λ same. grind (arith, nat_tests, numbers.back i, numbers.back entry),
          grind (arith, nat_tests, numbers.back i),
        )

    shifted : IsShifted (remove (set es (get_or ps n 0) entry) (get_or ps entry 0)) qs n (get_or ps entry 0)
    shifted = record {
      entries = left_length;
      places = omega arith;
      within = λ p lt. within_by p lt (cases_lt p (get_or ps entry 0));
      right = λ p before lt. let a = place_after p (omega arith) (λ same. omega arith) in rw (left_below p before) a.1;
      high = λ p from lt. let a = place_after (p + 1) (omega arith) (λ same. omega arith) in rw (left_above p from lt) a.1;
      onto = onto;
    }
      where
        within_by : (p : ℕ) → p < n → (p < get_or ps entry 0) ⊎ (get_or ps entry 0 ≤ p)
            → get_or (remove (set es (get_or ps n 0) entry) (get_or ps entry 0)) p 0 < n
        within_by p lt (inl before) = let a = place_after p (omega arith) (λ same. omega arith) in rw (left_below p before) a.0
        within_by p lt (inr from) = let a = place_after (p + 1) (omega arith) (λ same. omega arith) in rw (left_above p from lt) a.0

        onto_by : (i q : ℕ) → q < n + 1 → q ≢ get_or ps entry 0 → number_after entry n (get_or es q 0) ≡ i
            → (q < get_or ps entry 0) ⊎ (get_or ps entry 0 ≤ q)
            → (p : ℕ) × (p < n) × (get_or (remove (set es (get_or ps n 0) entry) (get_or ps entry 0)) p 0 ≡ i)
        onto_by i q lt other is (inl before) = (q, omega (arith, place_within), left_below q before ∙ is)
        onto_by i q lt other is (inr from) =
            let on : q - 1 + 1 ≡ q = omega arith in
            (q - 1, omega arith, left_above (q - 1) (omega arith) (omega arith) ∙ ap (λ k. number_after entry n (get_or es k 0)) on ∙ is)

        onto : (i : ℕ) → i < n → (p : ℕ) × (p < n) × (get_or (remove (set es (get_or ps n 0) entry) (get_or ps entry 0)) p 0 ≡ i)
        onto i lt = let o = stood i lt in onto_by i o.0 o.1 o.2 o.3 (cases_lt o.0 (get_or ps entry 0))

-- the number `entry` is taken out of m numbers, at `place`, and the last one, which stands at `moved`, is taken for it
module _ (es ps xs : List ℕ) (m n entry moved place : ℕ) (order : ArePlaced es ps m) (count : m ≡ n + 1) (within : entry < m)
    (last : moved ≡ get_or ps n moved) (at : place ≡ get_or ps entry place) (left : xs ≡ remove (set es moved entry) place) where
  entries : length es ≡ n + 1
  entries = order.entries ∙ count

  places : length ps ≡ n + 1
  places = order.places ∙ count

  placed : IsFoundIn es ps (n + 1)
  placed = subst (λ k. IsFoundIn es ps k) count order.placed

  numbers : IsFoundIn ps es (n + 1)
  numbers = subst (λ k. IsFoundIn ps es k) count order.numbered

  from : xs ≡ remove (set es (get_or ps n 0) entry) (get_or ps entry 0)
  from =
      let last_at : moved ≡ get_or ps n 0 = grind (arith, elements, places) in
      let place_at : place ≡ get_or ps entry 0 = grind (arith, elements, places) in
      rw (left, last_at, place_at)

  pub taken_out : IsTakenFrom es (get_or ps entry 0) entry xs
  taken_out = rw from (taken es ps n entry entries places placed numbers (omega arith))

  pub shifted_out : (qs : List ℕ) → length qs + 1 ≡ m → ((d : ℕ) → entry + 1 < m → get_or qs entry d ≡ get_or ps (m - 1) d)
      → ((k d : ℕ) → k ≢ entry → k + 1 < m → get_or qs k d ≡ get_or ps k d)
      → IsShifted xs qs n place
  shifted_out qs fewer here others =
      let place_at : place ≡ get_or ps entry 0 = grind (arith, elements, places) in
      let before : m - 1 ≡ n = omega arith in
      rw (from, place_at) (
      shifted es ps n entry entries places placed numbers (omega arith) qs (omega arith)
      (λ lt. here 0 (omega arith) ∙ ap (λ k. get_or ps k 0) before) (λ k other lt. others k 0 other (omega arith))
      )

-- and once all places are right, the numbers are placed
pub ArePlaced-shifted : (xs ps : List ℕ) (n at : ℕ) → IsShifted xs ps n at → n ≤ at → ArePlaced xs ps n
ArePlaced-shifted xs ps n at s done = record {
  entries = s.entries;
  places = s.places;
  placed = record { within = s.within; back = λ p lt. s.right p (omega arith) lt };
  numbered = numbered xs ps n at s done;
}
