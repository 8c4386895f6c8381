-- The rows of a map on which a block lies.
use Rattle.std.proofs.Common.{◌≡◌, inl, inr, ℕ, ℤ, pos, negsuc, zero, suc, ◌+◌, ◌-◌, ◌*◌, ◌≤◌, ◌<◌, List, [], ◌∷◌, ◌++◌, length, take, drop, get_or, Bool, true}
use Rattle.std.proofs.Common.{false, cond, nat_lt, Option, Some, None, option_and_then, Result, Ok, Err, is_ok, append_assoc, refl, sym, ap, ◌∙◌, arith}
use Rattle.std.proofs.Common.{length-append, length-take, length-drop, get_or-take, get_or-drop}
use Rattle.std.specs.Prelude.{nat_le, replicate, OnOk}
use Rattle.std.specs.List.{slice_get}
use Rattle.std.specs.Option.{unwrap_or}
use Rattle.std.proofs.lemmas.Bool.{cases_lt}
use Rattle.std.proofs.lemmas.Bool.Decides.{nat_tests}
use Rattle.std.proofs.lemmas.Option.{slice_get-get_or}
use Rattle.std.proofs.lemmas.List.{take_all, ext_get_or, get_or_append_left, get_or-append_right, get_or-replicate, length-replicate}
use Rattle.std.proofs.lemmas.List.FromFn.{length-map-range_with_len, get_or-map-range_with_len}
use Rattle.edits.specs.declared.span.Span.{Span}
use Rattle.edits.specs.Blocks.{ValueBlock, offset, value_in, is_below, IsSpan}
use Rattle.edits.specs.Resizing.{row, value_at, IsRowStretch}

slice_get-past : {X : Type 0} (xs : List X) (i : ℕ) → length xs ≤ i → slice_get xs i ≡ None
slice_get-past [] zero l = refl
slice_get-past [] (suc i) l = refl
slice_get-past (x ∷ xs) zero l = absurd (omega arith)
slice_get-past (x ∷ xs) (suc i) l = slice_get-past xs i (omega arith)

-- a column or a row further on
offset-more : (start : ℤ) (at r k : ℕ) → offset start at ≡ Some r → offset start (at + k) ≡ Some (r + k)
offset-more (pos start) at r k e = by_test (nat_le start at) refl e
  where
    by_test : (b : Bool) → nat_le start at ≡ b → cond b (Some (at - start)) None ≡ Some r → offset (pos start) (at + k) ≡ Some (r + k)
    by_test false t q = cc
    by_test true t q =
        let low : start ≤ at = grind (arith, nat_tests) in
        let is : at - start ≡ r = cc in
        let still : nat_le start (at + k) ≡ true = grind (arith, nat_tests) in
        rw still (ap Some (omega arith))
offset-more (negsuc start) at r k e = let is : at + (start + 1) ≡ r = cc in ap Some (omega arith)

module _ (block : ValueBlock) (y : ℕ) where
  -- the value, by how far its cell lies behind the block's start
  abbrev value_by : Option ℕ → Option ℕ → ℕ
  value_by right down = unwrap_or (option_and_then (λ r. option_and_then (λ d. value_in block r d) down) right) 0

  outside : (r : ℕ) (down : Option ℕ) → nat_lt r block.width ≡ false → value_by (Some r) down ≡ 0
  outside r None e = refl
  outside r (Some d) e = rw e refl

  beside : (right down : Option ℕ) → is_below right block.width ≡ false → value_by right down ≡ 0
  beside None down e = refl
  beside (Some r) down e = outside r down e

  pub value-beside : (x : ℕ) → is_below (offset block.x x) block.width ≡ false → value_at block x y ≡ 0
  value-beside x e = beside (offset block.x x) (offset block.y y) e

  above : (right : Option ℕ) → value_by right None ≡ 0
  above None = refl
  above (Some r) = refl

  pub value-above : (x : ℕ) → offset block.y y ≡ None → value_at block x y ≡ 0
  value-above x e = ap (value_by (offset block.x x)) e ∙ above (offset block.x x)

  under : (right : Option ℕ) (d : ℕ) → length block.values ≤ d * block.width → value_by right (Some d) ≡ 0
  under None d l = refl
  under (Some r) d l = by_test (nat_lt r block.width)
    where
      by_test : (b : Bool) → unwrap_or (cond b (slice_get block.values (d * block.width + r)) None) 0 ≡ 0
      by_test false = refl
      by_test true = ap (λ o. unwrap_or o 0) (slice_get-past block.values (d * block.width + r) (omega arith))

  pub value-under : (x d : ℕ) → offset block.y y ≡ Some d → length block.values ≤ d * block.width → value_at block x y ≡ 0
  value-under x d e l = ap (value_by (offset block.x x)) e ∙ under (offset block.x x) d l

  pub value-within : (x r d : ℕ) → offset block.x x ≡ Some r → offset block.y y ≡ Some d → r < block.width → d * block.width + r < length block.values
      → value_at block x y ≡ get_or block.values (d * block.width + r) 0
  value-within x r d e f l inside =
      let test : nat_lt r block.width ≡ true = grind (arith, nat_tests) in
      (λ i. value_by (e i) (f i)) ∙ ap (λ b. unwrap_or (cond b (slice_get block.values (d * block.width + r)) None) 0) test
      ∙ ap (λ o. unwrap_or o 0) (slice_get-get_or block.values (d * block.width + r) 0 inside)

module _ (block : ValueBlock) (width y : ℕ) (s : Span) (h : IsSpan block.x block.width width s) where
  -- no column of the map lies under the block
  pub no_columns : s.end ≤ s.first → IsRowStretch block width y s.first []
  no_columns none = record {
    within = omega (arith, h.ordered, h.within);
    before = λ x l. value-beside block y x (h.before x l);
    under = λ k l. absurd (omega arith);
    behind = λ x l m. value-beside block y x (h.after x (omega arith) m);
  }

  -- the row lies above the block, or below it
  pub no_row : ((x : ℕ) → value_at block x y ≡ 0) → IsRowStretch block width y s.first []
  no_row zeros = record {
    within = omega (arith, h.ordered, h.within);
    before = λ x l. zeros x;
    under = λ k l. absurd (omega arith);
    behind = λ x l m. zeros x;
  }

  module _ (r d rows : ℕ) (some : s.first < s.end) (right : offset block.x s.first ≡ Some r) (down : offset block.y y ≡ Some d) (inside : d < rows)
      (whole : length block.values ≡ rows * block.width) where
    columns-within : r + (s.end - s.first) ≤ block.width
    columns-within =
        let last = h.under (s.end - 1) (omega arith) (omega arith) in
        let at : s.first + (s.end - 1 - s.first) ≡ s.end - 1 = omega arith in
        let is = offset-more block.x s.first r (s.end - 1 - s.first) right in
        let far : nat_lt (r + (s.end - 1 - s.first)) block.width ≡ true = ap (λ o. is_below o block.width) (sym is ∙ ap (offset block.x) at) ∙ last in
        let below : r + (s.end - 1 - s.first) < block.width = grind (arith, nat_tests) in
        omega arith

    pub stretch-within : d * block.width + r + (s.end - s.first) ≤ length block.values
    stretch-within =
        let wide = columns-within in
        let more : (d + 1) * block.width ≤ rows * block.width = grind arith in
        omega arith

    pub some_row : IsRowStretch block width y s.first (take (s.end - s.first) (drop (d * block.width + r) block.values))
    some_row =
        let from = d * block.width + r in
        let count = s.end - s.first in
        let fits = stretch-within in
        let wide = columns-within in
        let long : length (take count (drop from block.values)) ≡ count =
        omega (arith, length-take count (drop from block.values), length-drop from block.values) in
        record {
          within = omega (arith, h.within);
          before = λ x l. value-beside block y x (h.before x l);
          under = λ k l.
              let near : k < count = omega arith in
              let at : d * block.width + (r + k) ≡ from + k = omega arith in
              value-within block y (s.first + k) (r + k) d (offset-more block.x s.first r k right) down (omega arith) (omega arith)
              ∙ ap (λ n. get_or block.values n 0) at ∙ sym (get_or-drop from block.values k 0) ∙ sym (get_or-take count (drop from block.values) k 0 near);
          behind = λ x l m. value-beside block y x (h.after x (omega arith) m);
        }

module _ (block : ValueBlock) (width y first : ℕ) (values : List ℕ) (h : IsRowStretch block width y first values) where
  at_column : (k : ℕ) → k < width → get_or (row (value_at block) width y) k 0 ≡ value_at block k y
  at_column k l = get_or-map-range_with_len (λ x. value_at block x y) 0 width k k 0 l (omega arith)

  at_laid : (n k : ℕ) → n ≡ width - (first + length values) → k < width → get_or (replicate first 0 ++ (values ++ replicate n 0)) k 0 ≡ value_at block k y
  at_laid n k rest l = elim (cases_lt k first) [
    | inl before ↦ early before
    | inr from ↦ elim (cases_lt k (first + length values))
        [ inl inside ↦ within from inside | inr behind ↦ late behind ]
  ]
    where
      early : k < first → get_or (replicate first 0 ++ (values ++ replicate n 0)) k 0 ≡ value_at block k y
      early before =
          let zeros : k < length (replicate first 0) = omega (arith, length-replicate {A = ℕ} first 0) in
          get_or_append_left (replicate first 0) (values ++ replicate n 0) 0 k zeros ∙ get_or-replicate first k 0 0 before ∙ sym (h.before k before)

      past : first ≤ k → get_or (replicate first 0 ++ (values ++ replicate n 0)) k 0 ≡ get_or (values ++ replicate n 0) (k - first) 0
      past from = get_or-append_right (replicate first 0) (values ++ replicate n 0) first k 0 (length-replicate first 0) from

      within : first ≤ k → k < first + length values → get_or (replicate first 0 ++ (values ++ replicate n 0)) k 0 ≡ value_at block k y
      within from inside =
          let at : first + (k - first) ≡ k = omega arith in
          past from ∙ get_or_append_left values (replicate n 0) 0 (k - first) (omega arith) ∙ sym (h.under (k - first) (omega arith))
          ∙ ap (λ x. value_at block x y) at

      late : first + length values ≤ k → get_or (replicate first 0 ++ (values ++ replicate n 0)) k 0 ≡ value_at block k y
      late behind =
          past (omega arith) ∙ get_or-append_right values (replicate n 0) (length values) (k - first) 0 refl (omega arith)
          ∙ get_or-replicate n (k - first - length values) 0 0 (omega arith) ∙ sym (h.behind k behind l)

  length-laid : (n : ℕ) → n ≡ width - (first + length values) → length (replicate first 0 ++ (values ++ replicate n 0)) ≡ width
  length-laid n rest =
      omega (
        arith,
        length-append (replicate first 0) (values ++ replicate n 0),
        length-append values (replicate n 0),
        length-replicate {A = ℕ} first 0,
        length-replicate {A = ℕ} n 0,
        h.within,
      )

  -- a row is the stretch of the block in it, with 0 before and behind
  pub row-is : (n : ℕ) → n ≡ width - (first + length values) → row (value_at block) width y ≡ replicate first 0 ++ (values ++ replicate n 0)
  row-is n rest =
      let long = length-map-range_with_len (λ x. value_at block x y) 0 width in
      ext_get_or 0 (row (value_at block) width y) (replicate first 0 ++ (values ++ replicate n 0)) (long ∙ sym (length-laid n rest)) (λ k l.
      let inside : k < width = omega (arith, long) in
      at_column k inside ∙ sym (at_laid n k rest inside))

-- ---- a row that is pushed
-- a list filled up with 0
filled : (xs : List ℕ) (to len : ℕ) → len ≡ length xs → len ≤ to → take to xs ++ replicate (to - len) 0 ≡ xs ++ replicate (to - len) 0
filled xs to len is l = ap (λ ys. ys ++ replicate (to - len) 0) (take_all to xs (omega arith))

pub row-pushed : (block : ValueBlock) (width y first : ℕ) (values old one two three : List ℕ) (start len long : ℕ) → IsRowStretch block width y first values
    → start ≡ len → len ≡ length old
    → one ≡ take (start + first) old ++ replicate (start + first - len) 0 → two ≡ one ++ values → long ≡ length two
    → three ≡ take (start + width) two ++ replicate (start + width - long) 0 → three ≡ old ++ row (value_at block) width y
row-pushed block width y first values old one two three start len long h same held zeros stretch counted rest =
    let fits = h.within in
    let gap : start + first - len ≡ first = omega arith in
    let begun : start ≡ length old = same ∙ held in
    let one_is : one ≡ old ++ replicate first 0 = rw gap at (zeros ∙ filled old (start + first) len held (omega arith)) in
    let two_is : two ≡ (old ++ replicate first 0) ++ values = stretch ∙ ap (λ xs. xs ++ values) one_is in
    let size : long ≡ start + first + length values =
    omega (
      arith,
      counted,
      ap length two_is,
      length-append (old ++ replicate first 0) values,
      length-append old (replicate first 0),
      length-replicate {A = ℕ} first 0,
      begun,
    ) in
    rest ∙ filled two (start + width) long counted (omega arith) ∙ ap (λ xs. xs ++ replicate (start + width - long) 0) two_is
    ∙ append_assoc (old ++ replicate first 0) values (replicate (start + width - long) 0)
    ∙ append_assoc old (replicate first 0) (values ++ replicate (start + width - long) 0)
    ∙ ap (λ xs. old ++ xs) (sym (row-is block width y first values h (start + width - long) (omega arith)))

-- the list when a step that may fail is done
pub on_ok : {A E : Type 0} (r : Result A E) (new done left target : List ℕ) → new ≡ cond (is_ok r) done left → (new ≡ done → new ≡ target)
    → OnOk r (new ≡ target)
on_ok (Ok x) new done left target e f = f e
on_ok (Err x) new done left target e f = tt
