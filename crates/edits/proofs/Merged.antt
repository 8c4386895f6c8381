-- The join of two differences is a difference.
use Rattle.std.proofs.Common.{◌≡◌, ℕ, zero, suc, ◌-◌, ◌*◌, ◌<◌, ◌≤◌, inl, inr, length, take, drop, List, [], ◌∷◌, ◌++◌, Bool, true, false, cond, nat_eq, get_or}
use Rattle.std.proofs.Common.{Ordering, refl, sym, ap, ◌∙◌, append-nil, append_assoc, arith}
use Rattle.std.specs.declared.cmp.Ordering.TheVariants.{Less, Equal, Greater}
use Rattle.std.specs.Ordering.{is_eq, is_lt, match_ordering, ordering_reverse}
use Rattle.std.proofs.lemmas.Bool.Decides.{nat_tests}
use Rattle.std.proofs.lemmas.Bool.{cases_lt}
use Rattle.std.proofs.lemmas.Cmp.{tied_itself}
use Rattle.region.specs.Cells.{cell_cmp}
use Rattle.region.specs.Equality.{cell_cmp_total}
use Rattle.map_model.specs.declared.edit.CellEdit.{CellEdit}
use Rattle.map_model.specs.declared.parts.MapParts.{MapParts}
use Rattle.map_model.specs.CellEdits.{AreInRowOrder, cell}
use Rattle.map_model.specs.Lists.{Each}
use Rattle.map_model.specs.Lookups.{tiles_in}
use Rattle.map_model.specs.Difference.{edit_at, change_at, difference, difference_in}
use Rattle.edits.specs.Merging.{joined_cell, joined, IsNumberOf}
use Rattle.edits.proofs.Differences.{change_at-same}
use Rattle.edits.proofs.RowOrder.{ComesBefore, Each-ComesBefore, above}

-- ---- the first cells of both lists
module _ (e : CellEdit) (es : List CellEdit) (n : CellEdit) (ns : List CellEdit) where
  pub joined-less : ComesBefore e n → joined (e ∷ es) (n ∷ ns) ≡ e ∷ joined es (n ∷ ns)
  joined-less h = ap (λ o. match_ordering o (e ∷ joined es (n ∷ ns)) (joined_cell e n ++ joined es ns) (n ∷ joined (e ∷ es) ns)) h

  pub joined-equal : cell_cmp (cell e) (cell n) ≡ Equal → joined (e ∷ es) (n ∷ ns) ≡ joined_cell e n ++ joined es ns
  joined-equal h = ap (λ o. match_ordering o (e ∷ joined es (n ∷ ns)) (joined_cell e n ++ joined es ns) (n ∷ joined (e ∷ es) ns)) h

  pub joined-greater : cell_cmp (cell e) (cell n) ≡ Greater → joined (e ∷ es) (n ∷ ns) ≡ n ∷ joined (e ∷ es) ns
  joined-greater h = ap (λ o. match_ordering o (e ∷ joined es (n ∷ ns)) (joined_cell e n ++ joined es ns) (n ∷ joined (e ∷ es) ns)) h

-- ---- cells before others
-- each of the first cells comes before each of the others
abbrev pub AllBefore : List CellEdit → List CellEdit → Type 0
AllBefore ps cs = Each (λ a. Each (ComesBefore a) cs) ps

AllBefore-none : (ps : List CellEdit) → AllBefore ps []
AllBefore-none [] = tt
AllBefore-none (a ∷ ps) = (tt, AllBefore-none ps)

pub AllBefore-one : (ps : List CellEdit) (c : CellEdit) → Each (λ a. ComesBefore a c) ps → AllBefore ps (c ∷ [])
AllBefore-one [] c h = tt
AllBefore-one (a ∷ ps) c h = ((h.0, tt), AllBefore-one ps c h.1)

pub greater : (a b : CellEdit) → ComesBefore a b → cell_cmp (cell b) (cell a) ≡ Greater
greater a b h = cell_cmp_total.antisymm (cell b) (cell a) ∙ ap ordering_reverse h

joined-older : (e : CellEdit) (es ns : List CellEdit) → Each (ComesBefore e) ns → joined (e ∷ es) ns ≡ e ∷ joined es ns
joined-older e es [] h = refl
joined-older e es (n ∷ ns) h = joined-less e es n ns h.0

pub older_first : (ps cs ds : List CellEdit) → AllBefore ps ds → joined (ps ++ cs) ds ≡ ps ++ joined cs ds
older_first [] cs ds h = refl
older_first (a ∷ ps) cs ds h = joined-older a (ps ++ cs) ds h.0 ∙ ap (λ es. a ∷ es) (older_first ps cs ds h.1)

pub newer_first : (bs cs ds : List CellEdit) → AllBefore bs cs → joined cs (bs ++ ds) ≡ bs ++ joined cs ds
newer_first [] cs ds h = refl
newer_first (b ∷ bs) [] ds h = refl
newer_first (b ∷ bs) (c ∷ cs) ds h = joined-greater c cs b (bs ++ ds) (greater b c h.0.0) ∙ ap (λ es. b ∷ es) (newer_first bs (c ∷ cs) ds h.1)

-- cells in front of others are joined in front of them
module _ (cs ds : List CellEdit) (a : CellEdit) (ps : List CellEdit) where
  -- the statement for the cell a and those behind it, and for those alone
  Both : List CellEdit → Type 0
  Both bs = joined (a ∷ (ps ++ cs)) (bs ++ ds) ≡ joined (a ∷ ps) bs ++ joined cs ds

  Rest : List CellEdit → Type 0
  Rest bs = joined (ps ++ cs) (bs ++ ds) ≡ joined ps bs ++ joined cs ds

  one_more : (b : CellEdit) (bs : List CellEdit) → Rest (b ∷ bs) → Rest bs → Both bs → (o : Ordering) → cell_cmp (cell a) (cell b) ≡ o → Both (b ∷ bs)
  unfolding Both Rest
  one_more b bs all rest both Less e =
      joined-less a (ps ++ cs) b (bs ++ ds) e ∙ ap (λ es. a ∷ es) all ∙ ap (λ es. es ++ joined cs ds) (sym (joined-less a ps b bs e))
  one_more b bs all rest both Equal e =
      joined-equal a (ps ++ cs) b (bs ++ ds) e ∙ ap (λ es. joined_cell a b ++ es) rest
      ∙ sym (append_assoc (joined_cell a b) (joined ps bs) (joined cs ds)) ∙ ap (λ es. es ++ joined cs ds) (sym (joined-equal a ps b bs e))
  one_more b bs all rest both Greater e =
      joined-greater a (ps ++ cs) b (bs ++ ds) e ∙ ap (λ es. b ∷ es) both ∙ ap (λ es. es ++ joined cs ds) (sym (joined-greater a ps b bs e))

  all_more : Each (ComesBefore a) ds → ((bs : List CellEdit) → AllBefore bs cs → Rest bs) → (bs : List CellEdit) → AllBefore bs cs → Both bs
  unfolding Both Rest
  all_more h rest [] k = joined-older a (ps ++ cs) ds h ∙ ap (λ es. a ∷ es) (rest [] tt) ∙ ap (λ es. es ++ joined cs ds) (sym (joined-older a ps [] tt))
  all_more h rest (b ∷ bs) k = one_more b bs (rest (b ∷ bs) k) (rest bs k.1) (all_more h rest bs k.1) (cell_cmp (cell a) (cell b)) refl

joined-append : (ps bs cs ds : List CellEdit) → AllBefore ps ds → AllBefore bs cs → joined (ps ++ cs) (bs ++ ds) ≡ joined ps bs ++ joined cs ds
unfolding Both Rest
joined-append [] bs cs ds h k = newer_first bs cs ds k
joined-append (a ∷ ps) bs cs ds h k = all_more cs ds a ps h.0 (λ ns m. joined-append ps ns cs ds h.1 m) bs k

-- where one of the two is at its end, the rest of the other one is left
pub joined-none : (es : List CellEdit) → joined es [] ≡ es
joined-none [] = refl
joined-none (e ∷ es) = ap (λ fs. e ∷ fs) (joined-none es)

-- ---- numbers in a list in row order
module _ (d : CellEdit) where
  in_order-get : (es : List CellEdit) → AreInRowOrder es → (i j : ℕ) → i < j → j < length es → ComesBefore (get_or es i d) (get_or es j d)
  in_order-get [] h i j l m = absurd (omega arith)
  in_order-get (e ∷ []) h i j l m = absurd (omega arith)
  in_order-get (e ∷ (f ∷ es)) h i zero l m = absurd (omega arith)
  in_order-get (e ∷ (f ∷ es)) h zero (suc zero) l m = h.0
  in_order-get (e ∷ (f ∷ es)) h zero (suc (suc j)) l m =
      cell_cmp_total.trans (cell e) (cell f) (cell (get_or (f ∷ es) (suc j) d)) h.0 (in_order-get (f ∷ es) h.1 zero (suc j) (omega arith) (omega arith))
  in_order-get (e ∷ (f ∷ es)) h (suc i) (suc j) l m = in_order-get (f ∷ es) h.1 i j (omega arith) (omega arith)

-- where the last of some cells comes before the newer one, all of them do
pub prefix-ComesBefore : (es : List CellEdit) (n : CellEdit) (end : ℕ) → AreInRowOrder es → end ≤ length es → (0 < end → ComesBefore (get_or es (end - 1) n) n)
    → (k : ℕ) → k < end → ComesBefore (get_or es k n) n
prefix-ComesBefore es n end h l last k below = elim (cases_lt (suc k) end) [
  | inl more ↦ cell_cmp_total.trans (cell (get_or es k n)) (cell (get_or es (end - 1) n)) (cell n)
      (in_order-get n es h k (end - 1) (omega arith) (omega arith)) (last (omega arith))
  | inr all ↦ let same : end - 1 ≡ k = omega arith in rw same at last (omega arith)
]

-- ---- a newer cell, and its number in the older ones
is_eq-Equal : (o : Ordering) → is_eq o ≡ true → o ≡ Equal
is_eq-Equal Less e = cc
is_eq-Equal Equal e = refl
is_eq-Equal Greater e = cc

is_eq-Greater : (o : Ordering) → is_eq o ≡ false → (o ≡ Less → ⊥) → o ≡ Greater
is_eq-Greater Less e h = absurd (h refl)
is_eq-Greater Equal e h = cc
is_eq-Greater Greater e h = refl

-- no first older cell comes before the newer one
abbrev pub HasNoneBefore : List CellEdit → CellEdit → Type 0
HasNoneBefore es n = 0 < length es → cell_cmp (cell (get_or es 0 n)) (cell n) ≡ Less → ⊥

pub first-HasNoneBefore : (es : List CellEdit) (n e : CellEdit) → e ≡ get_or es 0 e → is_lt (cell_cmp (cell e) (cell n)) ≡ false → HasNoneBefore es n
first-HasNoneBefore [] n e is h = λ l. absurd (omega arith)
first-HasNoneBefore (f ∷ es) n e is h = λ l less. let test : is_lt (cell_cmp (cell e) (cell n)) ≡ true = ap (λ g. is_lt (cell_cmp (cell g) (cell n))) is
    ∙ ap is_lt less in cc

module _ (n : CellEdit) where
  IsNumberOf-rest : (e : CellEdit) (es : List CellEdit) (number : ℕ) → IsNumberOf (e ∷ es) n (suc number) → IsNumberOf es n number
  IsNumberOf-rest e es number h = record { within = omega (arith, h.within); prefix = λ k l. h.prefix (suc k) (omega arith); back = λ l. h.back (omega arith) }

  pub drop-HasNoneBefore : (number : ℕ) (es : List CellEdit) → IsNumberOf es n number → HasNoneBefore (drop number es) n
  drop-HasNoneBefore zero es h = h.back
  drop-HasNoneBefore (suc number) [] h = absurd (omega (arith, h.within))
  drop-HasNoneBefore (suc number) (e ∷ es) h = drop-HasNoneBefore number es (IsNumberOf-rest e es number h)

  module _ (ns : List CellEdit) where
    -- the cells up to its number come first
    pub joined-prefix : (number : ℕ) (es : List CellEdit) → IsNumberOf es n number → joined es (n ∷ ns) ≡ take number es ++ joined (drop number es) (n ∷ ns)
    joined-prefix zero es h = refl
    joined-prefix (suc number) [] h = absurd (omega (arith, h.within))
    joined-prefix (suc number) (e ∷ es) h =
        joined-less e es n ns (h.prefix 0 (omega arith)) ∙ ap (λ fs. e ∷ fs) (joined-prefix number es (IsNumberOf-rest e es number h))

    -- the older change has the cell
    pub joined-met : (es : List CellEdit) (e f : CellEdit) → 0 < length es → e ≡ get_or es 0 e → f ≡ get_or es 0 f → is_eq (cell_cmp (cell f) (cell n)) ≡ true
        → joined es (n ∷ ns) ≡ joined_cell e n ++ joined (drop 1 es) ns
    joined-met [] e f l read tested h = absurd (omega arith)
    joined-met (g ∷ es) e f l read tested h =
        joined-equal g es n ns (ap (λ m. cell_cmp (cell m) (cell n)) (sym tested) ∙ is_eq-Equal (cell_cmp (cell f) (cell n)) h)
        ∙ ap (λ m. joined_cell m n ++ joined es ns) (sym read)

    -- it has not
    pub joined-unmet : (es : List CellEdit) → HasNoneBefore es n
        → (0 < length es → (f : CellEdit) × (f ≡ get_or es 0 f) × (is_eq (cell_cmp (cell f) (cell n)) ≡ false))
        → joined es (n ∷ ns) ≡ n ∷ joined es ns
    joined-unmet [] h other = refl
    joined-unmet (g ∷ es) h other =
        let o = other (omega arith) in
        joined-greater g es n ns (is_eq-Greater (cell_cmp (cell g) (cell n)) (ap (λ m. is_eq (cell_cmp (cell m) (cell n))) (sym o.1) ∙ o.2) (h (omega arith)))

-- some more cells are done
pub done_more : (a t rest x whole one : List CellEdit) → one ≡ a ++ t → a ++ x ≡ whole → x ≡ t ++ rest → one ++ rest ≡ whole
done_more a t rest x whole one e f g = ap (λ z. z ++ rest) e ∙ append_assoc a t rest ∙ ap (λ z. a ++ z) (sym g) ∙ f

-- ---- one number
joined-change_at : (width number a b c : ℕ) → joined (change_at width number a b) (change_at width number b c) ≡ change_at width number a c
joined-change_at width number a b c = by_tests (nat_eq a b) (nat_eq b c) refl refl
  where
    here : ℕ → ℕ → CellEdit
    here v w = edit_at width number v w

    differs : (v w : ℕ) → nat_eq v w ≡ false → edit_at width number v w ∷ [] ≡ change_at width number v w
    differs v w e = rw e refl

    by_tests : (s t : Bool) → nat_eq a b ≡ s → nat_eq b c ≡ t
        → joined (cond s [] (edit_at width number a b ∷ [])) (cond t [] (edit_at width number b c ∷ [])) ≡ change_at width number a c
    by_tests true true e f = sym (change_at-same width number a c (grind (arith, nat_tests)))
    by_tests true false e f = let same : b ≡ a = grind (arith, nat_tests) in differs b c f ∙ ap (λ v. change_at width number v c) same
    by_tests false true e f = let same : b ≡ c = grind (arith, nat_tests) in differs a b e ∙ ap (λ v. change_at width number a v) same
    by_tests false false e f =
        joined-equal (edit_at width number a b) [] (edit_at width number b c) [] (tied_itself cell_cmp_total (cell (edit_at width number a b)))
        ∙ append-nil (change_at width number a c)

-- ---- differences
AllBefore-change_at : (width : ℕ) (xs ys : List ℕ) (k a b : ℕ) → 0 < width → AllBefore (difference width xs ys k) (change_at width k a b)
AllBefore-change_at width xs ys k a b some = by_test (nat_eq a b)
  where
    by_test : (t : Bool) → AllBefore (difference width xs ys k) (cond t [] (edit_at width k a b ∷ []))
    by_test true = AllBefore-none (difference width xs ys k)
    by_test false =
        AllBefore-one (difference width xs ys k) (edit_at width k a b)
        (Each-ComesBefore width k a b (difference width xs ys k) some (above width xs ys some k))

-- the join of the difference of xs and ys and of that of ys and zs is the difference of xs and zs
pub joined-difference : (width : ℕ) (xs ys zs : List ℕ) (k : ℕ) → 0 < width
    → joined (difference width xs ys k) (difference width ys zs k) ≡ difference width xs zs k
joined-difference width xs ys zs zero some = refl
joined-difference width xs ys zs (suc k) some =
    let x = get_or xs k 0 in
    let y = get_or ys k 0 in
    let z = get_or zs k 0 in
    joined-append (difference width xs ys k) (difference width ys zs k) (change_at width k x y) (change_at width k y z)
    (AllBefore-change_at width xs ys k y z some) (AllBefore-change_at width ys zs k x y some)
    ∙ ap (λ es. es ++ joined (change_at width k x y) (change_at width k y z)) (joined-difference width xs ys zs k some)
    ∙ ap (λ es. difference width xs zs k ++ es) (joined-change_at width k x y z)

-- two differences between three maps of one size, joined, are the difference across both
pub joined-difference_in : (id : ℕ) (l m n : MapParts) → 0 < l.width → m.width ≡ l.width → m.height ≡ l.height
    → joined (difference_in id l m) (difference_in id m n) ≡ difference_in id l n
joined-difference_in id l m n some wide high =
    let w = l.width in
    ap (λ v. joined (difference_in id l m) (difference v (tiles_in m id) (tiles_in n id) (v * m.height))) wide
    ∙ ap (λ h. joined (difference_in id l m) (difference w (tiles_in m id) (tiles_in n id) (w * h))) high
    ∙ joined-difference w (tiles_in l id) (tiles_in m id) (tiles_in n id) (w * l.height) some
