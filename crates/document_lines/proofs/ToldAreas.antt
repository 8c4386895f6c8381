-- Areas that hold cells, and areas that hold others.
use Rattle.std.proofs.Common.{◌≡◌, ℕ, zero, suc, ◌+◌, ◌-◌, ◌<◌, ◌≤◌, ℤ, pos, negsuc, ◌+ℤ◌, ◌-ℤ◌, ◌≤ℤ◌, List, [], ◌∷◌, length, get_or, take, Bool}
use Rattle.std.proofs.Common.{true, false, ◌&&◌, cond}
use Rattle.std.proofs.Common.{Some, None, IsTrue, refl, sym, ap, subst, arith}
use Rattle.std.specs.Prelude.{nat_le, nat_lt, unsigned_abs}
use Rattle.std.specs.Int.{FitsUnsignedBits}
use Rattle.std.specs.List.{slice_get}
use Rattle.std.specs.declared.cmp.Ordering.TheVariants.{Less}
use Rattle.std.proofs.lemmas.Bool.Decides.{nat_tests}
use Rattle.std.proofs.lemmas.Int.{ints}
use Rattle.region.specs.Cells.{cell_cmp}
use Rattle.map_model.specs.declared.edit.CellEdit.{CellEdit}
use Rattle.map_model.specs.declared.limits.TheConstants.{MAX_SIDE}
use Rattle.map_model.specs.CellEdits.{AreInRowOrder, cell}
use Rattle.map_model.specs.Lists.{Each}
use Rattle.edits.specs.declared.area.Area.{Area}
use Rattle.edits.specs.Blocks.{in_area, is_below, offset}

-- ---- columns, or rows, from one on
pub from-below : (first at count : ℕ) → first ≤ at → at < first + count → IsTrue (is_below (offset (pos first) at) count)
from-below first at count l h =
    let behind : nat_le first at ≡ true = grind (arith, nat_tests) in
    let below : nat_lt (at - first) count ≡ true = grind (arith, nat_tests) in
    rw behind below

below-from : (first at count : ℕ) → IsTrue (is_below (offset (pos first) at) count) → (first ≤ at) × (at < first + count)
below-from first at count h = by_test (nat_le first at) refl h
  where
    by_test : (b : Bool) → nat_le first at ≡ b → IsTrue (is_below (cond b (Some (at - first)) None) count) → (first ≤ at) × (at < first + count)
    by_test true e k =
        let l : first ≤ at = grind (arith, nat_tests) in
        let m : at - first < count = grind (arith, nat_tests) in
        (l, omega arith)
    by_test false e k = absurd (let worse : ⊥ = cc in worse)

-- columns that begin no later and end no earlier than others hold those
pub joined-below : (from first : ℤ) (count joined : ℕ) (end : ℤ) → first ≤ℤ from → (from +ℤ pos count) ≤ℤ end → pos joined ≡ end -ℤ first → (at : ℕ)
    → IsTrue (is_below (offset from at) count) → IsTrue (is_below (offset first at) joined)
joined-below (pos s) (pos t) count joined end low high e at h =
    let own = below-from s at count h in
    from-below t at joined (omega (arith, ints, own.0)) (omega (arith, ints, own.0, own.1))
joined-below (pos s) (negsuc t) count joined end low high e at h =
    let own = below-from s at count h in
    let l : at + (t + 1) < joined = omega (arith, ints, own.0, own.1) in
    grind (arith, nat_tests)
joined-below (negsuc s) (pos t) count joined end low high e at h = absurd (omega (arith, ints))
joined-below (negsuc s) (negsuc t) count joined end low high e at h =
    let own : at + (s + 1) < count = grind (arith, nat_tests) in
    let l : at + (t + 1) < joined = omega (arith, ints) in
    grind (arith, nat_tests)

pub both-true : (a b p q : Bool) → (IsTrue a → IsTrue p) → (IsTrue b → IsTrue q) → IsTrue (a && b) → IsTrue (p && q)
both-true true true p q f g h = let one = f refl in let other = g refl in rw one other
both-true true false p q f g h = cc
both-true false b p q f g h = cc

-- the number that a conversion gives is the one that it was given
pub counted : (z : ℤ) (n : ℕ) → FitsUnsignedBits 32 z → n ≡ unsigned_abs z → pos n ≡ z
counted (pos k) n fits e = ap pos e
counted (negsuc k) n fits e = absurd fits

-- an area whose columns and rows hold those of another one
pub area-holds : (own area : Area) (x y first top : ℤ) → x ≡ own.x → y ≡ own.y → area.x ≡ first → area.y ≡ top
    → ((at : ℕ) → IsTrue (is_below (offset x at) own.width) → IsTrue (is_below (offset first at) area.width))
    → ((at : ℕ) → IsTrue (is_below (offset y at) own.height) → IsTrue (is_below (offset top at) area.height))
    → (column row : ℕ) → IsTrue (in_area own column row) → IsTrue (in_area area column row)
area-holds own area x y first top ex ey ef et columns rows column row h =
    both-true (is_below (offset own.x column) own.width) (is_below (offset own.y row) own.height)
    (is_below (offset area.x column) area.width) (is_below (offset area.y row) area.height)
    (λ k. subst (λ z. IsTrue (is_below (offset z column) area.width)) (sym ef)
    (columns column (subst (λ z. IsTrue (is_below (offset z column) own.width)) (sym ex) k)))
    (λ k. subst (λ z. IsTrue (is_below (offset z row) area.height)) (sym et)
    (rows row (subst (λ z. IsTrue (is_below (offset z row) own.height)) (sym ey) k)))
    h

-- ---- lists of cells
pub Each-follows : (P Q : CellEdit → Type 0) → ((e : CellEdit) → P e → Q e) → (es : List CellEdit) → Each P es → Each Q es
Each-follows P Q f [] h = tt
Each-follows P Q f (e ∷ es) h = (f e h.0, Each-follows P Q f es h.1)

Each-both : (P Q R : CellEdit → Type 0) → ((e : CellEdit) → P e → Q e → R e) → (es : List CellEdit) → Each P es → Each Q es → Each R es
Each-both P Q R f [] h k = tt
Each-both P Q R f (e ∷ es) h k = (f e h.0 k.0, Each-both P Q R f es h.1 k.1)

-- the column of the cell is one of these
abbrev pub IsBetween : ℕ → ℕ → CellEdit → Type 0
IsBetween left right e = (left ≤ e.x) × (e.x ≤ right)

-- one cell more
pub between-more : (left right wider_left wider_right : ℕ) (d : CellEdit) → wider_left ≤ left → right ≤ wider_right → (es : List CellEdit) (i : ℕ)
    → i < length es
    → IsBetween wider_left wider_right (get_or es i d) → Each (IsBetween left right) (take i es)
    → Each (IsBetween wider_left wider_right) (take (suc i) es)
between-more left right wider_left wider_right d low high [] i l new h = absurd (omega arith)
between-more left right wider_left wider_right d low high (e ∷ es) zero l new h = (new, tt)
between-more left right wider_left wider_right d low high (e ∷ es) (suc i) l new h =
    ((omega (arith, h.0.0), omega (arith, h.0.1)), between-more left right wider_left wider_right d low high es i (omega arith) new h.1)

pub between-all : (left right : ℕ) (es : List CellEdit) (n : ℕ) → length es ≤ n → Each (IsBetween left right) (take n es) → Each (IsBetween left right) es
between-all left right [] n l h = tt
between-all left right (e ∷ es) zero l h = absurd (omega arith)
between-all left right (e ∷ es) (suc n) l h = (h.0, between-all left right es n (omega arith) h.1)

-- ---- rows
row-later : (p q : ℕ × ℕ) → cell_cmp p q ≡ Less → p.1 ≤ q.1
row-later p q e = grind (arith, nat_tests)

rows-from : (top : ℕ) (e : CellEdit) (es : List CellEdit) → top ≤ e.y → AreInRowOrder (e ∷ es) → Each (λ f. top ≤ f.y) (e ∷ es)
rows-from top e [] l h = (l, tt)
rows-from top e (f ∷ es) l h = let later = row-later (cell e) (cell f) h.0 in (l, rows-from top f es (omega arith) h.1)

rows-to : (last e : CellEdit) (es : List CellEdit) → slice_get (e ∷ es) (length es) ≡ Some last → AreInRowOrder (e ∷ es) → Each (λ f. f.y ≤ last.y) (e ∷ es)
rows-to last e [] g h = let same : e ≡ last = cc in let row : e.y ≡ last.y = ap (λ (f : CellEdit). f.y) same in (omega arith, tt)
rows-to last e (f ∷ es) g h =
    let rest = rows-to last f es g h.1 in
    let later = row-later (cell e) (cell f) h.0 in
    let below = rest.0 in
    (omega arith, rest)

-- cells in row order lie in the rows from the first one's to the last one's
pub rows-between : (first last : CellEdit) (es : List CellEdit) → slice_get es 0 ≡ Some first → slice_get es (length es - 1) ≡ Some last → AreInRowOrder es
    → Each (λ e. (first.y ≤ e.y) × (e.y ≤ last.y)) es
rows-between first last [] f g h = tt
rows-between first last (e ∷ es) f g h =
    let same : e ≡ first = cc in
    let row : e.y ≡ first.y = ap (λ (c : CellEdit). c.y) same in
    let count : length (e ∷ es) - 1 ≡ length es = omega arith in
    Each-both (λ c. first.y ≤ c.y) (λ c. c.y ≤ last.y) (λ c. (first.y ≤ c.y) × (c.y ≤ last.y)) (λ c a b. (a, b)) (e ∷ es)
    (rows-from first.y e es (omega arith) h) (rows-to last e es (rw count at g) h)

pub none-first : (Q : CellEdit → Type 0) (es : List CellEdit) → slice_get es 0 ≡ None → Each Q es
none-first Q [] e = tt
none-first Q (c ∷ es) e = cc

pub none-last : (Q : CellEdit → Type 0) (es : List CellEdit) → slice_get es (length es - 1) ≡ None → Each Q es
none-last Q [] e = tt
none-last Q (c ∷ es) e = absurd (by_rest es c (let count : length (c ∷ es) - 1 ≡ length es = omega arith in rw count at e))
  where
    by_rest : (ds : List CellEdit) (d : CellEdit) → slice_get (d ∷ ds) (length ds) ≡ None → ⊥
    by_rest [] d g = cc
    by_rest (b ∷ ds) d g = by_rest ds b g

-- the area from the first to the last column and row holds the cells between them
pub holds-between : (left right top bottom : ℕ) (area : Area) → area.x ≡ pos left → area.y ≡ pos top → area.width ≡ right - left + 1
    → area.height ≡ bottom - top + 1 → (es : List CellEdit) → Each (λ e. e.x < MAX_SIDE → (left ≤ e.x) × (e.x ≤ right)) es
    → Each (λ e. e.x < MAX_SIDE → top ≤ e.y → e.y ≤ bottom → IsTrue (in_area area e.x e.y)) es
holds-between left right top bottom area ex ey wide high =
    Each-follows (λ e. e.x < MAX_SIDE → (left ≤ e.x) × (e.x ≤ right)) (λ e. e.x < MAX_SIDE → top ≤ e.y → e.y ≤ bottom → IsTrue (in_area area e.x e.y))
    (λ e between small above below.
    let column : IsTrue (is_below (offset area.x e.x) area.width) =
    rw ex (from-below left e.x area.width (between small).0 (omega (arith, wide, (between small).0, (between small).1))) in
    let row : IsTrue (is_below (offset area.y e.y) area.height) = rw ey (from-below top e.y area.height above (omega (arith, high))) in
    rw column row)

-- the cells of a layer in an area hold those in its rows
pub holds-rows : (layer : ℕ) (area : Area) (first last : CellEdit) (es : List CellEdit) → slice_get es 0 ≡ Some first → slice_get es (length es - 1) ≡ Some last
    → AreInRowOrder es → Each (λ e. e.x < MAX_SIDE → first.y ≤ e.y → e.y ≤ last.y → IsTrue (in_area area e.x e.y)) es
    → Each (λ e. e.x < MAX_SIDE → (layer ≡ layer) × IsTrue (in_area area e.x e.y)) es
holds-rows layer area first last es f g ordered held =
    Each-both (λ e. (first.y ≤ e.y) × (e.y ≤ last.y)) (λ e. e.x < MAX_SIDE → first.y ≤ e.y → e.y ≤ last.y → IsTrue (in_area area e.x e.y))
    (λ e. e.x < MAX_SIDE → (layer ≡ layer) × IsTrue (in_area area e.x e.y)) (λ e rows inside small. (refl, inside small rows.0 rows.1)) es
    (rows-between first last es f g ordered) held
