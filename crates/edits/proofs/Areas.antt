-- The cells of a map that lie in an area.
use Rattle.std.proofs.Common.{◌≡◌, inl, inr, ℕ, ℤ, ◌+◌, ◌-◌, ◌≤◌, ◌<◌, Bool, true, false, ◌&&◌, nat_lt, Result, Ok, Err, IfOk, refl, sym, ap, subst}
use Rattle.std.proofs.Common.{◌∙◌, arith}
use Rattle.std.proofs.lemmas.Bool.{or_cases}
use Rattle.std.specs.Prelude.{nat_le}
use Rattle.std.specs.FinSet as set
use Rattle.std.specs.declared.alloc.AllocError.{AllocError}
use Rattle.std.proofs.lemmas.Bool.Decides.{nat_tests}
use Rattle.region.specs.Cells.{cell_cmp, in_rectangle, rectangle}
use Rattle.region.specs.Equality.{cell_cmp_total}
use Rattle.region.proofs.Members.{cell_cmp-same, contains-rectangle}
use Rattle.map_model.specs.declared.parts.MapParts.{MapParts}
use Rattle.map_model.specs.declared.selection.SelectionMode.{SelectionMode}
use Rattle.map_model.specs.declared.selection.SelectionMode.TheVariants.{Replace, Add, Subtract, Intersect}
use Rattle.map_model.specs.Document.{DocumentParts, IsDocument, IsSelectionOf}
use Rattle.edits.specs.declared.area.Area.{Area}
use Rattle.edits.specs.declared.span.Span.{Span}
use Rattle.edits.specs.Blocks.{offset, is_below, in_area, IsSpan}
use Rattle.edits.specs.Selecting.{cells_in, combined}

contains-cells_in : (m : MapParts) (a : Area) (q : ℕ × ℕ) → set.contains (cells_in m a) q ≡ (in_rectangle 0 0 m.width m.height q && in_area a q.0 q.1)
contains-cells_in m a q =
    set.contains-retain (rectangle 0 0 m.width m.height) (λ p. in_area a p.0 p.1) q (λ p e. ap (λ (r : ℕ × ℕ). in_area a r.0 r.1) (sym (cell_cmp-same q p e)))
    ∙ ap (λ b. b && in_area a q.0 q.1) (contains-rectangle 0 0 m.width m.height q)

-- a column or a row of the map lies in the span exactly where it lies under the area
is_below-span : (start : ℤ) (size limit : ℕ) (s : Span) → IsSpan start size limit s → (at : ℕ)
    → (nat_le s.first at && nat_lt at (s.first + (s.end - s.first))) ≡ (nat_lt at limit && is_below (offset start at) size)
is_below-span start size limit s h at = by_tests (nat_lt at s.first) (nat_lt at s.end) (nat_lt at limit) refl refl refl
  where
    early : at < s.first → (nat_le s.first at && nat_lt at (s.first + (s.end - s.first))) ≡ false
    early l = grind (arith, nat_tests)

    inside : s.first ≤ at → at < s.end → (nat_le s.first at && nat_lt at (s.first + (s.end - s.first))) ≡ true
    inside l k = grind (arith, nat_tests)

    late : s.end ≤ at → (nat_le s.first at && nat_lt at (s.first + (s.end - s.first))) ≡ false
    late l = let o = h.ordered in grind (arith, nat_tests)

    and_false : (a : Bool) → false ≡ (a && false)
    and_false true = refl
    and_false false = refl

    by_tests : (a b c : Bool) → nat_lt at s.first ≡ a → nat_lt at s.end ≡ b → nat_lt at limit ≡ c
        → (nat_le s.first at && nat_lt at (s.first + (s.end - s.first))) ≡ (nat_lt at limit && is_below (offset start at) size)
    by_tests true b c p q r = let l : at < s.first = grind (arith, nat_tests) in early l ∙ and_false (nat_lt at limit)
        ∙ ap (λ t. nat_lt at limit && t) (sym (h.before at l))
    by_tests false true c p q r =
        let l : s.first ≤ at = grind (arith, nat_tests) in
        let k : at < s.end = grind (arith, nat_tests) in
        let w = h.within in
        let m : nat_lt at limit ≡ true = grind (arith, nat_tests) in
        inside l k ∙ sym (h.under at l k) ∙ ap (λ t. t && is_below (offset start at) size) (sym m)
    by_tests false false true p q r =
        let k : s.end ≤ at = grind (arith, nat_tests) in
        let l : at < limit = grind (arith, nat_tests) in
        late k ∙ and_false (nat_lt at limit) ∙ ap (λ t. nat_lt at limit && t) (sym (h.after at k l))
    by_tests false false false p q r = let k : s.end ≤ at = grind (arith, nat_tests) in late k ∙ ap (λ t. t && is_below (offset start at) size) (sym r)

shuffled : (w h a b : Bool) → ((w && a) && (h && b)) ≡ ((w && h) && (a && b))
shuffled true true a b = refl
shuffled true false true b = refl
shuffled true false false b = refl
shuffled false h a b = refl

whole_map : (m : MapParts) (q : ℕ × ℕ) → (nat_lt q.0 m.width && nat_lt q.1 m.height) ≡ in_rectangle 0 0 m.width m.height q
whole_map m q = grind (arith, nat_tests)

-- the cells of the two spans
pub in_rectangle-spans : (m : MapParts) (a : Area) (columns rows : Span) → IsSpan a.x a.width m.width columns → IsSpan a.y a.height m.height rows → (q : ℕ × ℕ)
    → in_rectangle columns.first rows.first (columns.end - columns.first) (rows.end - rows.first) q ≡ set.contains (cells_in m a) q
in_rectangle-spans m a columns rows cs rs q =
    ap (λ b. b && (nat_le rows.first q.1 && nat_lt q.1 (rows.first + (rows.end - rows.first)))) (is_below-span a.x a.width m.width columns cs q.0)
    ∙ ap (λ b. (nat_lt q.0 m.width && is_below (offset a.x q.0) a.width) && b) (is_below-span a.y a.height m.height rows rs q.1)
    ∙ shuffled (nat_lt q.0 m.width) (nat_lt q.1 m.height) (is_below (offset a.x q.0) a.width) (is_below (offset a.y q.1) a.height)
    ∙ ap (λ b. b && in_area a q.0 q.1) (whole_map m q)
    ∙ sym (contains-cells_in m a q)

-- a set with these cells is the one of the area
pub cells_in-rectangle : (m : MapParts) (a : Area) (columns rows : Span) (o : Result (set.FinSet cell_cmp) AllocError) → IsSpan a.x a.width m.width columns
    → IsSpan a.y a.height m.height rows
    → IfOk o (λ s. (q : ℕ × ℕ) → set.contains s q ≡ in_rectangle columns.first rows.first (columns.end - columns.first) (rows.end - rows.first) q)
    → IfOk o (λ s. s ≡ cells_in m a)
cells_in-rectangle m a columns rows (Ok s) cs rs h = set.same_set cell_cmp_total cell_cmp-same s (cells_in m a)
    (λ q. h q ∙ in_rectangle-spans m a columns rows cs rs q)
cells_in-rectangle m a columns rows (Err e) cs rs h = tt

-- ---- selections
and_right : (a b : Bool) → (a && b) ≡ true → b ≡ true
and_right true b e = e
and_right false b e = cc

and_left : (a b : Bool) → (a && b) ≡ true → a ≡ true
and_left true b e = refl
and_left false b e = e

in_map : (m : MapParts) (q : ℕ × ℕ) → in_rectangle 0 0 m.width m.height q ≡ true → (q.0 < m.width) × (q.1 < m.height)
in_map m q e = let both = whole_map m q ∙ e in (column (and_left _ _ both), row (and_right _ _ both))
  where
    column : nat_lt q.0 m.width ≡ true → q.0 < m.width
    column t = grind (arith, nat_tests)

    row : nat_lt q.1 m.height ≡ true → q.1 < m.height
    row t = grind (arith, nat_tests)

cells_in-IsSelectionOf : (m : MapParts) (a : Area) → IsSelectionOf m (cells_in m a)
cells_in-IsSelectionOf m a q e = in_map m q (and_left _ _ (sym (contains-cells_in m a q) ∙ e))

combined-IsSelectionOf : (m : MapParts) (mode : SelectionMode) (s t : set.FinSet cell_cmp) → IsSelectionOf m s → IsSelectionOf m t
    → IsSelectionOf m (combined mode s t)
combined-IsSelectionOf m Replace s t h k q e = k q e
combined-IsSelectionOf m Add s t h k q e = elim (or_cases _ _ (sym (set.contains-union cell_cmp_total s t q) ∙ e)) [ inl one ↦ h q one | inr one ↦ k q one ]
combined-IsSelectionOf m Subtract s t h k q e = h q (and_left _ _ (sym (set.contains-difference cell_cmp_total s t q) ∙ e))
combined-IsSelectionOf m Intersect s t h k q e = h q (and_left _ _ (sym (set.contains-intersection cell_cmp_total s t q) ∙ e))

-- a selection of the map and cells in an area lead to one of the map
pub combined-selected : (d : DocumentParts) (m : MapParts) (mode : SelectionMode) (a : Area) (s t : set.FinSet cell_cmp)
    (o : Result (set.FinSet cell_cmp) AllocError) → IsDocument d → s ≡ d.selection → m ≡ d.map
    → t ≡ cells_in m a → IfOk o (λ r. r ≡ combined mode s t) → IfOk o (IsSelectionOf d.map)
combined-selected d m mode a s t (Ok r) h own same cells is =
    let own_is : IsSelectionOf d.map s = subst (IsSelectionOf d.map) (sym own) h.selection in
    let cells_are : IsSelectionOf d.map t = subst (IsSelectionOf d.map) (sym (cells ∙ ap (λ n. cells_in n a) same)) (cells_in-IsSelectionOf d.map a) in
    subst (IsSelectionOf d.map) (sym is) (combined-IsSelectionOf d.map mode s t own_is cells_are)
combined-selected d m mode a s t (Err e) h own same cells is = tt
