-- Runs that are moved and cut.
use Rattle.std.proofs.Common.{◌≡◌, ℕ, suc, ◌+◌, ◌-◌, ◌<◌, ◌≤◌, inl, inr, Bool, true, false, ◌&&◌, ◌||◌, nat_eq, nat_lt, List, [], ◌∷◌, ◌++◌, length, drop}
use Rattle.std.proofs.Common.{get_or, drop-cons, Option, Some, None, IfSome, refl, sym, ap, subst, ◌∙◌, arith, ℤ, pos, negsuc, ◌+ℤ◌, ◌-ℤ◌, ◌≤ℤ◌, ◌<ℤ◌}
use Rattle.std.specs.Prelude.{nat_le}
use Rattle.std.proofs.lemmas.Bool.Decides.{nat_tests}
use Rattle.std.proofs.lemmas.Int.{ints, to_z-of_z}
use mir.Syntax.{w32}
use mir.Val.{SFits, of_z, to_z}
use Rattle.region.specs.declared.runs.Run.{Run}
use Rattle.region.specs.Runs.{IsRun, in_runs}
use Rattle.std.specs.List.{list_any}
use Rattle.region.specs.Cells.{has_at, in_moved_cut, set_of}
use Rattle.region.specs.Runs.{IsMaximalRuns, EndsBefore, EndsBeforeAll}
use Rattle.region.specs.Walks.{LiesWithinMoved, in_run_at, in_moved_run, in_moved_runs}
use Rattle.std.specs.Option.{option_to_list}
use Rattle.region.specs.Walks.{in_option}
use Rattle.region.proofs.Members.{contains-set_of}
use Rattle.region.proofs.Order.{EndsBeforeAll-later, IsMaximalRuns-drop, append_none, in_option-list}
use Rattle.region.proofs.Pushes.{IsMaximalRuns-push}

-- a moved column that is cut: what `moved_column` answers
pub record IsMovedColumn (column : ℕ) (by : ℤ) (limit r : ℕ) : Type 0 where
  pub within : r ≤ limit
  pub behind : (k : ℕ) → k < limit → r ≤ k → (pos column +ℤ by) ≤ℤ pos k
  pub before : (k : ℕ) → k < r → pos k <ℤ (pos column +ℤ by)

-- a moved column, by a move that was written as 32 bits and read back
pub read_back : (column : ℕ) (by : ℤ) (limit r : ℕ) → SFits w32 by → IsMovedColumn column (to_z w32 (of_z w32 by)) limit r → IsMovedColumn column by limit r
read_back column by limit r f h = subst (λ (z : ℤ). IsMovedColumn column z limit r) (to_z-of_z w32 by f) h

-- a column in the moved and cut columns is one that is in the columns when it is moved back
same_column : (k x c l w s e : ℕ) (by : ℤ) → pos x ≡ pos k -ℤ by → IsMovedColumn c by w s → IsMovedColumn (c + l) by w e
    → (nat_le s k && nat_lt k e) ≡ (nat_lt k w && (nat_le c x && nat_lt x (c + l)))
same_column k x c l w s e by is first last =
    let a = first.behind k in
    let b = first.before k in
    let d = last.behind k in
    let f = last.before k in
    let g = last.within in
    grind (arith, nat_tests, ints)

no_columns : (k n c l w s e : ℕ) (by : ℤ) → negsuc n ≡ pos k -ℤ by → IsMovedColumn c by w s → IsMovedColumn (c + l) by w e
    → (nat_le s k && nat_lt k e) ≡ false
no_columns k n c l w s e by is first last =
    let a = first.behind k in
    let d = last.before k in
    let g = last.within in
    grind (arith, nat_tests, ints)

same_row : (k y r h m : ℕ) (by : ℤ) → pos y ≡ pos k -ℤ by → m < h → pos m ≡ pos r +ℤ by → nat_eq m k ≡ (nat_lt k h && nat_eq r y)
same_row k y r h m by is l e = grind (arith, nat_tests, ints)

no_rows : (k n r m : ℕ) (by : ℤ) → negsuc n ≡ pos k -ℤ by → pos m ≡ pos r +ℤ by → nat_eq m k ≡ false
no_rows k n r m by is e = grind (arith, nat_tests, ints)

and_false : (a : Bool) → false ≡ (a && false)
and_false true = refl
and_false false = refl

shuffled : (w h y c : Bool) → ((h && y) && (w && c)) ≡ ((w && h) && (y && c))
shuffled true true y c = refl
shuffled true false y c = refl
shuffled false true true c = refl
shuffled false true false c = refl
shuffled false false y c = refl

-- the cells of a row m that lie in the columns from s up to e are those of the moved and cut run
module _ (r : Run) (dx dy : ℤ) (w h m s e : ℕ) (in_rows : m < h) (row : pos m ≡ pos r.y +ℤ dy)
    (start : IsMovedColumn r.x dx w s) (end : IsMovedColumn (r.x + r.len) dx w e) where
  by_signs : (q : ℕ × ℕ) (a b : ℤ) → a ≡ pos q.0 -ℤ dx → b ≡ pos q.1 -ℤ dy
      → (nat_eq m q.1 && (nat_le s q.0 && nat_lt q.0 e)) ≡ ((nat_lt q.0 w && nat_lt q.1 h) && in_run_at r a b)
  by_signs q (pos x) (pos y) i j =
      ap (λ t. t && (nat_le s q.0 && nat_lt q.0 e)) (same_row q.1 y r.y h m dy j in_rows row)
      ∙ ap (λ t. (nat_lt q.1 h && nat_eq r.y y) && t) (same_column q.0 x r.x r.len w s e dx i start end)
      ∙ shuffled (nat_lt q.0 w) (nat_lt q.1 h) (nat_eq r.y y) (nat_le r.x x && nat_lt x (r.x + r.len))
  by_signs q (pos x) (negsuc n) i j =
      ap (λ t. t && (nat_le s q.0 && nat_lt q.0 e)) (no_rows q.1 n r.y m dy j row) ∙ and_false (nat_lt q.0 w && nat_lt q.1 h)
  by_signs q (negsuc n) b i j =
      ap (λ t. nat_eq m q.1 && t) (no_columns q.0 n r.x r.len w s e dx i start end)
      ∙ sym (and_false (nat_eq m q.1)) ∙ and_false (nat_lt q.0 w && nat_lt q.1 h)

  pub moved_cells : (q : ℕ × ℕ) → (nat_eq m q.1 && (nat_le s q.0 && nat_lt q.0 e)) ≡ in_moved_run r dx dy w h q
  moved_cells q = by_signs q (pos q.0 -ℤ dx) (pos q.1 -ℤ dy) refl refl

-- and the run of those columns lies within the moved one
pub moved_within : (r : Run) (dx dy : ℤ) (w m s e : ℕ) → pos m ≡ pos r.y +ℤ dy → IsMovedColumn r.x dx w s → IsMovedColumn (r.x + r.len) dx w e → s < e
    → LiesWithinMoved dx dy (record { y = m; x = s; len = e - s }) r
moved_within r dx dy w m s e row start end l =
    let last : e - 1 < e = omega arith in
    let sum : s + (e - s) ≡ e = omega arith in
    let inside : s < w = omega (arith, end.within) in
    let from : (pos r.x +ℤ dx) ≤ℤ pos s = start.behind s inside (omega arith) in
    let to : pos (e - 1) <ℤ (pos (r.x + r.len) +ℤ dx) = end.before (e - 1) last in
    record { row = row; start = from; end = omega (arith, ints, to, sum, l); some = omega arith }

-- ---- a walk over the runs
-- what lies within one of the runs, once it is moved, may be put at the end
abbrev pub IsClear : ℤ → ℤ → List Run → List Run → Type 0
IsClear dx dy out [] = Unit {0}
IsClear dx dy out (r ∷ rs) = ((m : Run) → LiesWithinMoved dx dy m r → IsRun m → IsMaximalRuns (out ++ m ∷ [])) × IsClear dx dy out rs

pub clear-none : (dx dy : ℤ) (rs : List Run) → IsClear dx dy [] rs
clear-none dx dy [] = tt
clear-none dx dy (r ∷ rs) = (λ m p i. (i, tt, tt), clear-none dx dy rs)

moved_apart : (dx dy : ℤ) (r s m n : Run) → EndsBefore r s → LiesWithinMoved dx dy m r → LiesWithinMoved dx dy n s → EndsBefore m n
moved_apart dx dy r s m n (inl h) p q = inl (omega (arith, ints, p.row, q.row))
moved_apart dx dy r s m n (inr h) p q = inr (omega (arith, ints, h.0, p.row, q.row), omega (arith, ints, h.1, p.end, q.start))

pub clear-push : (dx dy : ℤ) (out : List Run) (r m : Run) (rs : List Run) → IsMaximalRuns (out ++ m ∷ []) → LiesWithinMoved dx dy m r
    → EndsBeforeAll r rs → IsMaximalRuns rs → IsClear dx dy (out ++ m ∷ []) rs
clear-push dx dy out r m [] o p b h = tt
clear-push dx dy out r m (s ∷ ss) o p b h =
    (λ n q i. IsMaximalRuns-push out m n i (moved_apart dx dy r s m n b p q) o, clear-push dx dy out r m ss o p (EndsBeforeAll-later r s ss b h) h.2)

-- a step of the walk: o is what is left of the run at i once it is moved and cut
module _ (dx dy : ℤ) (runs out new : List Run) (i : ℕ) (d : Run) (o : Option Run) (more : i < length runs) (maximal : IsMaximalRuns runs)
    (new-is : new ≡ out ++ option_to_list o) (within : IfSome o (λ m. LiesWithinMoved dx dy m (get_or runs i d))) (fits : IfSome o IsRun)
    (order : IsMaximalRuns out) (clear : IsClear dx dy out (drop i runs)) where
  rest-is : drop i runs ≡ get_or runs i d ∷ drop (suc i) runs
  rest-is = drop-cons runs i d more

  rest_runs : IsMaximalRuns (get_or runs i d ∷ drop (suc i) runs)
  rest_runs = rw rest-is at (IsMaximalRuns-drop runs i maximal)

  rest_clear : IsClear dx dy out (get_or runs i d ∷ drop (suc i) runs)
  rest_clear = rw rest-is at clear

  step_order : (o : Option Run) → IfSome o (λ m. LiesWithinMoved dx dy m (get_or runs i d)) → IfSome o IsRun → IsMaximalRuns (out ++ option_to_list o)
  step_order None p f = rw (append_none out) order
  step_order (Some m) p f = rest_clear.0 m p f

  step_clear : (o : Option Run) → IfSome o (λ m. LiesWithinMoved dx dy m (get_or runs i d)) → IfSome o IsRun
      → IsClear dx dy (out ++ option_to_list o) (drop (suc i) runs)
  step_clear None p f = rw (append_none out) rest_clear.1
  step_clear (Some m) p f = clear-push dx dy out (get_or runs i d) m (drop (suc i) runs) (rest_clear.0 m p f) p rest_runs.1 rest_runs.2

  pub moved_order : IsMaximalRuns new
  moved_order = rw new-is (step_order o within fits)

  pub moved_clear : IsClear dx dy new (drop (suc i) runs)
  moved_clear = rw new-is (step_clear o within fits)

  or_assoc : (a b c : Bool) → ((a || b) || c) ≡ (a || (b || c))
  or_assoc true b c = refl
  or_assoc false b c = refl

  pub moved_step : (w h : ℕ) (q : ℕ × ℕ) → in_option o q ≡ in_moved_run (get_or runs i d) dx dy w h q
      → (in_runs new q || in_moved_runs (drop (suc i) runs) dx dy w h q) ≡ (in_runs out q || in_moved_runs (drop i runs) dx dy w h q)
  moved_step w h q e =
      rw (new-is, rest-is)
      (ap (λ t. t || in_moved_runs (drop (suc i) runs) dx dy w h q) (in_option-list out o q ∙ ap (λ t. in_runs out q || t) e)
      ∙ or_assoc (in_runs out q) (in_moved_run (get_or runs i d) dx dy w h q) (in_moved_runs (drop (suc i) runs) dx dy w h q))

-- ---- the set
module _ (dx dy : ℤ) (w h : ℕ) (q : ℕ × ℕ) where
  has_at-set_of : (rs : List Run) (a b : ℤ) → has_at (set_of rs) a b ≡ list_any (λ r. in_run_at r a b) rs
  has_at-set_of rs (pos x) (pos y) = contains-set_of rs (x, y)
  has_at-set_of [] (pos x) (negsuc n) = refl
  has_at-set_of (r ∷ rs) (pos x) (negsuc n) = has_at-set_of rs (pos x) (negsuc n)
  has_at-set_of [] (negsuc n) b = refl
  has_at-set_of (r ∷ rs) (negsuc n) b = has_at-set_of rs (negsuc n) b

  within_any : (f : Run → Bool) (rs : List Run) (b : Bool) → (b && list_any f rs) ≡ list_any (λ r. b && f r) rs
  within_any f rs true = refl
  within_any f [] false = refl
  within_any f (r ∷ rs) false = within_any f rs false

  pub in_moved_cut-set_of : (rs : List Run) → in_moved_runs rs dx dy w h q ≡ in_moved_cut (set_of rs) dx dy w h q
  in_moved_cut-set_of rs =
      sym (within_any (λ r. in_run_at r (pos q.0 -ℤ dx) (pos q.1 -ℤ dy)) rs (nat_lt q.0 w && nat_lt q.1 h))
      ∙ ap (λ b. (nat_lt q.0 w && nat_lt q.1 h) && b) (sym (has_at-set_of rs (pos q.0 -ℤ dx) (pos q.1 -ℤ dy)))
