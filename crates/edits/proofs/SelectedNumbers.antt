-- Marks of the cells of a selection.
use Rattle.std.proofs.Common.{◌≡◌, ◌↔◌, inl, inr, ℕ, ◌+◌, ◌*◌, ◌/◌, ◌%◌, ◌<◌, min, List, [], ◌∷◌, length, Bool, true, false, ◌&&◌, ◌||◌, nat_eq, nat_le, nat_lt}
use Rattle.std.proofs.Common.{cond, get_or, Option, Some, None, refl, sym, ap, ◌∙◌, subst, mul_comm, arith}
use Rattle.std.proofs.Math.Bool.{or_assoc}
use Rattle.std.specs.List.{slice_get}
use Rattle.std.specs.FinSet as set
use Rattle.std.proofs.lemmas.Bool.{or_cases, and_parts, and_from, ltb-true, lt-ltb, leb-true, le-leb, eqb-true, eq-eqb}
use Rattle.std.proofs.lemmas.Bool.Decides.{same_from_decides}
use Rattle.std.proofs.lemmas.Nat.{mul-add-lt, div-mul-add, div-add-mod', mod_below}
use Rattle.std.proofs.lemmas.Option.{slice_get-get_or}
use Rattle.region.specs.declared.runs.Run.{Run}
use Rattle.region.specs.Cells.{cell_cmp}
use Rattle.region.specs.Runs.{IsMaximalRuns, in_run, in_runs}
use Rattle.region.proofs.Canonical.{After, after}
use Rattle.edits.specs.declared.marks.Marks.{Marks}
use Rattle.edits.specs.declared.ground.Ground.{Ground}
use Rattle.edits.specs.Covering.{covered, covered_value, lets_change}
use Rattle.map_model.specs.Difference.{difference}
use Rattle.edits.specs.Filling.{fill_over, free_from, is_joined}
use Rattle.edits.specs.Flooding.{AreAllowed, AreSelected, HasCell, IsGround, IsGroundOf, cell_of, free_in, start_of}
use Rattle.edits.specs.Joining.{AreJoined, is_free_cell, is_reached, is_value}
use Rattle.edits.specs.Marks.{is_marked, is_between}
use Rattle.edits.proofs.Differences.{difference-skip, get_or-each_at}
use Rattle.edits.proofs.Joined.{end_free, is_reached-AreJoined, reached-free}
use Rattle.edits.proofs.Flooded.{in_row, is_between-true, between, free_in-column, free_in-row}

-- a run that is cut at the width has the cells of the run
between-in_run : (w end x y : ℕ) (r : Run) → end ≡ min w (r.x + r.len) → x < w → is_between (r.y * w + r.x) (r.y * w + end) (y * w + x) ≡ in_run r (x, y)
between-in_run w end x y r e l = same_from_decides _ _ (there, back) ((λ h. h), (λ h. h))
  where
    there : is_between (r.y * w + r.x) (r.y * w + end) (y * w + x) ≡ true → in_run r (x, y) ≡ true
    there h =
        let b = is_between-true _ _ _ h in
        let c = in_row w r.y r.x end (x, y) l (omega arith) b.0 b.1 in
        and_from _ _ (eq-eqb r.y y c.0) (and_from _ _ (le-leb r.x x c.1) (lt-ltb x (r.x + r.len) (omega (arith, c.2))))

    back : in_run r (x, y) ≡ true → is_between (r.y * w + r.x) (r.y * w + end) (y * w + x) ≡ true
    back h =
        let p = and_parts (nat_eq r.y y) _ h in
        let q = and_parts (nat_le r.x x) (nat_lt x (r.x + r.len)) p.1 in
        let row = eqb-true r.y y p.0 in
        let from = leb-true r.x x q.0 in
        let to = ltb-true x (r.x + r.len) q.1 in
        subst (λ n. is_between (r.y * w + r.x) (r.y * w + end) (n * w + x) ≡ true) row
        (between (r.y * w + r.x) (r.y * w + end) (r.y * w + x) (omega arith) (omega arith))

-- a run is marked, and left out of those to come
pub selected-step : (w end x y : ℕ) (old new : Marks) (r : Run) (rs : List Run) → end ≡ min w (r.x + r.len) → x < w
    → ((k : ℕ) → is_marked new k ≡ (is_marked old k || is_between (r.y * w + r.x) (r.y * w + end) k))
    → (is_marked new (y * w + x) || in_runs rs (x, y)) ≡ (is_marked old (y * w + x) || in_runs (r ∷ rs) (x, y))
selected-step w end x y old new r rs e l marks =
    ap (λ b. b || in_runs rs (x, y)) (marks (y * w + x) ∙ ap (λ b. is_marked old (y * w + x) || b) (between-in_run w end x y r e l))
    ∙ or_assoc (is_marked old (y * w + x)) (in_run r (x, y)) (in_runs rs (x, y))

-- no run has a cell of a row before the first run's
pub runs-above : (r : Run) (rs : List Run) (q : ℕ × ℕ) → IsMaximalRuns (r ∷ rs) → q.1 < r.y → in_runs (r ∷ rs) q ≡ false
runs-above r rs q h l = by_test (in_runs (r ∷ rs) q) refl
  where
    behind : After r q → ⊥
    behind (inl a) = omega arith
    behind (inr a) = omega (arith, a.0)

    by_test : (b : Bool) → in_runs (r ∷ rs) q ≡ b → in_runs (r ∷ rs) q ≡ false
    by_test false e = e
    by_test true e = elim (or_cases (in_run r q) (in_runs rs q) e) [
      | inl here ↦ absurd (let row = eqb-true r.y q.1 (and_parts (nat_eq r.y q.1) _ here).0 in omega arith)
      | inr later ↦ absurd (behind (after r rs q h later))
    ]

-- ---- what a selection lets change
pub lets_change-empty : (s : set.FinSet cell_cmp) (q : ℕ × ℕ) → s ≡ set.empty → lets_change s q ≡ true
lets_change-empty s q e = ap (λ n. nat_eq n 0 || set.contains s q) (ap set.len e ∙ set.len-empty cell_cmp)

pub lets_change-some : (s : set.FinSet cell_cmp) (q : ℕ × ℕ) → (s ≡ set.empty → ⊥) → lets_change s q ≡ set.contains s q
lets_change-some s q other = by_len (nat_eq (set.len s) 0) refl
  where
    by_len : (b : Bool) → nat_eq (set.len s) 0 ≡ b → (nat_eq (set.len s) 0 || set.contains s q) ≡ set.contains s q
    by_len true e = absurd (other (set.empty_of_len s (eqb-true (set.len s) 0 e)))
    by_len false e = ap (λ b. b || set.contains s q) e

module _ (g : Ground) (x y : ℕ) (h : HasCell g.width g.tiles.now x y) where
  rows_of : length g.tiles.now / g.width ≡ h.height
  rows_of =
      let some : 0 < g.width = omega (arith, h.column) in
      let all : length g.tiles.now ≡ h.height * g.width + 0 = omega (arith, h.size) in
      ap (λ n. n / g.width) all ∙ div-mul-add h.height g.width 0 some

  pub whole_rows : length g.tiles.now / g.width * g.width ≡ length g.tiles.now
  whole_rows = ap (λ n. n * g.width) rows_of ∙ sym h.size

  pub number_of : y * g.width + x < length g.tiles.now
  number_of = omega (arith, h.size, mul-add-lt y g.width x h.height h.row h.column, mul_comm g.width h.height)

  -- what a fill goes over, as it is made
  pub IsGroundOf-made : g.height ≡ length g.tiles.now / g.width → g.start.0 ≡ x → g.start.1 ≡ y → g.value ≡ get_or g.tiles.now (y * g.width + x) 0
      → IsGroundOf g.width g.tiles.now g.selection.now x y g
  IsGroundOf-made height column row own =
      let rows = height ∙ rows_of in record {
        sound = record {
          size = h.size ∙ ap (λ n. n * g.width) (sym rows);
          narrow = h.narrow;
          low = omega (arith, h.low);
          column = omega (arith, h.column);
          row = omega (arith, h.row);
        };
        width = refl;
        tiles = refl;
        column = column;
        row = row;
        value = own;
        cells = λ q. ap (λ v. is_free_cell g.width g.tiles.now g.selection.now v q) own;
      }

-- the selected cells may be changed, or all where there are none
pub AreAllowed-all : (g : Ground) (m : Marks) → g.selection.now ≡ set.empty → ((p : ℕ) → p < length g.tiles.now → is_marked m p ≡ true) → AreAllowed g m
AreAllowed-all g m none all p l = all p l ∙ sym (lets_change-empty g.selection.now (cell_of g p) none)

pub AreAllowed-selected : (g : Ground) (m : Marks) → IsGround g → (g.selection.now ≡ set.empty → ⊥) → AreSelected g.width (g.height * g.width) g.selection.now m
    → AreAllowed g m
AreAllowed-selected g m ground some marks p l =
    let at = div-add-mod' p g.width in
    ap (is_marked m) (sym at) ∙ marks (p % g.width) (p / g.width) (mod_below p g.width (omega (arith, ground.column))) (omega (arith, at, ground.size))
    ∙ sym (lets_change-some g.selection.now (cell_of g p) some)

-- ---- the cells that a fill takes
module _ (w : ℕ) (values : List ℕ) (s : set.FinSet cell_cmp) (x y : ℕ) (g : Ground) (h : IsGroundOf w values s x y g) (taken : ℕ × ℕ → Bool)
    (are_joined : (q : ℕ × ℕ) → (taken q ≡ true) ↔ AreJoined (free_in g) (start_of g) q) where
  taken-is_joined : (q : ℕ × ℕ) → taken q ≡ is_joined w values s (x, y) q
  taken-is_joined q =
      let reached = is_reached-AreJoined (free_in g) (start_of g) g.width g.height (λ r f. (free_in-column g r f, free_in-row g h.sound r f)) q in
      let same : free_in g ≡ free_from w values s (x, y) = λ i r. h.cells r i in
      let start : start_of g ≡ (x, y) = λ i. (h.column i, h.row i) in
      let steps : g.height * g.width ≡ length values = sym h.sound.size ∙ ap length h.tiles in
      same_from_decides (taken q) (is_reached (free_in g) (start_of g) (g.height * g.width) q) (are_joined q) reached
      ∙ ap (λ f. is_reached f (start_of g) (g.height * g.width) q) same
      ∙ ap (λ p. is_reached (free_from w values s (x, y)) p (g.height * g.width) q) start
      ∙ ap (λ n. is_reached (free_from w values s (x, y)) (x, y) n q) steps

  -- what a fill puts over the taken cells
  abbrev over : ℕ → ℕ → ℕ → Option ℕ
  over value cx cy = cond (taken (cx, cy)) (Some value) None

  over-fill_over : (value : ℕ) → over value ≡ fill_over w values s (x, y) value
  over-fill_over value = λ i cx cy. cond (taken-is_joined (cx, cy) i) (Some value) None

  pub difference-taken : (value : ℕ) → difference g.width g.tiles.now (covered g.width (over value) g.tiles.now) (length g.tiles.now)
      ≡ difference w values (covered w (fill_over w values s (x, y) value) values) (length values)
  difference-taken value =
      ap (λ n. difference n g.tiles.now (covered n (over value) g.tiles.now) (length g.tiles.now)) h.width
      ∙ ap (λ (vs : List ℕ). difference w vs (covered w (over value) vs) (length vs)) h.tiles
      ∙ ap (λ o. difference w values (covered w o values) (length values)) (over-fill_over value)

  pub taken-free : (q : ℕ × ℕ) → taken q ≡ true → free_in g q ≡ true
  taken-free q t = end_free (free_in g) (start_of g) q ((are_joined q).0 t)

-- a fill with the value that is there changes nothing
pub difference-own : (w : ℕ) (values : List ℕ) (s : set.FinSet cell_cmp) (x y value : ℕ) → 0 < w → value ≡ get_or values (y * w + x) 0
    → [] ≡ difference w values (covered w (fill_over w values s (x, y) value) values) (length values)
difference-own w values s x y value some own =
    let ys = covered w (fill_over w values s (x, y) value) values in
    let all : 0 + length values ≡ length values = omega arith in
    sym (difference-skip w values ys 0 (length values) (λ k l. let at : 0 + k ≡ k = omega arith in
    rw at (get_or-each_at (λ number old. covered_value (fill_over w values s (x, y) value (number % w) (number / w)) old) values k l
    ∙ by_test k l (is_joined w values s (x, y) (k % w, k / w)) refl)))
    ∙ ap (difference w values ys) all
  where
    by_test : (k : ℕ) → k < length values → (b : Bool) → is_joined w values s (x, y) (k % w, k / w) ≡ b
        → covered_value (cond (is_joined w values s (x, y) (k % w, k / w)) (Some value) None) (get_or values k 0) ≡ get_or values k 0
    by_test k l false e = ap (λ b. covered_value (cond b (Some value) None) (get_or values k 0)) e
    by_test k l true e =
        let free = reached-free (free_from w values s (x, y)) (x, y) (length values) (k % w, k / w) e in
        let both = and_parts (nat_lt (k % w) w) (is_value (slice_get values (k / w * w + k % w)) (get_or values (y * w + x) 0) && lets_change s (k % w, k / w))
        free in
        let test = (and_parts (is_value (slice_get values (k / w * w + k % w)) (get_or values (y * w + x) 0)) (lets_change s (k % w, k / w)) both.1).0 in
        let there = ap (λ p. is_value (slice_get values p) (get_or values (y * w + x) 0)) (sym (div-add-mod' k w)) ∙ test in
        let found = ap (λ o. is_value o (get_or values (y * w + x) 0)) (sym (slice_get-get_or values k 0 l)) ∙ there in
        let same = eqb-true (get_or values k 0) (get_or values (y * w + x) 0) found in
        ap (λ b. covered_value (cond b (Some value) None) (get_or values k 0)) e ∙ own ∙ sym same
