-- The changes of the cells that a fill has taken.
use Rattle.std.proofs.Common.{◌≡◌, ◌≢◌, inl, inr, ℕ, zero, suc, ◌+◌, ◌-◌, ◌*◌, ◌/◌, ◌%◌, ◌<◌, ◌≤◌, [], ◌∷◌, ◌++◌, length, Bool, true, false, cond, nat_eq}
use Rattle.std.proofs.Common.{get_or, Some, None, add-zero, add-suc, append-nil, append_assoc, refl, sym, ap, ◌∙◌, arith}
use Rattle.std.proofs.lemmas.Bool.{cases_lt, eqb-true}
use Rattle.std.proofs.lemmas.List.{get_or_past}
use Rattle.std.proofs.lemmas.Bool.Decides.{nat_tests}
use Rattle.std.proofs.lemmas.Nat.{mod-mul-add, div-mul-add, div-add-mod', mod_below}
use Rattle.std.proofs.lemmas.Option.{slice_get-get_or}
use Rattle.edits.specs.declared.flood.Spread.{Spread}
use Rattle.edits.specs.declared.ground.Ground.{Ground}
use Rattle.edits.specs.Covering.{covered, covered_value}
use Rattle.map_model.specs.Difference.{change_at, difference, edit_at}
use Rattle.edits.specs.Joining.{is_value}
use Rattle.edits.specs.Flooding.{changes_below, free_at, free_in, is_taken, taken_at, taken_over}
use Rattle.edits.specs.Stretches.{stretch_edits}
use Rattle.edits.proofs.Differences.{difference-skip, get_or-each_at, length-each_at}
use Rattle.edits.proofs.Flooded.{free_at-value, free_at-within, free_in-at, is_taken-at}

-- the change of a cell whose value changes
pub change_at-cell : (w x y before after : ℕ) → x < w → before ≢ after
    → change_at w (y * w + x) before after ≡ record { x = x; y = y; before = before; after = after } ∷ []
change_at-cell w x y before after l other =
    let differ : nat_eq before after ≡ false = grind (arith, nat_tests) in
    ap (λ (b : Bool). cond b [] (edit_at w (y * w + x) before after ∷ [])) differ
    ∙ (λ i. record { x = mod-mul-add y w x l i; y = div-mul-add y w x l i; before = before; after = after } ∷ [])

pub covered_value-cond : (b : Bool) (value old : ℕ) → covered_value (cond b (Some value) None) old ≡ cond b value old
covered_value-cond true value old = refl
covered_value-cond false value old = refl

module _ (g : Ground) (s : Spread) (value : ℕ) where
  -- the value of a cell after the fill
  pub get_or-filled : (k : ℕ) → 0 < g.width → k < length g.tiles.now
      → get_or (covered g.width (taken_over g s value) g.tiles.now) k 0 ≡ cond (taken_at s k) value (get_or g.tiles.now k 0)
  get_or-filled k some l =
      let old = get_or g.tiles.now k 0 in
      get_or-each_at (λ number old. covered_value (taken_over g s value (number % g.width) (number / g.width)) old) g.tiles.now k l
      ∙ ap (λ b. covered_value (cond b (Some value) None) old)
      (is_taken-at g s (k % g.width) (k / g.width) (mod_below k g.width some) ∙ ap (taken_at s) (div-add-mod' k g.width))
      ∙ covered_value-cond (taken_at s k) value old

  -- a cell that is not taken stays
  pub unmarked-same : 0 < g.width → (k : ℕ) → taken_at s k ≡ false → get_or (covered g.width (taken_over g s value) g.tiles.now) k 0 ≡ get_or g.tiles.now k 0
  unmarked-same some k none = elim (cases_lt k (length g.tiles.now)) [
    | inl l ↦ get_or-filled k some l ∙ ap (λ b. cond b value (get_or g.tiles.now k 0)) none
    | inr past ↦
        let f = λ (number old : ℕ). covered_value (taken_over g s value (number % g.width) (number / g.width)) old in
        get_or_past (covered g.width (taken_over g s value) g.tiles.now) k 0 (omega (arith, length-each_at f 0 g.tiles.now))
        ∙ sym (get_or_past g.tiles.now k 0 past)
  ]

  -- cells that are not taken may be left out
  pub changes-unmarked : (p n : ℕ) → 0 < g.width → p ≤ n → ((k : ℕ) → p ≤ k → k < n → taken_at s k ≡ false)
      → changes_below g s value n ≡ changes_below g s value p
  changes-unmarked p n some l none =
      let ys = covered g.width (taken_over g s value) g.tiles.now in
      let all : p + (n - p) ≡ n = omega arith in
      ap (difference g.width g.tiles.now ys) (sym all)
      ∙ difference-skip g.width g.tiles.now ys p (n - p) (λ i k. unmarked-same some (p + i) (none (p + i) (omega arith) (omega arith)))

  -- a taken cell lies in the layer
  pub marked-within : ((q : ℕ × ℕ) → is_taken g s q ≡ true → free_in g q ≡ true) → 0 < g.width → (k : ℕ) → taken_at s k ≡ true → k < length g.tiles.now
  marked-within free some k taken =
      let x = k % g.width in
      let y = k / g.width in
      let column = mod_below k g.width some in
      let at = div-add-mod' k g.width in
      let here = free_at-within g some (y * g.width + x) (sym (free_in-at g x y column) ∙ free (x, y) (is_taken-at g s x y column ∙ ap (taken_at s) at ∙ taken))
      in
      omega (arith, at, here)

  pub old-value : 0 < g.width → (p : ℕ) → free_at g p ≡ true → get_or g.tiles.now p 0 ≡ g.value
  old-value some p h =
      let inside = free_at-within g some p h in
      eqb-true (get_or g.tiles.now p 0) g.value (sym (ap (λ o. is_value o g.value) (slice_get-get_or g.tiles.now p 0 inside)) ∙ free_at-value g some p h)

  -- a taken cell changes
  pub changes-marked : (y x : ℕ) → ((q : ℕ × ℕ) → is_taken g s q ≡ true → free_in g q ≡ true) → g.value ≢ value → x < g.width
      → taken_at s (y * g.width + x) ≡ true
      → changes_below g s value (y * g.width + suc x) ≡ changes_below g s value (y * g.width + x)
      ++ record { x = x; y = y; before = g.value; after = value } ∷ []
  changes-marked y x free other column taken =
      let ys = covered g.width (taken_over g s value) g.tiles.now in
      let p = y * g.width + x in
      let next : y * g.width + suc x ≡ suc p = omega arith in
      let some : 0 < g.width = omega arith in
      let is_free_cell = sym (free_in-at g x y column) ∙ free (x, y) (is_taken-at g s x y column ∙ taken) in
      let new = get_or-filled p some (free_at-within g some p is_free_cell) ∙ ap (λ b. cond b value (get_or g.tiles.now p 0)) taken in
      ap (difference g.width g.tiles.now ys) next
      ∙ ap (λ es. difference g.width g.tiles.now ys p ++ es)
      (ap (λ v. change_at g.width p v (get_or ys p 0)) (old-value some p is_free_cell) ∙ ap (change_at g.width p g.value) new
      ∙ change_at-cell g.width x y g.value value column other)

  -- taken cells of a row side by side change
  pub changes-row : (y x n : ℕ) → ((q : ℕ × ℕ) → is_taken g s q ≡ true → free_in g q ≡ true) → g.value ≢ value → x + n ≤ g.width
      → ((k : ℕ) → k < n → taken_at s (y * g.width + (x + k)) ≡ true)
      → changes_below g s value (y * g.width + (x + n)) ≡ changes_below g s value (y * g.width + x) ++ stretch_edits y x g.value value n
  changes-row y x zero free other columns taken = rw (add-zero, append-nil) refl
  changes-row y x (suc n) free other columns taken =
      rw (add-suc x n) (
      changes-marked y (x + n) free other (omega arith) (taken n (omega arith))
      ∙ ap (λ es. es ++ record { x = x + n; y = y; before = g.value; after = value } ∷ [])
      (changes-row y x n free other (omega arith) (λ k l. taken k (omega arith)))
      ∙ append_assoc (changes_below g s value (y * g.width + x)) (stretch_edits y x g.value value n)
      (record { x = x + n; y = y; before = g.value; after = value } ∷ []))
