-- The changes of a fill all have one value before and one after.
use Rattle.std.proofs.Common.{◌≡◌, ℕ, zero, suc, ◌/◌, ◌%◌, ◌<◌, List, [], ◌∷◌, Bool, true, false, cond, nat_eq, get_or, refl, sym, ap, subst, ◌∙◌}
use Rattle.std.proofs.lemmas.Nat.{div-add-mod', mod_below}
use Rattle.map_model.specs.declared.edit.CellEdit.{CellEdit}
use Rattle.map_model.specs.Alike.{AreAlike, HasValuesOf}
use Rattle.map_model.specs.Difference.{change_at, edit_at}
use Rattle.map_model.specs.Lists.{Each}
use Rattle.map_model.proofs.Listings.{Each-append}
use Rattle.edits.specs.declared.flood.Spread.{Spread}
use Rattle.edits.specs.declared.ground.Ground.{Ground}
use Rattle.edits.specs.Covering.{covered}
use Rattle.edits.specs.Flooding.{changes_below, free_at, free_in, is_taken, taken_at, taken_over}
use Rattle.edits.proofs.Differences.{change_at-same}
use Rattle.edits.proofs.Fills.{get_or-filled, old-value, unmarked-same}
use Rattle.edits.proofs.Flooded.{free_at-within, free_in-at, is_taken-at}

-- the cell has these values, before and after
abbrev HasValues : ℕ → ℕ → CellEdit → Type 0
HasValues before after e = (e.before ≡ before) × (e.after ≡ after)

all-alike : (before after : ℕ) (es : List CellEdit) → Each (HasValues before after) es → AreAlike es
all-alike before after [] h = tt
all-alike before after (e ∷ es) h = others es h.1
  where
    others : (fs : List CellEdit) → Each (HasValues before after) fs → Each (HasValuesOf e) fs
    others [] k = tt
    others (f ∷ fs) k = ((k.0.0 ∙ sym h.0.0, k.0.1 ∙ sym h.0.1), others fs k.1)

one-values : (width number before after : ℕ) → Each (HasValues before after) (change_at width number before after)
one-values width number before after = by_test (nat_eq before after)
  where
    by_test : (b : Bool) → Each (HasValues before after) (cond b [] (edit_at width number before after ∷ []))
    by_test true = tt
    by_test false = ((refl, refl), tt)

module _ (g : Ground) (s : Spread) (value : ℕ) (some : 0 < g.width) (free : (q : ℕ × ℕ) → is_taken g s q ≡ true → free_in g q ≡ true) where
  taken-free_at : (k : ℕ) → taken_at s k ≡ true → free_at g k ≡ true
  taken-free_at k taken =
      let x = k % g.width in
      let y = k / g.width in
      let column = mod_below k g.width some in
      let at = div-add-mod' k g.width in
      ap (free_at g) (sym at) ∙ sym (free_in-at g x y column) ∙ free (x, y) (is_taken-at g s x y column ∙ ap (taken_at s) at ∙ taken)

  changed : (k : ℕ) (b : Bool) → taken_at s k ≡ b
      → Each (HasValues g.value value) (change_at g.width k (get_or g.tiles.now k 0) (get_or (covered g.width (taken_over g s value) g.tiles.now) k 0))
  changed k false none =
      subst (Each (HasValues g.value value)) (sym
      (change_at-same g.width k (get_or g.tiles.now k 0) (get_or (covered g.width (taken_over g s value) g.tiles.now) k 0)
      (unmarked-same g s value some k none))) tt
  changed k true taken =
      let is_free_cell = taken-free_at k taken in
      let old : get_or g.tiles.now k 0 ≡ g.value = old-value g s value some k is_free_cell in
      let new = get_or-filled g s value k some (free_at-within g some k is_free_cell) ∙ ap (λ b. cond b value (get_or g.tiles.now k 0)) taken in
      let same = ap (λ v. change_at g.width k v (get_or (covered g.width (taken_over g s value) g.tiles.now) k 0)) old ∙ ap (change_at g.width k g.value) new in
      subst (Each (HasValues g.value value)) (sym same) (one-values g.width k g.value value)

  changes-values : (n : ℕ) → Each (HasValues g.value value) (changes_below g s value n)
  changes-values zero = tt
  changes-values (suc k) =
      Each-append (HasValues g.value value) (changes_below g s value k)
      (change_at g.width k (get_or g.tiles.now k 0) (get_or (covered g.width (taken_over g s value) g.tiles.now) k 0))
      (changes-values k) (changed k (taken_at s k) refl)

  pub changes-alike : (n : ℕ) → AreAlike (changes_below g s value n)
  changes-alike n = all-alike g.value value (changes_below g s value n) (changes-values n)

-- one cell or none
pub one-alike : (b : Bool) (e : CellEdit) → AreAlike (cond b (e ∷ []) [])
one-alike true e = tt
one-alike false e = tt
