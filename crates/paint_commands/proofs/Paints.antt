-- A paint that is made, undone and made again.
use Rattle.std.proofs.Common.{◌≡◌, ℕ, List, [], ◌∷◌, length, Bool, true, false, not, nat_eq, Some, Result, Ok, refl, sym, ap, ◌∙◌, subst, arith}
use Rattle.std.proofs.lemmas.Bool.Decides.{nat_tests}
use Rattle.map_model.specs.declared.edit.CellEdit.{CellEdit}
use Rattle.map_model.specs.declared.edit.Side.{Side}
use Rattle.map_model.specs.declared.edit.Side.TheVariants.{Before, After}
use Rattle.map_model.specs.Document.{DocumentParts, painted}
use Rattle.map_model.specs.CellEdits.{put_values}
use Rattle.map_model.specs.Lists.{Each}
use Rattle.map_model.specs.Lookups.{with_edits, IsWithin}
use Rattle.map_model.specs.WellFormed.{IsWellFormed}
use Rattle.map_model.proofs.CellEdits.{length-put_values}
use Rattle.map_model.proofs.Turns.{HasTiles-with_tiles}
use Rattle.edits.specs.declared.change.CellChange.{CellChange}
use Rattle.edits.specs.Covering.{covered, covered_map}
use Rattle.map_model.specs.Difference.{difference_in}
use Rattle.edits.specs.Painting.{IsPainted}
use Rattle.edits.proofs.Differences.{length-each_at}
use Rattle.edits.proofs.Turns.{with_edits-after, with_edits-before, with_edits-again, with_edits-none, difference_in-same, difference_in-within}
use Rattle.refusals.specs.declared.edit_fault.EditFault.{EditFault}
use Rattle.command_api.specs.Names.{Names, WhenEqual}
use Rattle.command_api.specs.Making.{Makes}
use Rattle.paint_commands.specs.declared.paint.PaintKind.{PaintKind}
use Rattle.paint_commands.specs.Painting.{side_of, difference_by, IsDifference, new_paint, paint_change, paint_names}

-- ---- where the cells lie
pub cells-within : (made : Bool) (layer : ℕ) (cells : List CellEdit) (d : DocumentParts) → IsDifference made layer cells d → Each (IsWithin d.map) cells
cells-within false layer cells d h = rw h.exact (difference_in-within d.map (painted layer cells After d).map layer h.well_formed.size)
cells-within true layer cells d h =
    let P : List CellEdit → Type 0 = λ es. Each (IsWithin d.map) es in
    subst P (sym h.exact) (difference_in-within (painted layer cells Before d).map d.map layer h.well_formed.size)

-- ---- there and back
pub painted-painted : (made : Bool) (layer : ℕ) (cells : List CellEdit) (d : DocumentParts) → IsDifference made layer cells d
    → painted layer cells (side_of (not made)) (painted layer cells (side_of made) d) ≡ d
painted-painted false layer cells d h =
    ap (λ m. record d { map = m })
    (with_edits-before d.map layer (put_values d.map.width After cells) cells (length-put_values d.map.width After cells) h.exact h.tiles h.well_formed)
painted-painted true layer cells d h =
    ap (λ m. record d { map = m })
    (with_edits-again d.map layer (put_values d.map.width Before cells) cells (length-put_values d.map.width Before cells) h.exact h.tiles h.well_formed)

-- the difference from there to here is the one from here to there
difference_by-not : (made : Bool) (layer : ℕ) (d e : DocumentParts) → difference_by (not made) layer d.map e.map ≡ difference_by made layer e.map d.map
difference_by-not false layer d e = refl
difference_by-not true layer d e = refl

pub painted-IsDifference : (made : Bool) (layer : ℕ) (cells : List CellEdit) (d : DocumentParts) → IsWellFormed (painted layer cells (side_of made) d).map
    → IsDifference made layer cells d
    → IsDifference (not made) layer cells (painted layer cells (side_of made) d)
painted-IsDifference made layer cells d formed h =
    let e = painted layer cells (side_of made) d in
    record {
      well_formed = formed;
      tiles = HasTiles-with_tiles d.map layer (put_values d.map.width (side_of made) cells) h.tiles;
      exact = h.exact
          ∙ ap (λ (f : DocumentParts). difference_by made layer f.map e.map) (sym (painted-painted made layer cells d h))
          ∙ sym (difference_by-not made layer e (painted layer cells (side_of (not made)) e));
      back = λ made_now. subst (λ (f : DocumentParts). IsWellFormed f.map) (sym (painted-painted made layer cells d h)) h.well_formed;
    }

-- ---- nothing to do
empty_test : (cells : List CellEdit) → nat_eq (length cells) 0 ≡ true → cells ≡ []
empty_test [] e = refl
empty_test (c ∷ cells) e = let none : length (c ∷ cells) ≡ 0 = grind (arith, nat_tests) in absurd (omega arith)

test_empty : (cells : List CellEdit) → cells ≡ [] → nat_eq (length cells) 0 ≡ true
test_empty cells e = rw e refl

painted-none : (layer : ℕ) (cells : List CellEdit) (side : Side) (d : DocumentParts) → nat_eq (length cells) 0 ≡ true → painted layer cells side d ≡ d
painted-none layer cells side d e =
    ap (λ es. painted layer es side d) (empty_test cells e) ∙ ap (λ m. record d { map = m }) (with_edits-none d.map layer side)

difference_by-same : (made : Bool) (layer : ℕ) (d : DocumentParts) → difference_by made layer d.map d.map ≡ []
difference_by-same false layer d = difference_in-same d.map layer
difference_by-same true layer d = difference_in-same d.map layer

-- the cells are the difference of two documents: there are none exactly where the documents are equal
pub difference-settled : (made : Bool) (layer : ℕ) (cells : List CellEdit) (d : DocumentParts) → IsDifference made layer cells d
    → (nat_eq (length cells) 0 ≡ true → painted layer cells (side_of made) d ≡ d) × (painted layer cells (side_of made) d ≡ d → nat_eq (length cells) 0 ≡ true)
difference-settled made layer cells d h = (
  painted-none layer cells (side_of made) d,
  λ e. test_empty cells (h.exact ∙ ap (λ (f : DocumentParts). difference_by made layer d.map f.map) e ∙ difference_by-same made layer d),
)

-- ---- the sides of one that knows whether it is made
pub difference-after : (made : Bool) (layer : ℕ) (cells : List CellEdit) (d : DocumentParts) → (Some made ≡ Some true → ⊥) → IsDifference made layer cells d
    → cells ≡ difference_in layer d.map (painted layer cells (side_of made) d).map
difference-after false layer cells d other h = h.exact
difference-after true layer cells d other h = absurd (other refl)

pub difference-before : (made : Bool) (layer : ℕ) (cells : List CellEdit) (d : DocumentParts) → (Some made ≡ Some false → ⊥) → IsDifference made layer cells d
    → cells ≡ difference_in layer (painted layer cells (side_of made) d).map d.map
difference-before false layer cells d other h = absurd (other refl)
difference-before true layer cells d other h = h.exact

-- ---- a new paint
module _ (d : DocumentParts) (id : ℕ) (after : Result DocumentParts EditFault) (change : CellChange) (is : IsPainted d id after change) where
  turned : with_edits d.map change.layer change.cells After ≡ covered_map id is.over d.map
  turned =
      ap (λ k. with_edits d.map k change.cells After) is.exact.layer
      ∙ with_edits-after d.map id (covered d.map.width is.over) change.cells (λ vs. length-each_at _ 0 vs) is.exact.cells is.tiles is.well_formed

  new-IsDifference : IsDifference false change.layer change.cells d
  new-IsDifference = record {
    well_formed = is.well_formed;
    tiles = rw is.exact.layer is.tiles;
    exact = is.exact.cells ∙ ap (λ k. difference_in k d.map (covered_map id is.over d.map)) (sym is.exact.layer)
        ∙ ap (difference_in change.layer d.map) (sym turned);
    back = λ made_now. cc;
  }

  new-document : after ≡ Ok (painted change.layer change.cells After d)
  new-document = is.accepted ∙ ap (λ m. Ok (record d { map = m })) (sym turned)

  -- the command of an edit's change leads to the document after the edit
  pub paint_made : (kind : PaintKind) (follows : Bool) (names : Names) → paint_names kind change.layer follows ≡ names → names.vanishing ≡ WhenEqual
      → Makes names d after (paint_change (new_paint kind follows change))
  paint_made kind follows names called vanishes = record {
    fits = (
      λ e. cc,
      record {
        fits = new-IsDifference;
        settled = rw (called, vanishes) (difference-settled false change.layer change.cells d new-IsDifference);
      },
    );
    document = new-document;
    names = called;
  }
