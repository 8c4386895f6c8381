-- What stands under each name once a file was stored.
use Rattle.std.proofs.Common.{◌≡◌, ◌≢◌, inr, ℕ, List, Some, refl, ap, ◌∙◌}
use Rattle.std.proofs.lemmas.Bool.{cond-true, cond-false, false_from_ne_true}
use Rattle.std.proofs.lemmas.Cmp.{nat_list_cmp_total}
use Rattle.std.proofs.lemmas.Map.Text.{is_eq-slice_cmp}
use Rattle.std.proofs.lemmas.Slice.Eq.{bytes_eq-Decides}
use Rattle.std.specs.FinMap.{get, insert, get-insert}
use Rattle.map_store.specs.Files.{Files}
use Rattle.map_store.specs.Storing.{IsOldOrNew}

pub stored_kept : (old new : Files) (name bytes : List ℕ) → new ≡ insert old name bytes → get new name ≡ Some bytes
stored_kept old new name bytes e =
    ap (λ (f : Files). get f name) e ∙ get-insert nat_list_cmp_total old name bytes name
    ∙ cond-true _ _ _ (is_eq-slice_cmp name name ∙ (bytes_eq-Decides name name).1 refl)

stored_others : (old new : Files) (name bytes other : List ℕ) → new ≡ insert old name bytes → other ≢ name → get new other ≡ get old other
stored_others old new name bytes other e apart =
    ap (λ (f : Files). get f other) e ∙ get-insert nat_list_cmp_total old name bytes other
    ∙ cond-false _ _ _ (is_eq-slice_cmp other name ∙ false_from_ne_true _ (λ is. apart ((bytes_eq-Decides other name).0 is)))

pub stored_safe : (old new : Files) (name bytes : List ℕ) → new ≡ insert old name bytes → IsOldOrNew name bytes old new
stored_safe old new name bytes e = record {
  whole = inr (stored_kept old new name bytes e);
  others = λ other apart. stored_others old new name bytes other e apart;
}
