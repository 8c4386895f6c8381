-- What a move keeps, from the laws of its two slots.
use Rattle.std.proofs.Common.{◌≡◌, ℕ, ◌≤◌, List, length, Option, Some, None, IsSome, IsSomeAnd, Result, Ok, refl, sym, ap, ◌∙◌, subst}
use Rattle.std.specs.List.{insert}
use Rattle.map_model.specs.Document.{DocumentParts}
use Rattle.map_model.specs.Lens.{Lens, IsLawfulLens}
use Rattle.map_model.specs.Slot.{Slot, IsLawfulSlot, slot_in}
use Rattle.map_model.proofs.Changes.{slice_get-insert}
use Rattle.command_api.specs.Names.{Names, Never}
use Rattle.command_api.specs.Making.{Makes}
use Rattle.command_api.specs.Exchange.{IsExchanged, change_of}
use Rattle.command_api.specs.Move.{FitsMove, move, moved, with_some}

some_item : {X : Type 0} (o : Option X) → IsSome o → (x : X) × (o ≡ Some x)
some_item None h = cc
some_item (Some x) h = (x, refl)

-- what is put into a slot stands there
abbrev pub HoldsItem : {X : Type 0} → Slot X → Type 0
HoldsItem {X = X} s = (x : X) (d : DocumentParts) → s.is_vacant d → s.item (s.with_item x d) ≡ Some x

pub slot_in-holds : {X : Type 0} (p : Lens DocumentParts (List X)) → IsLawfulLens p → (k : ℕ) → HoldsItem (slot_in p k)
slot_in-holds {X = X} p laws k x d vacant = by_list (p.get d) refl vacant
  where
    by_list : (o : Option (List X)) → p.get d ≡ o → IsSomeAnd o (λ xs. k ≤ length xs) → (slot_in p k).item ((slot_in p k).with_item x d) ≡ Some x
    by_list None e h = absurd h
    by_list (Some xs) e h = rw (laws.get-update (λ ys. insert ys k x) xs d e) (slice_get-insert xs k x h)

-- the item of s goes into t, and the turn back takes it from t to s
pub is_moved : {X : Type 0} {names : Names} {s t : Slot X} {d e : DocumentParts} → IsLawfulSlot s → IsLawfulSlot t → HoldsItem t → FitsMove s t d
    → e ≡ moved s t d → IsExchanged (move names s t) (move names t s) d e
is_moved {s = s} {t = t} {d = d} {e = e} ss ts holds fits is =
    let found = some_item (s.item d) (ss.there d fits.filled) in
    let x = found.0 in
    let rest = s.without_item d in
    let there : e ≡ t.with_item x rest = is ∙ ap (λ o. with_some t o rest) found.1 in
    let item : t.item e ≡ Some x = ap t.item there ∙ holds x rest fits.vacant in
    let out : t.without_item e ≡ rest = ap t.without_item there ∙ ts.without-with x rest fits.vacant in
    let back : moved t s e ≡ d = ap (λ o. with_some s o (t.without_item e)) item ∙ ap (s.with_item x) out ∙ ss.with-without x d fits.filled found.1 in
    record {
      document = is;
      fits = record {
        filled = subst t.is_filled (sym there) (ts.filled x rest fits.vacant);
        vacant = subst s.is_vacant (sym out) (ss.vacated x d fits.filled found.1);
        before = rw is fits.after;
        after = rw back fits.before;
      };
      back = back;
      names = refl;
      obsolete = refl;
      made = refl;
    }

-- an edit moves the item of s into t
pub move_made : {X E : Type 0} {names : Names} {s t : Slot X} {d : DocumentParts} {after : Result DocumentParts E} → names.vanishing ≡ Never
    → FitsMove s t d → after ≡ Ok (moved s t d) → Makes names d after (change_of (move names s t))
move_made never fits is = record {
  fits = (λ e. cc, record { fits = fits; settled = rw never refl });
  document = is;
  names = refl;
}
