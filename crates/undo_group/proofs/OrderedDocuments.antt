-- Documents that are told in another order: which names and histories there are, and which of them is the active one.
use Rattle.std.proofs.Common.{◌≡◌, ℕ, zero, suc, ◌<◌, List, [], ◌∷◌, length, get_or, slice_get}
use Rattle.std.proofs.Common.{Bool, true, false, Option, Some, None, refl, sym, ap, subst, ◌∙◌, arith}
use Rattle.std.proofs.lemmas.Option.{slice_get_within}
use Rattle.std.proofs.lemmas.Slice.Eq.{bytes_eq-Decides}
use Rattle.std.specs.Str.{bytes_eq}
use Rattle.undo_stack.specs.History.{History}
use Rattle.undo_group.specs.Groups.{OpenDocument, IsNew, AreDistinct, history_named}
use Rattle.undo_group.specs.Order.{ArePlaced, in_order}
use Rattle.undo_group.proofs.Documents.{history_named-at, same_number}
use Rattle.undo_group.proofs.Ordered.{in_order-at}

-- no document has a new name
other_name : (name : List ℕ) (ds : List OpenDocument) (n : ℕ) (d : OpenDocument) → IsNew name ds → slice_get ds n ≡ Some d → bytes_eq name d.name ≡ false
other_name name [] n d new at = absurd cc
other_name name (e ∷ ds) zero d new at = grind arith
other_name name (e ∷ ds) (suc n) d new at = other_name name ds n d (later refl) at
  where
    later : {b : Bool} → bytes_eq name e.name ≡ b → IsNew name ds
    later is = grind arith

-- the document of a name has a number
found : (name : List ℕ) (ds : List OpenDocument) (h : History) → history_named name ds ≡ Some h
    → (i : ℕ) × (d : OpenDocument) × (slice_get ds i ≡ Some d) × (d.name ≡ name) × (d.history ≡ h)
found name [] h at = absurd cc
found name (e ∷ ds) h at = by_test (bytes_eq name e.name) refl (λ rest. found name ds h rest)
  where
    by_test : (b : Bool) → bytes_eq name e.name ≡ b
        → (history_named name ds ≡ Some h → (i : ℕ) × (d : OpenDocument) × (slice_get ds i ≡ Some d) × (d.name ≡ name) × (d.history ≡ h))
        → (i : ℕ) × (d : OpenDocument) × (slice_get (e ∷ ds) i ≡ Some d) × (d.name ≡ name) × (d.history ≡ h)
    by_test true is rest = (zero, e, refl, grind (arith, bytes_eq-Decides), grind arith)
    by_test false is rest = let r = rest (grind arith) in (suc r.0, r.1, r.2, r.3, r.4)

-- so it is in another order
IsNew-in_order : (name : List ℕ) (ds : List OpenDocument) (ns : List ℕ)
    → ((p : ℕ) (d : OpenDocument) → p < length ns → slice_get ds (get_or ns p 0) ≡ Some d → bytes_eq name d.name ≡ false) → IsNew name (in_order ds ns)
IsNew-in_order name ds [] other = refl
IsNew-in_order name ds (n ∷ ns) other = by_head (slice_get ds n) refl (IsNew-in_order name ds ns (λ p d lt at. other (suc p) d (omega arith) at))
  where
    by_head : (o : Option OpenDocument) → slice_get ds n ≡ o → IsNew name (in_order ds ns) → IsNew name (in_order ds (n ∷ ns))
    by_head None none rest = rw none rest
    by_head (Some d) some rest = rw (some, other zero d (omega arith) some) rest

-- the names stay distinct where no number stands twice
AreDistinct-by : (ds : List OpenDocument) (ns : List ℕ) → AreDistinct ds
    → ((p q : ℕ) → p < length ns → q < length ns → get_or ns p 0 ≡ get_or ns q 0 → p ≡ q) → AreDistinct (in_order ds ns)
AreDistinct-by ds [] distinct once = tt
AreDistinct-by ds (n ∷ ns) distinct once =
    by_head (slice_get ds n) refl
    (AreDistinct-by ds ns distinct (λ p q lt below same. let e = once (suc p) (suc q) (omega arith) (omega arith) same in omega arith))
  where
    by_head : (o : Option OpenDocument) → slice_get ds n ≡ o → AreDistinct (in_order ds ns) → AreDistinct (in_order ds (n ∷ ns))
    by_head None none rest = rw none rest
    by_head (Some d) some rest = rw some (IsNew-in_order d.name ds ns (λ p e lt at. apart p e lt at), rest)
      where
        apart : (p : ℕ) (e : OpenDocument) → p < length ns → slice_get ds (get_or ns p 0) ≡ Some e → bytes_eq d.name e.name ≡ false
        apart p e lt at = by_test (bytes_eq d.name e.name) refl
          where
            by_test : (b : Bool) → bytes_eq d.name e.name ≡ b → bytes_eq d.name e.name ≡ false
            by_test b is = grind (arith, bytes_eq-Decides, same_number ds n (get_or ns p 0) d e distinct some at, once zero (suc p))

module _ (ds : List OpenDocument) (ns ps : List ℕ) (distinct : AreDistinct ds) (order : ArePlaced ns ps (length ds)) where
  pub AreDistinct-in_order : AreDistinct (in_order ds ns)
  AreDistinct-in_order =
      AreDistinct-by ds ns distinct (λ p q lt below same.
      sym (order.placed.back p (omega (arith, order.entries))) ∙ ap (λ k. get_or ps k 0) same ∙ order.placed.back q (omega (arith, order.entries)))

  -- a name has the same history
  pub history_named-in_order : (name : List ℕ) → history_named name (in_order ds ns) ≡ history_named name ds
  history_named-in_order name = by_found (history_named name ds) refl
    where
      by_found : (o : Option History) → history_named name ds ≡ o → history_named name (in_order ds ns) ≡ o
      by_found None new = IsNew-in_order name ds ns (λ p d lt at. other_name name ds (get_or ns p 0) d new at)
      by_found (Some h) at =
          let f = found name ds h at in
          let within : f.0 < length ds = slice_get_within ds f.0 f.1 f.2 in
          let there : slice_get (in_order ds ns) (get_or ps f.0 0) ≡ Some f.1 = in_order-at ds ns ps f.0 order within ∙ f.2 in
          subst (λ (n : List ℕ). history_named n (in_order ds ns) ≡ Some h) f.3
          (history_named-at (in_order ds ns) (get_or ps f.0 0) f.1 AreDistinct-in_order there ∙ ap Some f.4)
