-- What a link keeps, from the laws of its slot.
use Rattle.std.proofs.Common.{◌≡◌, ℕ, ◌≤◌, List, length, Option, Some, None, IsSome, IsSomeAnd, Result, Ok, refl, sym, ap, ◌∙◌, arith}
use Rattle.std.specs.List.{insert}
use Rattle.map_model.specs.Document.{DocumentParts}
use Rattle.map_model.specs.Lens.{Lens, IsLawfulLens}
use Rattle.map_model.specs.Slot.{Slot, IsLawfulSlot, slot_in}
use Rattle.map_model.proofs.Changes.{length-insert}
use Rattle.command_api.specs.Names.{Names, Never}
use Rattle.command_api.specs.Making.{Makes}
use Rattle.command_api.specs.Exchange.{IsExchanged, change_of}
use Rattle.command_api.specs.Link.{linked, FitsLink, link}

some_item : {X : Type 0} (o : Option X) → IsSome o → (x : X) × (o ≡ Some x)
some_item None h = cc
some_item (Some x) h = (x, refl)

-- the held link is put in
pub linked_in : {X : Type 0} {names : Names} {s : Slot X} {held new : Option (Option X)} {d e : DocumentParts} → IsLawfulSlot s → FitsLink s held d
    → (loose : Option X) → held ≡ Some loose → new ≡ None → IsSomeAnd loose (λ x. e ≡ s.with_item x d) → IsExchanged (link names s held) (link names s new) d e
linked_in laws fits None holds none is = absurd is
linked_in {s = s} {d = d} laws fits (Some x) holds none is =
    let f : FitsLink s (Some (Some x)) d = rw holds at fits in
    let back = laws.without-with x d f.ready in
    rw (holds, none, is) (
    record {
      document = refl;
      fits = record { ready = laws.filled x d f.ready; before = f.after; after = rw back f.before };
      back = back;
      names = refl;
      obsolete = refl;
      made = refl;
    }
    )

-- the item is taken out
pub linked_out : {X : Type 0} {names : Names} {s : Slot X} {held : Option (Option X)} {loose : Option X} {d e : DocumentParts} → IsLawfulSlot s
    → FitsLink s held d
    → held ≡ None → loose ≡ s.item d → e ≡ s.without_item d → IsExchanged (link names s held) (link names s (Some loose)) d e
linked_out {s = s} {d = d} laws fits holds given is =
    let f : FitsLink s None d = rw holds at fits in
    let found = some_item (s.item d) (laws.there d f.ready) in
    let x = found.0 in
    let back = laws.with-without x d f.ready found.1 in
    rw (holds, given, found.1, is) (
    record {
      document = refl;
      fits = record { ready = laws.vacated x d f.ready found.1; before = f.after; after = rw back f.before };
      back = back;
      names = refl;
      obsolete = refl;
      made = refl;
    }
    )

-- an edit puts the held link in, or takes the item out
pub link_made : {X E : Type 0} {names : Names} {s : Slot X} {held : Option (Option X)} {d : DocumentParts} {after : Result DocumentParts E}
    → names.vanishing ≡ Never
    → FitsLink s held d → after ≡ Ok (linked s held d) → Makes names d after (change_of (link names s held))
link_made never fits is = record {
  fits = (λ e. cc, record { fits = fits; settled = rw never refl });
  document = is;
  names = refl;
}

-- a thing more in a list changes the document
pub slot_in-differs : {X : Type 0} (p : Lens DocumentParts (List X)) → IsLawfulLens p → (k : ℕ) (x : X) (d : DocumentParts)
    → IsSomeAnd (p.get d) (λ xs. k ≤ length xs)
    → (slot_in p k).with_item x d ≡ d → ⊥
slot_in-differs {X = X} p laws k x d free same = by_list (p.get d) refl free
  where
    some-eq : (ys zs : List X) → Some ys ≡ Some zs → ys ≡ zs
    some-eq ys zs e = cc

    by_list : (o : Option (List X)) → p.get d ≡ o → IsSomeAnd o (λ xs. k ≤ length xs) → ⊥
    by_list None e h = h
    by_list (Some xs) e h =
        let equal = some-eq (insert xs k x) xs (sym (laws.get-update (λ ys. insert ys k x) xs d e) ∙ ap p.get same ∙ e) in
        let more = length-insert xs k x in
        omega (arith, more, ap length equal)
