-- The word of an owner is the one word that is read as it.
use Rattle.std.proofs.Common.{◌≡◌, ℕ, false, eqb, List, [], ◌∷◌, ◌++◌, Option, Some, None, Bor, refl, sym, ap, ◌∙◌, subst, arith}
use Rattle.std.specs.Prelude.{codes, option_and_then}
use Rattle.std.specs.Fmt.{decimal}
use Rattle.std.specs.Str.{bytes_eq}
use Rattle.std.specs.List.{AllByRecursion, slice_split}
use Rattle.std.proofs.lemmas.Fmt.{digits_decimal}
use Rattle.std.proofs.lemmas.List.Elements.{All-from_recursion}
use Rattle.std.proofs.lemmas.List.Splits.{slice_split_at, slice_split_none, join_with_byte-slice_split}
use Rattle.std.proofs.lemmas.Slice.Eq.{bytes_eq-Decides}
use Rattle.std.proofs.lemmas.Bool.{cond_both}
use Rattle.map_model.specs.declared.owner.Owner.{Owner}
use Rattle.map_model.specs.declared.owner.Owner.TheVariants as owners
use Rattle.session.specs.Words.{number_of, owner_with, owner_of_pieces, owner_of, IsFirst}
use Rattle.session.specs.Spelling.{colons, owner_word, IsNumber, IsOwner}
use Rattle.session.proofs.Coordinates.{and_then_from}
use Rattle.session.proofs.Decimals.{number_of-decimal, decimal_from}
use Rattle.session.proofs.Digits.{decimal_numerals}
use Rattle.session.proofs.FirstNumbers.{no_separator, any_pieces}
use Rattle.session.proofs.SpacedWords.{IsPlain, Plain, plain_literal, plain_number}

-- ---- the pieces of a kind and an id
no_colon : (id : ℕ) → IsNumber id → AllByRecursion (λ b. eqb b 58 ≡ false) (decimal id)
no_colon id h = no_separator 58 (decimal id) refl (digits_decimal decimal_numerals id (omega (arith, h)))

pub colon_pieces : (kind : List ℕ) (id : ℕ) → AllByRecursion (λ b. eqb b 58 ≡ false) kind → IsNumber id
    → slice_split (λ b. eqb b 58) (colons (kind ∷ decimal id ∷ [])) ≡ kind ∷ decimal id ∷ []
colon_pieces kind id k h =
    slice_split_at (λ b. eqb b 58) kind 58 (decimal id) (All-from_recursion _ kind k) refl
    ∙ ap (λ ws. kind ∷ ws) (slice_split_none (λ b. eqb b 58) (decimal id) (All-from_recursion _ (decimal id) (no_colon id h)))

pub owner_of-word : (owner : Owner) → IsOwner owner → owner_of (owner_word owner) ≡ Some owner
owner_of-word owners.Map h = refl
owner_of-word (owners.Layer id) h = ap owner_of_pieces (colon_pieces (codes "layer") id (refl, (refl, (refl, (refl, (refl, tt))))) h)
    ∙ ap (option_and_then (owner_with (codes "layer"))) (number_of-decimal id h)
owner_of-word (owners.Object id) h = ap owner_of_pieces (colon_pieces (codes "object") id (refl, (refl, (refl, (refl, (refl, (refl, tt)))))) h)
    ∙ ap (option_and_then (owner_with (codes "object"))) (number_of-decimal id h)

-- ---- an owner that is read
with_from : (kind : List ℕ) (id : ℕ) (owner : Owner) → owner_with kind id ≡ Some owner → IsNumber id
    → (owner_word owner ≡ colons (kind ∷ decimal id ∷ [])) × IsOwner owner
with_from kind id owner e h =
    let P : Option Owner → Type 0 = λ o. o ≡ Some owner → (owner_word owner ≡ colons (kind ∷ decimal id ∷ [])) × IsOwner owner in
    cond_both (bytes_eq kind (codes "layer")) (Some (owners.Layer id)) _ P
    (λ is q. let same : owners.Layer id ≡ owner = cc in subst (λ o. (owner_word o ≡ colons (kind ∷ decimal id ∷ [])) × IsOwner o) same
    (ap (λ k. colons (k ∷ decimal id ∷ [])) (sym ((bytes_eq-Decides kind (codes "layer")).0 is)), h))
    (λ _. cond_both (bytes_eq kind (codes "object")) (Some (owners.Object id)) None P
    (λ is q. let same : owners.Object id ≡ owner = cc in subst (λ o. (owner_word o ≡ colons (kind ∷ decimal id ∷ [])) × IsOwner o) same
    (ap (λ k. colons (k ∷ decimal id ∷ [])) (sym ((bytes_eq-Decides kind (codes "object")).0 is)), h))
    (λ _ q. absurd cc)) e

pieces_from : (pieces : List (List ℕ)) (owner : Owner) → owner_of_pieces pieces ≡ Some owner → (owner_word owner ≡ colons pieces) × IsOwner owner
pieces_from [] owner e = absurd cc
pieces_from (kind ∷ []) owner e =
    let P : Option Owner → Type 0 = λ o. o ≡ Some owner → (owner_word owner ≡ colons (kind ∷ [])) × IsOwner owner in
    cond_both (bytes_eq kind (codes "map")) (Some owners.Map) None P
    (λ is q. let same : owners.Map ≡ owner = cc in subst (λ o. (owner_word o ≡ colons (kind ∷ [])) × IsOwner o) same
    (sym ((bytes_eq-Decides kind (codes "map")).0 is), tt))
    (λ _ q. absurd cc) e
pieces_from (kind ∷ id ∷ []) owner e =
    let inner = and_then_from (owner_with kind) (number_of id) owner e in
    let spelled = decimal_from id inner.0 inner.1 in
    let found = with_from kind inner.0 owner inner.2 spelled.1 in
    (found.0 ∙ ap (λ w. colons (kind ∷ w ∷ [])) spelled.0, found.1)
pieces_from (kind ∷ id ∷ piece ∷ pieces) owner e = absurd cc

pub owner_from : (word : List ℕ) (owner : Owner) → owner_of word ≡ Some owner → (owner_word owner ≡ word) × IsOwner owner
owner_from word owner e = let found = pieces_from (slice_split (λ b. eqb b 58) word) owner e in (found.0 ∙ join_with_byte-slice_split 58 word, found.1)

-- ---- plain bytes
pub plain_append : (a b : List ℕ) → AllByRecursion IsPlain a → AllByRecursion IsPlain b → AllByRecursion IsPlain (a ++ b)
plain_append [] b h k = k
plain_append (x ∷ a) b h k = (h.0, plain_append a b h.1 k)

pub plain_owner : (owner : Owner) → IsOwner owner → Plain (owner_word owner)
plain_owner owners.Map h = plain_literal (codes "map") refl
plain_owner (owners.Layer id) h = record {
  bytes = plain_append (codes "layer:") (decimal id) (plain_literal (codes "layer:") refl).bytes
      (plain_number id h).bytes;
}
plain_owner (owners.Object id) h = record {
  bytes = plain_append (codes "object:") (decimal id) (plain_literal (codes "object:") refl).bytes
      (plain_number id h).bytes;
}

-- ---- the piece behind the first colon
pub owner_none : (kind : List ℕ) (ps : List (List ℕ)) → IsFirst number_of ps 58 None → owner_of_pieces (kind ∷ ps) ≡ None
owner_none kind [] h = absurd h
owner_none kind (w ∷ []) h = ap (option_and_then (owner_with kind)) h
owner_none kind (w ∷ v ∷ ws) h = refl

pub owner_more : (kind : List ℕ) (ps : List (List ℕ)) (id : ℕ) (rest : Bor (List ℕ)) → IsFirst number_of ps 58 (Some (id, Some rest))
    → owner_of_pieces (kind ∷ ps) ≡ None
owner_more kind [] id rest h = absurd h
owner_more kind (w ∷ []) id rest h = let more = any_pieces 58 rest.now in absurd (clash _ _ (h.1 ∙ more.are))
  where
    clash : (p : List ℕ) (ps : List (List ℕ)) → [] ≡ p ∷ ps → ⊥
    clash p ps e = cc
owner_more kind (w ∷ v ∷ ws) id rest h = refl
