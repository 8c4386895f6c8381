-- The word of an owner of members is the one word that is read as it.
use Rattle.std.proofs.Common.{◌≡◌, ℕ, eqb, List, [], ◌∷◌, Option, Some, None, Bor, refl, sym, ap, ◌∙◌, subst}
use Rattle.std.specs.Prelude.{codes, cond, option_and_then}
use Rattle.std.specs.Fmt.{decimal}
use Rattle.std.specs.Str.{bytes_eq}
use Rattle.std.specs.List.{slice_split}
use Rattle.std.proofs.lemmas.List.Splits.{join_with_byte-slice_split}
use Rattle.std.proofs.lemmas.Slice.Eq.{bytes_eq-Decides}
use Rattle.std.proofs.lemmas.Bool.{cond_both}
use Rattle.map_model.specs.declared.owner.MemberOwner.{MemberOwner}
use Rattle.map_model.specs.declared.owner.MemberOwner.TheVariants as members
use Rattle.map_model.specs.declared.owner.Owner.{Owner}
use Rattle.map_model.specs.declared.owner.Owner.TheVariants as owners
use Rattle.session.specs.Words.{number_of, owner_with, owner_of_pieces, owner_of, IsFirst}
use Rattle.session.specs.Words.{either_owner, member_owner_of, owner_of_members, tileset_of, tileset_of_pieces}
use Rattle.session.specs.Spelling.{IsMemberOwner, IsNumber, IsOwner, colons, member_owner_word, owner_word}
use Rattle.session.proofs.Decimals.{number_of-decimal, decimal_from}
use Rattle.session.proofs.FirstNumbers.{any_pieces}
use Rattle.session.proofs.Owners.{colon_pieces, owner_from, owner_of-word, plain_append, plain_owner}
use Rattle.session.proofs.SpacedWords.{Plain, plain_literal, plain_number}

-- ---- the word of a tileset
abbrev tileset_word : ℕ → List ℕ
tileset_word id = colons (codes "tileset" ∷ decimal id ∷ [])

tileset_pieces : (id : ℕ) → IsNumber id → slice_split (λ b. eqb b 58) (tileset_word id) ≡ codes "tileset" ∷ decimal id ∷ []
tileset_pieces id h = colon_pieces (codes "tileset") id (refl, (refl, (refl, (refl, (refl, (refl, (refl, tt))))))) h

tileset_of-word : (id : ℕ) → IsNumber id → tileset_of (tileset_word id) ≡ Some id
tileset_of-word id h = ap tileset_of_pieces (tileset_pieces id h) ∙ number_of-decimal id h

owner_of-tileset : (id : ℕ) → IsNumber id → owner_of (tileset_word id) ≡ None
owner_of-tileset id h = ap owner_of_pieces (tileset_pieces id h) ∙ ap (option_and_then (owner_with (codes "tileset"))) (number_of-decimal id h)

pieces_from : (pieces : List (List ℕ)) (id : ℕ) → tileset_of_pieces pieces ≡ Some id → (tileset_word id ≡ colons pieces) × IsNumber id
pieces_from [] id e = absurd cc
pieces_from (kind ∷ []) id e = absurd cc
pieces_from (kind ∷ w ∷ []) id e =
    cond_both (bytes_eq kind (codes "tileset")) (number_of w) None (λ o. o ≡ Some id → (tileset_word id ≡ colons (kind ∷ w ∷ [])) × IsNumber id)
    (λ is q. let spelled = decimal_from w id q in (
      ap (λ k. colons (k ∷ decimal id ∷ [])) (sym ((bytes_eq-Decides kind (codes "tileset")).0 is)) ∙ ap (λ v. colons (kind ∷ v ∷ [])) spelled.0,
      spelled.1,
    ))
    (λ _ q. absurd cc) e
pieces_from (kind ∷ w ∷ piece ∷ pieces) id e = absurd cc

tileset_from : (word : List ℕ) (id : ℕ) → tileset_of word ≡ Some id → (tileset_word id ≡ word) × IsNumber id
tileset_from word id e = let found = pieces_from (slice_split (λ b. eqb b 58) word) id e in (found.0 ∙ join_with_byte-slice_split 58 word, found.1)

-- ---- what has properties
same_word : (owner : Owner) → member_owner_word (owner_of_members owner) ≡ owner_word owner
same_word owners.Map = refl
same_word (owners.Layer id) = refl
same_word (owners.Object id) = refl

is_member_owner : (owner : Owner) → IsOwner owner → IsMemberOwner (owner_of_members owner)
is_member_owner owners.Map h = h
is_member_owner (owners.Layer id) h = h
is_member_owner (owners.Object id) h = h

-- ---- the word of an owner
pub member_owner_of-word : (owner : MemberOwner) → IsMemberOwner owner → member_owner_of (member_owner_word owner) ≡ Some owner
member_owner_of-word members.Map h = ap (λ o. either_owner o (tileset_of (owner_word owners.Map))) (owner_of-word owners.Map h)
member_owner_of-word (members.Layer id) h = ap (λ o. either_owner o (tileset_of (owner_word (owners.Layer id)))) (owner_of-word (owners.Layer id) h)
member_owner_of-word (members.Object id) h = ap (λ o. either_owner o (tileset_of (owner_word (owners.Object id)))) (owner_of-word (owners.Object id) h)
member_owner_of-word (members.Tileset id) h =
    ap (λ o. either_owner o (tileset_of (tileset_word id))) (owner_of-tileset id h) ∙ ap (either_owner None) (tileset_of-word id h)

pub member_owner_from : (word : List ℕ) (owner : MemberOwner) → member_owner_of word ≡ Some owner → (member_owner_word owner ≡ word) × IsMemberOwner owner
member_owner_from word owner e = by_owner (owner_of word) refl e
  where
    by_tileset : (t : Option ℕ) → tileset_of word ≡ t → either_owner None t ≡ Some owner → (member_owner_word owner ≡ word) × IsMemberOwner owner
    by_tileset None q g = absurd cc
    by_tileset (Some id) q g =
        let same : members.Tileset id ≡ owner = cc in
        let found = tileset_from word id q in
        subst (λ o. (member_owner_word o ≡ word) × IsMemberOwner o) same (found.0, found.1)

    by_owner : (o : Option Owner) → owner_of word ≡ o → either_owner o (tileset_of word) ≡ Some owner
        → (member_owner_word owner ≡ word) × IsMemberOwner owner
    by_owner None q g = by_tileset (tileset_of word) refl g
    by_owner (Some o) q g =
        let same : owner_of_members o ≡ owner = cc in
        let found = owner_from word o q in
        subst (λ x. (member_owner_word x ≡ word) × IsMemberOwner x) same (same_word o ∙ found.0, is_member_owner o found.1)

pub plain_member_owner : (owner : MemberOwner) → IsMemberOwner owner → Plain (member_owner_word owner)
plain_member_owner members.Map h = plain_owner owners.Map h
plain_member_owner (members.Layer id) h = plain_owner (owners.Layer id) h
plain_member_owner (members.Object id) h = plain_owner (owners.Object id) h
plain_member_owner (members.Tileset id) h = record {
  bytes = plain_append (codes "tileset:") (decimal id) (plain_literal (codes "tileset:") refl).bytes
      (plain_number id h).bytes;
}

-- ---- the piece behind the first colon
by_kind : (kind : List ℕ) (o : Option ℕ) → o ≡ None → cond (bytes_eq kind (codes "tileset")) o None ≡ None
by_kind kind o e = cond_both (bytes_eq kind (codes "tileset")) o None (λ r. r ≡ None) (λ _. e) (λ _. refl)

pub tileset_none : (kind : List ℕ) (ps : List (List ℕ)) → IsFirst number_of ps 58 None → tileset_of_pieces (kind ∷ ps) ≡ None
tileset_none kind [] h = absurd h
tileset_none kind (w ∷ []) h = by_kind kind (number_of w) h
tileset_none kind (w ∷ v ∷ ws) h = refl

pub tileset_more : (kind : List ℕ) (ps : List (List ℕ)) (id : ℕ) (rest : Bor (List ℕ)) → IsFirst number_of ps 58 (Some (id, Some rest))
    → tileset_of_pieces (kind ∷ ps) ≡ None
tileset_more kind [] id rest h = absurd h
tileset_more kind (w ∷ []) id rest h = let more = any_pieces 58 rest.now in absurd (clash _ _ (h.1 ∙ more.are))
  where
    clash : (p : List ℕ) (ps : List (List ℕ)) → [] ≡ p ∷ ps → ⊥
    clash p ps e = cc
tileset_more kind (w ∷ v ∷ ws) id rest h = refl
