-- The stacks of a group by name, as documents: what a look-up, a number and each change of them say of the group.
use Rattle.std.proofs.Common.{◌≡◌, ℕ, zero, suc, ◌++◌, List, [], ◌∷◌, map, take, drop, remove, slice_get, position, Bool, false, Option, Some, None, IfSome}
use Rattle.std.proofs.Common.{All, refl, ◌∙◌, ap, arith, ◌<◌, length}
use Rattle.std.proofs.lemmas.Grind.{common_steps}
use Rattle.std.proofs.lemmas.List.{length-map, map-append}
use Rattle.std.proofs.lemmas.List.Elements.{All-cons, All-head, All-tail}
use Rattle.std.proofs.lemmas.List.Quantifiers.{position-Some}
use Rattle.std.proofs.lemmas.Option.{slice_get-map, gets}
use Rattle.std.proofs.lemmas.Slice.Eq.{bytes_eq-Decides}
use Rattle.std.specs.List.{IsDistinct, AllByRecursion}
use Rattle.std.specs.Map.{keys_of, lookup}
use Rattle.std.specs.Option.{option_map}
use Rattle.std.specs.Str.{bytes_eq}
use Rattle.std.specs.String.{string_bytes, string_eq}
use Rattle.std.specs.declared.string.String.{String}
use Rattle.indexmap.specs.Layout.{set_value_at}
use Rattle.indexmap.proofs.SetLemmas.{map-remove}
use Rattle.command_api.specs.Law.{Change}
use Rattle.undo_stack.specs.Stacks.{history, Holds}
use Rattle.undo_stack.specs.declared.stack.Stack.{Stack}
use Rattle.undo_group.specs.Groups.{IsNew, AreDistinct, history_named, with_history, removed, added, with_active}
use Rattle.undo_group.specs.Stacks.{document_of, documents_of, name_at, group_at, named, stack_at, stack_named}
use Rattle.undo_group.specs.Stacks.{IsReplaced, IsTakenOut, NamedStack}
use Rattle.undo_group.proofs.Documents.{history_named-at, with_history-new, group_at-remove, place_without}

-- the test by which a name is looked up
abbrev pub is_name : {Y : Type 0} → List ℕ → String Y → Bool
is_name name k = bytes_eq name (string_bytes k)

module _ {C : Type 0} (f : C → Change) {Y : Type 0} where
  -- a look-up of a document is one of its stack
  pub history_named-documents_of : (name : List ℕ) (es : List (String Y × Stack C))
      → history_named name (documents_of f es) ≡ option_map (history f) (lookup (is_name name) es)
  history_named-documents_of name [] = refl
  history_named-documents_of name (e ∷ es) = grind (arith, history_named-documents_of name es)

  -- distinct keys are distinct names
  IsNew-documents_of : (k : String Y) (es : List (String Y × Stack C)) → AllByRecursion (λ y. string_eq k y ≡ false) (keys_of es)
      → IsNew (string_bytes k) (documents_of f es)
  IsNew-documents_of k [] apart = refl
  IsNew-documents_of k (e ∷ es) apart = grind (arith, IsNew-documents_of k es apart.1)

  pub AreDistinct-documents_of : (es : List (String Y × Stack C)) → IsDistinct string_eq (keys_of es) → AreDistinct (documents_of f es)
  unfolding IsDistinct
  AreDistinct-documents_of [] distinct = tt
  AreDistinct-documents_of (e ∷ es) distinct = (IsNew-documents_of e.0 es distinct.0, AreDistinct-documents_of es distinct.1)

  -- the names of the documents are the keys
  pub names-documents_of : (es : List (String Y × Stack C)) → map (λ d. d.name) (documents_of f es) ≡ map string_bytes (keys_of es)
  names-documents_of [] = refl
  names-documents_of (e ∷ es) = ap (λ ns. string_bytes e.0 ∷ ns) (names-documents_of es)

  -- a look-up of a name
  stack_named-stacks : (name : List ℕ) (es : List (String Y × Stack C))
      → stack_named name (map (λ e. named (string_bytes e.0) e.1) es) ≡ lookup (is_name name) es
  stack_named-stacks name [] = refl
  stack_named-stacks name (e ∷ es) = grind (arith, stack_named-stacks name es)

  -- the stack at a number is the one of its name
  stack_named-at : (es : List (String Y × Stack C)) (i : ℕ) (e : String Y × Stack C) → AreDistinct (documents_of f es) → slice_get es i ≡ Some e
      → stack_named (string_bytes e.0) (map (λ e. named (string_bytes e.0) e.1) es) ≡ Some e.1
  stack_named-at [] i e distinct at = absurd cc
  stack_named-at (x ∷ es) zero e distinct at = grind (arith, bytes_eq-Decides)
  stack_named-at (x ∷ es) (suc i) e distinct at =
      grind (
        arith,
        bytes_eq-Decides,
        stack_named-at es i e distinct.1,
        history_named-at (documents_of f es) i (document_of f e) distinct.1,
        slice_get-map (document_of f) es,
      )

  pub stack_at-number : (es : List (String Y × Stack C)) (i : ℕ) → AreDistinct (documents_of f es)
      → stack_at (name_at (documents_of f es) (Some i)) (map (λ e. named (string_bytes e.0) e.1) es) ≡ option_map (λ e. e.1) (slice_get es i)
  stack_at-number es i distinct = by_entry (slice_get es i) refl
    where
      by_entry : (o : Option (String Y × Stack C)) → slice_get es i ≡ o
          → stack_at (name_at (documents_of f es) (Some i)) (map (λ e. named (string_bytes e.0) e.1) es) ≡ option_map (λ e. e.1) (slice_get es i)
      by_entry None none =
          let name : name_at (documents_of f es) (Some i) ≡ None = grind (arith, slice_get-map) in
          rw (name, none) refl
      by_entry (Some e) at =
          let name : name_at (documents_of f es) (Some i) ≡ Some (string_bytes e.0) = grind (arith, slice_get-map) in
          rw (name, at) (stack_named-at es i e distinct at)

  -- the name at a number
  pub name_at-entry : (es : List (String Y × Stack C)) (i : ℕ) (e : String Y × Stack C) → slice_get es i ≡ Some e
      → name_at (documents_of f es) (Some i) ≡ Some (string_bytes e.0)
  name_at-entry es i e at = ap (option_map (λ d. d.name)) (slice_get-map (document_of f) es i ∙ ap (option_map (document_of f)) at)

  -- a stack that is written at a number is the history of the document there, and the stacks hold where it does
  documents_of-set_value_at : (es : List (String Y × Stack C)) (i : ℕ) (e : String Y × Stack C) (w : Stack C) → AreDistinct (documents_of f es)
      → slice_get es i ≡ Some e
      → documents_of f (set_value_at es i w) ≡ with_history (string_bytes e.0) (history f w) (documents_of f es)
  documents_of-set_value_at [] i e w distinct at = refl
  documents_of-set_value_at (x ∷ es) zero e w distinct at = grind (arith, bytes_eq-Decides, with_history-new)
  documents_of-set_value_at (x ∷ es) (suc i) e w distinct at =
      grind (
        arith,
        bytes_eq-Decides,
        documents_of-set_value_at es i e w distinct.1,
        history_named-at (documents_of f es) i (document_of f e) distinct.1,
        slice_get-map (document_of f) es i,
      )

  pub All-set_value_at : (es : List (String Y × Stack C)) (i : ℕ) (w : Stack C) → Holds f w → All (λ e. Holds f e.1) es
      → All (λ e. Holds f e.1) (set_value_at es i w)
  All-set_value_at [] i w here all = all
  All-set_value_at (e ∷ es) zero w here all = All-cons (λ x. Holds f x.1) (e.0, w) es here (All-tail (λ x. Holds f x.1) e es all)
  All-set_value_at (e ∷ es) (suc i) w here all =
      All-cons (λ x. Holds f x.1) e (set_value_at es i w) (All-head (λ x. Holds f x.1) e es all)
      (All-set_value_at es i w here (All-tail (λ x. Holds f x.1) e es all))

  -- the stack at a place goes
  pub removed-at : (es : List (String Y × Stack C)) (i : ℕ) (e : String Y × Stack C) (place : Option ℕ) → slice_get es i ≡ Some e → AreDistinct (documents_of f es)
      → group_at (documents_of f (remove es i)) (place_without i place) ≡ removed (string_bytes e.0) (group_at (documents_of f es) place)
  removed-at es i e place at distinct =
      rw (map-remove (document_of f) es i) (
      group_at-remove (documents_of f es) i (document_of f e) place distinct (slice_get-map (document_of f) es i ∙ ap (option_map (document_of f)) at)
      )

  -- the stack at a place is written
  pub group_at-set_value_at : (es : List (String Y × Stack C)) (i : ℕ) (e : String Y × Stack C) (w : Stack C) → slice_get es i ≡ Some e
      → AreDistinct (documents_of f es)
      → group_at (documents_of f (set_value_at es i w)) (Some i) ≡ with_active (history f w) (group_at (documents_of f es) (Some i))
  group_at-set_value_at es i e w at distinct =
      grind (arith, gets, name_at-entry es i e at, documents_of-set_value_at es i e w distinct at, slice_get-map)

  -- a stack is put last
  pub group_at-push : (es : List (String Y × Stack C)) (e : String Y × Stack C) (place : Option ℕ) → IfSome place (λ i. i < length es)
      → group_at (documents_of f (es ++ e ∷ [])) place ≡ added (string_bytes e.0) (history f e.1) (group_at (documents_of f es) place)
  group_at-push es e place within = grind (arith, common_steps, gets, map-append (document_of f) es, length-map)

-- ---- the stacks themselves
module _ {C : Type 0} {Y : Type 0} where
  -- a key and its stack, as a stack that is open under a name
  abbrev named_of : String Y × Stack C → NamedStack C
  named_of e = named (string_bytes e.0) e.1

  -- the entry at a number stands between those before it and those behind it
  between : (es : List (String Y × Stack C)) (i : ℕ) (e : String Y × Stack C) → slice_get es i ≡ Some e → es ≡ take i es ++ e ∷ drop (suc i) es
  between [] i e at = absurd cc
  between (x ∷ es) zero e at = ap (λ y. y ∷ es) (some-eq x e at)
    where
      some-eq : (v w : String Y × Stack C) → Some v ≡ Some w → v ≡ w
      some-eq v w q = cc
  between (x ∷ es) (suc i) e at = ap (λ ys. x ∷ ys) (between es i e at)

  set_value_at-between : (es : List (String Y × Stack C)) (i : ℕ) (e : String Y × Stack C) (w : Stack C) → slice_get es i ≡ Some e
      → set_value_at es i w ≡ take i es ++ (e.0, w) ∷ drop (suc i) es
  set_value_at-between [] i e w at = absurd cc
  set_value_at-between (x ∷ es) zero e w at = ap (λ (y : String Y × Stack C). (y.0, w) ∷ es) (some-eq x e at)
    where
      some-eq : (v u : String Y × Stack C) → Some v ≡ Some u → v ≡ u
      some-eq v u q = cc
  set_value_at-between (x ∷ es) (suc i) e w at = ap (λ ys. x ∷ ys) (set_value_at-between es i e w at)

  -- the stack at a place is taken out
  pub taken-at : (es : List (String Y × Stack C)) (i : ℕ) (e : String Y × Stack C) → slice_get es i ≡ Some e
      → IsTakenOut (string_bytes e.0) (map named_of es) e.1 (map named_of (remove es i))
  taken-at es i e at = record {
    first = map named_of (take i es);
    rest = map named_of (drop (suc i) es);
    was = ap (map named_of) (between es i e at) ∙ map-append named_of (take i es) (e ∷ drop (suc i) es);
    left = map-append named_of (take i es) (drop (suc i) es);
  }

  -- the stack at a place is written
  pub replaced-at : (es : List (String Y × Stack C)) (i : ℕ) (e : String Y × Stack C) (w : Stack C) → slice_get es i ≡ Some e
      → IsReplaced (string_bytes e.0) (map named_of es) w (map named_of (set_value_at es i w))
  replaced-at es i e w at = record {
    stack = e.1;
    first = map named_of (take i es);
    rest = map named_of (drop (suc i) es);
    was = ap (map named_of) (between es i e at) ∙ map-append named_of (take i es) (e ∷ drop (suc i) es);
    is = ap (map named_of) (set_value_at-between es i e w at) ∙ map-append named_of (take i es) ((e.0, w) ∷ drop (suc i) es);
  }

-- a number that was found by a name has it
pub found_name : {C : Type 0} {Y : Type 0} (name : List ℕ) (es : List (String Y × Stack C)) (i : ℕ) (e : String Y × Stack C)
    → position (is_name name) (keys_of es) ≡ Some i → slice_get es i ≡ Some e → string_bytes e.0 ≡ name
found_name name es i e found at = grind (arith, gets, slice_get-map, bytes_eq-Decides, position-Some (is_name name) (keys_of es) i e.0 found)
