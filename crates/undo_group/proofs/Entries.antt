-- A group, whose entries are told in order of opening: what its numbers say of the documents, and what each change leaves.
use Rattle.std.proofs.Common.{◌≡◌, ◌≢◌, ℕ, suc, ◌+◌, ◌-◌, ◌<◌, ◌≤◌, ◌==◌, nat_lt, ◌⊎◌, inl, inr, ◌++◌, position, List}
use Rattle.std.proofs.Common.{[], ◌∷◌, length, map, remove, get_or, slice_get, Bool, true, false, Option, Some, None, IfSome, is_some, option_and_then}
use Rattle.std.proofs.Common.{refl, sym, ◌∙◌, ap, subst, arith, if◌then◌else◌}
use Rattle.std.proofs.lemmas.Bool.{cases_lt}
use Rattle.std.proofs.lemmas.Bool.Decides.{nat_tests}
use Rattle.std.proofs.lemmas.Grind.{elements}
use Rattle.std.proofs.lemmas.List.{length-append, length-map, map-append}
use Rattle.std.proofs.lemmas.List.Elements.{All-push, All-set, All-take}
use Rattle.std.proofs.lemmas.Option.{gets, get_or_from_slice_get, slice_get-get_or, slice_get-map, slice_get_past, slice_get_within}
use Rattle.std.specs.List.{IsDistinct, swap_remove}
use Rattle.std.specs.Map.{keys_of, lookup}
use Rattle.std.specs.Option.{option_map}
use Rattle.std.specs.String.{string_bytes, string_eq}
use Rattle.std.specs.declared.string.String.{String}
use Rattle.std.specs.declared.alloc.Global.{Global}
use Rattle.indexmap.specs.Layout.{set_value_at, length-set_value_at}
use Rattle.indexmap.specs.IndexMap.{insert_entry, with_value_at}
use Rattle.indexmap.proofs.CallerLemmas.{insert_entry-new, keys-with_value_at}
use Rattle.command_api.specs.Law.{Change}
use Rattle.undo_stack.specs.Stacks.{history, Holds}
use Rattle.undo_stack.specs.declared.stack.Stack.{Stack}
use Rattle.undo_stack.specs.History.{History}
use Rattle.undo_group.specs.Groups.{AreDistinct, GroupParts, active_history, active_place, added, chosen, history_named, removed}
use Rattle.undo_group.specs.Lending.{IsLeft}
use Rattle.undo_group.specs.Order.{ArePlaced, IsOrder, IsTakenFrom, in_order, number_after, number_left, order_of, place_in}
use Rattle.undo_group.specs.Stacks.{AreHeld, IsTakenOut, document_of, documents_of, entries_of, group_of, name_at, named, stack_at, stacks_of}
use Rattle.undo_group.specs.declared.group.Group.{Group}
use Rattle.undo_group.proofs.Documents.{active_history-at, active_place-at, place_without}
use Rattle.undo_group.proofs.Lookups.{none_from_is_some}
use Rattle.undo_group.proofs.NamedStacks.{AreDistinct-documents_of, All-set_value_at, found_name, group_at-push, group_at-set_value_at, history_named-documents_of}
use Rattle.undo_group.proofs.NamedStacks.{is_name, name_at-entry, removed-at, replaced-at, stack_at-number, taken-at}
use Rattle.undo_group.proofs.Ordered.{in_order-at, in_order-push, in_order-set_value_at, in_order-take, length-in_order, map-in_order, slice_get-in_order}
use Rattle.undo_group.proofs.Shifting.{placed_of}
use Rattle.undo_group.proofs.OrderedDocuments.{AreDistinct-in_order, history_named-in_order}

-- a new name goes last
pub inserted_last : {C : Type 0} (g : Group C) (name : List ℕ) (key : String Global) (stack : Stack C) (es : List (String Global × Stack C))
    → string_bytes key ≡ name → is_some (lookup (is_name name) g.stacks.entries) ≡ false → es ≡ insert_entry string_eq g.stacks.entries key stack
    → es ≡ g.stacks.entries ++ (key, stack) ∷ []
inserted_last g name key stack es named absent inserted =
    let none : is_some (lookup (string_eq key) g.stacks.entries) ≡ false = ap (λ n. is_some (lookup (is_name n) g.stacks.entries)) named ∙ absent in
    inserted ∙ insert_entry-new string_eq g.stacks key stack (none_from_is_some _ none)

-- the place of a number that is not taken out, once one is and its own is given to the last
new_place : (ns ps ms qs : List ℕ) (n gone at : ℕ) → ArePlaced ns ps n → gone < n → ArePlaced ms qs (n - 1) → IsTakenFrom ns (get_or ps gone 0) gone ms
    → at < n → at ≢ gone
    → get_or qs (number_after gone (n - 1) at) 0 ≡ (if nat_lt (get_or ps gone 0) (get_or ps at 0) then get_or ps at 0 - 1 else get_or ps at 0)
new_place ns ps ms qs n gone at order lt left taken within other = by_side (cases_lt (get_or ps at 0) (get_or ps gone 0))
  where
    by_side : (get_or ps at 0 < get_or ps gone 0) ⊎ (get_or ps gone 0 ≤ get_or ps at 0)
        → get_or qs (number_after gone (n - 1) at) 0 ≡ (if nat_lt (get_or ps gone 0) (get_or ps at 0) then get_or ps at 0 - 1 else get_or ps at 0)
    by_side (inl before) =
        let test : nat_lt (get_or ps gone 0) (get_or ps at 0) ≡ false = grind (arith, nat_tests) in
        let here : get_or ms (get_or ps at 0) 0 ≡ number_after gone (n - 1) at =
        taken.before (get_or ps at 0) before ∙ rw (order.entries, order.numbered.back at within) refl in
        let below : get_or ps at 0 < n - 1 = omega (arith, order.numbered.within gone lt) in
        rw test (ap (λ k. get_or qs k 0) (sym here) ∙ left.placed.back (get_or ps at 0) below)
    by_side (inr from) =
        let apart : get_or ps at 0 ≢ get_or ps gone 0 =
        λ same. other (sym (order.numbered.back at within) ∙ ap (λ k. get_or ns k 0) same ∙ order.numbered.back gone lt) in
        let test : nat_lt (get_or ps gone 0) (get_or ps at 0) ≡ true = grind (arith, nat_tests) in
        let on : get_or ps at 0 - 1 + 1 ≡ get_or ps at 0 = omega arith in
        let small : get_or ps at 0 < n = order.numbered.within at within in
        let here : get_or ms (get_or ps at 0 - 1) 0 ≡ number_after gone (n - 1) at =
        taken.behind (get_or ps at 0 - 1) (omega arith) (omega (arith, order.entries)) ∙ rw (on, order.entries, order.numbered.back at within) refl in
        let below : get_or ps at 0 - 1 < n - 1 = omega arith in
        rw test (ap (λ k. get_or qs k 0) (sym here) ∙ left.placed.back (get_or ps at 0 - 1) below)

-- so it is with the place of the active one
place_in-left : (ns ps ms qs : List ℕ) (n gone : ℕ) (active : Option ℕ) → ArePlaced ns ps n → gone < n → ArePlaced ms qs (n - 1)
    → IsTakenFrom ns (get_or ps gone 0) gone ms
    → IfSome active (λ at. at < n)
    → option_map (λ k. get_or qs k 0) (number_left gone (n - 1) active) ≡ place_without (get_or ps gone 0) (option_map (λ k. get_or ps k 0) active)
place_in-left ns ps ms qs n gone None order lt left taken within = refl
place_in-left ns ps ms qs n gone (Some at) order lt left taken within = by_test (at == gone) refl
  where
    by_test : (b : Bool) → (at == gone) ≡ b
        → option_map (λ k. get_or qs k 0) (number_left gone (n - 1) (Some at)) ≡ place_without (get_or ps gone 0) (Some (get_or ps at 0))
    by_test true is =
        let same : at ≡ gone = grind (arith, nat_tests) in
        let test : (get_or ps at 0 == get_or ps gone 0) ≡ true = grind (arith, nat_tests) in
        rw (is, test) refl
    by_test false is =
        let other : at ≢ gone = grind (arith, nat_tests) in
        let apart : get_or ps at 0 ≢ get_or ps gone 0 =
        λ same. other (sym (order.numbered.back at within) ∙ ap (λ k. get_or ns k 0) same ∙ order.numbered.back gone lt) in
        let test : (get_or ps at 0 == get_or ps gone 0) ≡ false = grind (arith, nat_tests) in
        rw (is, test) (ap Some (new_place ns ps ms qs n gone at order lt left taken within other))

-- the number of the active one is still among them
number_left-within : (n gone : ℕ) (active : Option ℕ) → gone < n → IfSome active (λ at. at < n) → IfSome (number_left gone (n - 1) active) (λ at. at < n - 1)
number_left-within n gone None lt within = tt
number_left-within n gone (Some at) lt within = by_test (at == gone) refl
  where
    by_test : (b : Bool) → (at == gone) ≡ b → IfSome (number_left gone (n - 1) (Some at)) (λ at. at < n - 1)
    by_test true is = rw is tt
    by_test false is = rw is (by_last (at == (n - 1)) refl)
      where
        by_last : (b : Bool) → (at == (n - 1)) ≡ b → (if b then gone else at) < n - 1
        by_last true last = grind (arith, nat_tests)
        by_last false last = grind (arith, nat_tests)

module _ {C : Type 0} (f : C → Change) (g : Group C) (held : AreHeld f g) where
  placed : ArePlaced (order_of g.order) g.order.places.items (length g.stacks.entries)
  placed = placed_of g.order (length g.stacks.entries) held.order

  length-entries : length (entries_of g) ≡ length g.stacks.entries
  length-entries =
      length-in_order g.stacks.entries (order_of g.order) (λ p lt. placed.placed.within p (omega (arith, placed.entries))) ∙ placed.entries

  -- the place of the active one is one of theirs
  place_within : (n : ℕ) → n ≡ length g.stacks.entries → IfSome (place_in g.order g.active) (λ p. p < n)
  place_within n count = by_active g.active held.within
    where
      by_active : (o : Option ℕ) → IfSome o (λ at. at < length g.stacks.entries) → IfSome (place_in g.order o) (λ p. p < n)
      by_active None within = tt
      by_active (Some at) within = rw count (placed.numbered.within at within)

  -- the documents have distinct names
  pub distinct_documents : AreDistinct (documents_of f (entries_of g))
  distinct_documents =
      subst (λ ds. AreDistinct ds) (sym (map-in_order (document_of f) g.stacks.entries (order_of g.order))) (
      AreDistinct-in_order (documents_of f g.stacks.entries) (order_of g.order) g.order.places.items
      (AreDistinct-documents_of f g.stacks.entries held.distinct) (rw (length-map g.stacks.entries (document_of f)) placed)
      )

  -- there are as many as entries
  pub length-documents : length (documents_of f (entries_of g)) ≡ length g.stacks.entries
  length-documents =
      length-map (entries_of g) (document_of f) ∙ length-entries

  -- a look-up of a document is one of its stack
  pub history_named-entries : (name : List ℕ)
      → history_named name (documents_of f (entries_of g)) ≡ option_map (history f) (lookup (is_name name) g.stacks.entries)
  history_named-entries name =
      ap (history_named name) (map-in_order (document_of f) g.stacks.entries (order_of g.order))
      ∙ history_named-in_order (documents_of f g.stacks.entries) (order_of g.order) g.order.places.items
      (AreDistinct-documents_of f g.stacks.entries held.distinct) (rw (length-map g.stacks.entries (document_of f)) placed) name
      ∙ history_named-documents_of f name g.stacks.entries

  -- the entry with a number stands at its place
  pub entry_at-place : (i : ℕ) → i < length g.stacks.entries
      → slice_get (entries_of g) (get_or g.order.places.items i 0) ≡ slice_get g.stacks.entries i
  entry_at-place i lt = in_order-at g.stacks.entries (order_of g.order) g.order.places.items i placed lt

  -- what stands at a place
  pub slice_get-entries : (p : ℕ) → slice_get (entries_of g) p ≡ option_and_then (slice_get g.stacks.entries) (slice_get (order_of g.order) p)
  slice_get-entries p = by_number (slice_get (order_of g.order) p) refl
    where
      among : (p : ℕ) → p < length (order_of g.order) → get_or (order_of g.order) p 0 < length g.stacks.entries
      among p lt = placed.placed.within p (omega (arith, placed.entries))

      by_number : (o : Option ℕ) → slice_get (order_of g.order) p ≡ o → slice_get (entries_of g) p ≡ option_and_then (slice_get g.stacks.entries) o
      by_number None none =
          slice_get_past (entries_of g) p (grind (arith, gets, length-in_order g.stacks.entries (order_of g.order) among))
      by_number (Some k) at =
          slice_get-in_order g.stacks.entries (order_of g.order) p among (slice_get_within (order_of g.order) p k at)
          ∙ ap (slice_get g.stacks.entries) (get_or_from_slice_get (order_of g.order) p k 0 at)

  pub number_within : (p : ℕ) → IfSome (slice_get (order_of g.order) p) (λ k. k < length g.stacks.entries)
  number_within p = by_number (slice_get (order_of g.order) p) refl
    where
      by_number : (o : Option ℕ) → slice_get (order_of g.order) p ≡ o → IfSome o (λ k. k < length g.stacks.entries)
      by_number None none = tt
      by_number (Some k) at =
          subst (λ (j : ℕ). j < length g.stacks.entries) (get_or_from_slice_get (order_of g.order) p k 0 at)
          (placed.placed.within p (omega (arith, placed.entries, slice_get_within (order_of g.order) p k at)))

  pub slice_get-documents : (p : ℕ)
      → slice_get (documents_of f (entries_of g)) p ≡ option_map (document_of f) (option_and_then (slice_get g.stacks.entries) (slice_get (order_of g.order) p))
  slice_get-documents p = slice_get-map (document_of f) (entries_of g) p ∙ ap (option_map (document_of f)) (slice_get-entries p)

  -- the active one is the entry with the active number
  place_in-active : (i : ℕ) → g.active ≡ Some i → place_in g.order g.active ≡ Some (get_or g.order.places.items i 0)
  place_in-active i is = ap (place_in g.order) is

  active_within : (i : ℕ) → g.active ≡ Some i → i < length g.stacks.entries
  active_within i is = rw is at held.within

  pub active_history-number : (i : ℕ) → g.active ≡ Some i
      → active_history (group_of f g) ≡ option_map (λ e. history f e.1) (slice_get g.stacks.entries i)
  active_history-number i is =
      let p : ℕ = get_or g.order.places.items i 0 in
      rw (place_in-active i is) (
      active_history-at (documents_of f (entries_of g)) p distinct_documents
      ∙ ap (option_map (λ d. d.history)) (slice_get-map (document_of f) (entries_of g) p ∙ ap (option_map (document_of f)) (entry_at-place i (active_within i is)))
      ∙ twice (slice_get g.stacks.entries i)
      )
    where
      twice : (o : Option (String Global × Stack C)) → option_map (λ d. d.history) (option_map (document_of f) o) ≡ option_map (λ e. history f e.1) o
      twice None = refl
      twice (Some e) = refl

  pub stack_at-active : (i : ℕ) → g.active ≡ Some i → stack_at (group_of f g).active (stacks_of g) ≡ option_map (λ e. e.1) (slice_get g.stacks.entries i)
  stack_at-active i is =
      rw (place_in-active i is) (
      stack_at-number f (entries_of g) (get_or g.order.places.items i 0) distinct_documents
      ∙ ap (option_map (λ e. e.1)) (entry_at-place i (active_within i is))
      )

  pub active_name-number : (i : ℕ) (e : String Global × Stack C) → g.active ≡ Some i → slice_get g.stacks.entries i ≡ Some e
      → (group_of f g).active ≡ Some (string_bytes e.0)
  active_name-number i e is at =
      let p : ℕ = get_or g.order.places.items i 0 in
      ap (name_at (documents_of f (entries_of g))) (place_in-active i is)
      ∙ name_at-entry f (entries_of g) p e (entry_at-place i (active_within i is) ∙ at)

  -- and its place is that of the active document
  pub active_place-number : active_place (group_of f g) ≡ place_in g.order g.active
  active_place-number =
      active_place-at (documents_of f (entries_of g)) (place_in g.order g.active) distinct_documents
      (place_within (length (documents_of f (entries_of g))) length-documents)

  -- the one that stands last was opened last
  pub group_of-last : (name : List ℕ) (h : History) (old : GroupParts) → group_of f g ≡ added name h old
      → group_of f (record { stacks = g.stacks; order = g.order; active = slice_get (order_of g.order) (length (order_of g.order) - 1) })
      ≡ chosen (Some name) (added name h old)
  group_of-last name h old is =
      let ns = order_of g.order in
      let ds : documents_of f (entries_of g) ≡ old.documents ++ record { name = name; history = h } ∷ [] = ap (λ (p : GroupParts). p.documents) is in
      let count : length ns ≡ suc (length old.documents) =
      omega (arith, placed.entries, length-documents, ap length ds, length-append old.documents (record { name = name; history = h } ∷ [])) in
      let last : slice_get ns (length ns - 1) ≡ Some (get_or ns (length ns - 1) 0) = slice_get-get_or ns (length ns - 1) 0 (omega arith) in
      let back : get_or g.order.places.items (get_or ns (length ns - 1) 0) 0 ≡ length ns - 1 =
      placed.placed.back (length ns - 1) (omega (arith, placed.entries)) in
      let at : length ns - 1 ≡ length old.documents = omega arith in
      let named : name_at (old.documents ++ record { name = name; history = h } ∷ []) (Some (length old.documents)) ≡ Some name = grind (arith, gets, elements) in
      rw (last, back, at, ds, named) refl

  -- an entry that was found by a name has it
  pub name_at-found : (name : List ℕ) (i : ℕ) → position (is_name name) (keys_of g.stacks.entries) ≡ Some i → i < length g.stacks.entries
      → name_at (documents_of f (entries_of g)) (Some (get_or g.order.places.items i 0)) ≡ Some name
  name_at-found name i found lt = by_entry (slice_get g.stacks.entries i) refl
    where
      by_entry : (o : Option (String Global × Stack C)) → slice_get g.stacks.entries i ≡ o
          → name_at (documents_of f (entries_of g)) (Some (get_or g.order.places.items i 0)) ≡ Some name
      by_entry None none = absurd (grind (arith, gets))
      by_entry (Some e) at =
          name_at-entry f (entries_of g) (get_or g.order.places.items i 0) e (entry_at-place i lt ∙ at) ∙ ap Some (found_name name g.stacks.entries i e found at)

  -- the stack at the active number is written
  pub IsLeft-set_value_at : (i : ℕ) (w : Stack C) → g.active ≡ Some i → Holds f w
      → IsLeft f g w (record { stacks = with_value_at g.stacks i w; order = g.order; active = g.active })
  IsLeft-set_value_at i w is holds = by_entry (slice_get g.stacks.entries i) refl
    where
      n : Group C
      n = record { stacks = with_value_at g.stacks i w; order = g.order; active = g.active }

      by_entry : (o : Option (String Global × Stack C)) → slice_get g.stacks.entries i ≡ o
          → IsLeft f g w (record { stacks = with_value_at g.stacks i w; order = g.order; active = g.active })
      by_entry None none = absurd (grind (arith, gets, held.within))
      by_entry (Some e) at =
          let es = g.stacks.entries in
          let lt : i < length es = grind (arith, gets) in
          let p : ℕ = get_or g.order.places.items i 0 in
          let there : slice_get (entries_of g) p ≡ Some e = entry_at-place i lt ∙ at in
          let written : in_order (set_value_at es i w) (order_of g.order) ≡ set_value_at (entries_of g) p w =
          in_order-set_value_at es (order_of g.order) g.order.places.items i w placed lt in
          let place : place_in g.order g.active ≡ Some p = ap (place_in g.order) is in
          let name : (group_of f g).active ≡ Some (string_bytes e.0) =
          ap (name_at (documents_of f (entries_of g))) place ∙ name_at-entry f (entries_of g) p e there in
          record {
            sound = record {
              stacks = All-set_value_at f es i w holds held.stacks;
              distinct = rw (keys-with_value_at g.stacks i w) held.distinct;
              order = rw (length-set_value_at es i w) held.order;
              within = rw (length-set_value_at es i w) held.within;
            };
            group = rw (written, place) (group_at-set_value_at f (entries_of g) p e w there distinct_documents);
            stacks = rw (name, written) (replaced-at (entries_of g) p e w there);
          }

  -- a stack of a new name goes last
  module _ (n : Group C) (key : String Global) (stack : Stack C) (entries : n.stacks.entries ≡ g.stacks.entries ++ (key, stack) ∷ [])
      (last : order_of n.order ≡ order_of g.order ++ length g.stacks.entries ∷ [])
      (last_place : n.order.places.items ≡ g.order.places.items ++ length g.stacks.entries ∷ []) (active : n.active ≡ g.active) where
    entries_of-added : entries_of n ≡ entries_of g ++ (key, stack) ∷ []
    entries_of-added =
        rw (entries, last) (
        in_order-push g.stacks.entries (order_of g.order) (key, stack) (length g.stacks.entries) refl
        (λ p lt. placed.placed.within p (omega (arith, placed.entries)))
        )

    place_in-added : place_in n.order n.active ≡ place_in g.order g.active
    place_in-added = rw active (by_active g.active held.within)
      where
        by_active : (o : Option ℕ) → IfSome o (λ at. at < length g.stacks.entries) → place_in n.order o ≡ place_in g.order o
        by_active None within = refl
        by_active (Some at) within = ap Some (rw last_place (grind (arith, elements, placed.places)))

    pub AreHeld-added : Holds f stack → IsDistinct string_eq (keys_of n.stacks.entries) → IsOrder n.order (length g.stacks.entries + 1)
        → AreHeld f n
    AreHeld-added holds unique order =
        let count : length n.stacks.entries ≡ length g.stacks.entries + 1 = grind (arith, elements, entries) in
        record {
          stacks = rw entries (All-push (λ e. Holds f e.1) g.stacks.entries (key, stack) held.stacks holds);
          distinct = unique;
          order = rw count order;
          within = grind (arith, held.within);
        }

    pub stacks_of-added : stacks_of n ≡ stacks_of g ++ named (string_bytes key) stack ∷ []
    stacks_of-added =
        ap (map (λ e. named (string_bytes e.0) e.1)) entries_of-added ∙ map-append (λ e. named (string_bytes e.0) e.1) (entries_of g) ((key, stack) ∷ [])

    pub group_of-added : group_of f n ≡ added (string_bytes key) (history f stack) (group_of f g)
    group_of-added =
        rw (entries_of-added, place_in-added) (
        group_at-push f (entries_of g) (key, stack) (place_in g.order g.active) (place_within (length (entries_of g)) length-entries)
        )

  -- the stack with a number goes
  module _ (n : Group C) (i : ℕ) (e d : String Global × Stack C) (lt : i < length g.stacks.entries) (at : slice_get g.stacks.entries i ≡ Some e)
      (entries : n.stacks.entries ≡ swap_remove g.stacks.entries i d) (unique : IsDistinct string_eq (keys_of n.stacks.entries))
      (order : IsOrder n.order (length g.stacks.entries - 1))
      (taken : IsTakenFrom (order_of g.order) (get_or g.order.places.items i 0) i (order_of n.order))
      (active : n.active ≡ number_left i (length g.stacks.entries - 1) g.active) where
    count : length n.stacks.entries ≡ length g.stacks.entries - 1
    count = grind (arith, elements, entries)

    left : ArePlaced (order_of n.order) n.order.places.items (length g.stacks.entries - 1)
    left = placed_of n.order (length g.stacks.entries - 1) order

    entries_of-removed : entries_of n ≡ remove (entries_of g) (get_or g.order.places.items i 0)
    entries_of-removed =
        rw entries (
        in_order-take g.stacks.entries (order_of g.order) g.order.places.items (order_of n.order) i d placed lt taken
        (λ p lt. left.placed.within p (omega (arith, left.entries)))
        )

    pub AreHeld-removed : AreHeld f n
    AreHeld-removed = record {
      stacks = rw entries (All-take (λ e. Holds f e.1) (length g.stacks.entries - 1) _
          (All-set (λ e. Holds f e.1) g.stacks.entries i _ (held.stacks _ d (omega arith)) held.stacks));
      distinct = unique;
      order = rw count order;
      within = rw (active, count) (number_left-within (length g.stacks.entries) i g.active lt held.within);
    }

    pub group_of-removed : group_of f n ≡ removed (string_bytes e.0) (group_of f g)
    group_of-removed =
        let place : place_in n.order n.active ≡ place_without (get_or g.order.places.items i 0) (place_in g.order g.active) =
        ap (place_in n.order) active
        ∙ place_in-left (order_of g.order) g.order.places.items (order_of n.order) n.order.places.items (length g.stacks.entries) i g.active placed lt left
        taken held.within in
        rw (entries_of-removed, place) (
        removed-at f (entries_of g) (get_or g.order.places.items i 0) e (place_in g.order g.active) (entry_at-place i lt ∙ at) distinct_documents
        )

    pub taken_out : IsTakenOut (string_bytes e.0) (stacks_of g) e.1 (stacks_of n)
    taken_out = rw entries_of-removed (taken-at (entries_of g) (get_or g.order.places.items i 0) e (entry_at-place i lt ∙ at))
