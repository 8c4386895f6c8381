-- Notes that owners get one after another, and that they give back.
use Rattle.std.proofs.Common.{◌≡◌, ℕ, zero, suc, List, [], ◌∷◌, ◌++◌, length, false, Option, Some, None, option_map, IsSome, refl, ap, ◌∙◌, subst}
use Rattle.std.specs.List.{slice_get, slice_set}
use Rattle.std.proofs.lemmas.List.{reverse-append}
use Rattle.map_model.specs.declared.heads.LayerHead.{LayerHead}
use Rattle.map_model.specs.Document.{DocumentParts}
use Rattle.map_model.specs.Heads.{head_of_map, layer_head_with_id}
use Rattle.map_model.specs.Lens.{put}
use Rattle.map_model.proofs.HeadLaws.{layer_head-laws, map_head-laws}
use Rattle.command_api.proofs.Swaps.{held_swapped}
use Rattle.layer_commands.specs.Names.{resize_names}
use Rattle.layer_commands.specs.declared.notes.Note.{Note}
use Rattle.layer_commands.specs.declared.notes.Note.TheVariants.{Map, Layer}
use Rattle.layer_commands.specs.Notes.{FitNotes, FitsNote, notes_back, own_note, own_notes, with_note, with_notes}

-- ---- one note
-- the owner's own head gives the document back
pub record GoesBack (n own : Option Note) (d : DocumentParts) : Type 0 where
  pub document : with_note own (with_note n d) ≡ d
  pub fits : FitsNote own (with_note n d)

pub note-back : (n : Option Note) (d : DocumentParts) → FitsNote n d → GoesBack n (own_note n d) d
note-back None d h = record { document = refl; fits = tt }
note-back (Some (Map head)) d h =
    let turn = held_swapped {names = resize_names} {same = false} false {e = put head_of_map head d} map_head-laws h refl refl in
    record { document = turn.back; fits = turn.fits }
note-back (Some (Layer id head)) d h = by_head ((layer_head_with_id id).get d) refl h.there
  where
    by_head : (o : Option LayerHead) → (layer_head_with_id id).get d ≡ o → IsSome o → GoesBack (Some (Layer id head)) (option_map (Layer id) o) d
    by_head None e there = cc
    by_head (Some own) e there =
        let turn = held_swapped {names = resize_names} {same = false} false {e = put (layer_head_with_id id) head d} (layer_head-laws id) h e refl in
        record { document = turn.back; fits = turn.fits }

-- ---- one after another
with_notes-append : (ns more : List (Option Note)) (d : DocumentParts) → with_notes (ns ++ more) d ≡ with_notes more (with_notes ns d)
with_notes-append [] more d = refl
with_notes-append (n ∷ ns) more d = with_notes-append ns more (with_note n d)

FitNotes-append : (ns more : List (Option Note)) (d : DocumentParts) → FitNotes ns d → FitNotes more (with_notes ns d) → FitNotes (ns ++ more) d
FitNotes-append [] more d h g = g
FitNotes-append (n ∷ ns) more d h g = (h.0, FitNotes-append ns more (with_note n d) h.1 g)

notes_back-is : (n : Option Note) (ns : List (Option Note)) (d : DocumentParts)
    → notes_back (n ∷ ns) d ≡ notes_back ns (with_note n d) ++ own_note n d ∷ []
notes_back-is n ns d = reverse-append (own_note n d ∷ []) (own_notes ns (with_note n d))

pub notes-back : (ns : List (Option Note)) (d : DocumentParts) → FitNotes ns d → with_notes (notes_back ns d) (with_notes ns d) ≡ d
notes-back [] d h = refl
notes-back (n ∷ ns) d h =
    ap (λ xs. with_notes xs (with_notes ns (with_note n d))) (notes_back-is n ns d)
    ∙ with_notes-append (notes_back ns (with_note n d)) (own_note n d ∷ []) (with_notes ns (with_note n d))
    ∙ ap (with_note (own_note n d)) (notes-back ns (with_note n d) h.1) ∙ (note-back n d h.0).document

pub back-FitNotes : (ns : List (Option Note)) (d : DocumentParts) → FitNotes ns d → FitNotes (notes_back ns d) (with_notes ns d)
back-FitNotes [] d h = tt
back-FitNotes (n ∷ ns) d h =
    rw (notes_back-is n ns d) (FitNotes-append (notes_back ns (with_note n d)) (own_note n d ∷ []) (with_notes ns (with_note n d))
    (back-FitNotes ns (with_note n d) h.1)
    (rw (notes-back ns (with_note n d) h.1) ((note-back n d h.0).fits, tt)))

-- ---- the first so many of them
abbrev pub with_first : ℕ → List (Option Note) → DocumentParts → DocumentParts
with_first zero ns d = d
with_first (suc k) [] d = d
with_first (suc k) (n ∷ ns) d = with_first k ns (with_note n d)

-- the notes, of which the first have changed places
abbrev pub first_own : ℕ → List (Option Note) → DocumentParts → List (Option Note)
first_own zero ns d = ns
first_own (suc k) [] d = []
first_own (suc k) (n ∷ ns) d = own_note n d ∷ first_own k ns (with_note n d)

pub length-first_own : (k : ℕ) (ns : List (Option Note)) (d : DocumentParts) → length (first_own k ns d) ≡ length ns
length-first_own zero ns d = refl
length-first_own (suc k) [] d = refl
length-first_own (suc k) (n ∷ ns) d = ap suc (length-first_own k ns (with_note n d))

-- the next one is as it was
pub get-first_own : (k : ℕ) (ns : List (Option Note)) (d : DocumentParts) → slice_get (first_own k ns d) k ≡ slice_get ns k
get-first_own zero ns d = refl
get-first_own (suc k) [] d = refl
get-first_own (suc k) (n ∷ ns) d = get-first_own k ns (with_note n d)

module _ (n : Option Note) where
  pub next-fits : (k : ℕ) (ns : List (Option Note)) (d : DocumentParts) → slice_get ns k ≡ Some n → FitNotes ns d → FitsNote n (with_first k ns d)
  next-fits zero [] d e h = cc
  next-fits (suc k) [] d e h = cc
  next-fits zero (m ∷ ms) d e h = let same : m ≡ n = cc in subst (λ x. FitsNote x d) same h.0
  next-fits (suc k) (m ∷ ms) d e h = next-fits k ms (with_note m d) e h.1

  pub next-with : (k : ℕ) (ns : List (Option Note)) (d : DocumentParts) → slice_get ns k ≡ Some n
      → with_note n (with_first k ns d) ≡ with_first (suc k) ns d
  next-with zero [] d e = cc
  next-with (suc k) [] d e = cc
  next-with zero (m ∷ ms) d e = let same : n ≡ m = cc in ap (λ x. with_note x d) same
  next-with (suc k) (m ∷ ms) d e = next-with k ms (with_note m d) e

  pub next-own : (k : ℕ) (ns : List (Option Note)) (d : DocumentParts) → slice_get ns k ≡ Some n
      → slice_set (first_own k ns d) k (own_note n (with_first k ns d)) ≡ first_own (suc k) ns d
  next-own zero [] d e = cc
  next-own (suc k) [] d e = cc
  next-own zero (m ∷ ms) d e = let same : n ≡ m = cc in ap (λ x. own_note x d ∷ ms) same
  next-own (suc k) (m ∷ ms) d e = ap (λ xs. own_note m d ∷ xs) (next-own k ms (with_note m d) e)

pub all-with : (ns : List (Option Note)) (d : DocumentParts) → with_first (length ns) ns d ≡ with_notes ns d
all-with [] d = refl
all-with (n ∷ ns) d = all-with ns (with_note n d)

pub all-own : (ns : List (Option Note)) (d : DocumentParts) → first_own (length ns) ns d ≡ own_notes ns d
all-own [] d = refl
all-own (n ∷ ns) d = ap (λ xs. own_note n d ∷ xs) (all-own ns (with_note n d))
