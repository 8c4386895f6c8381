-- Documents by name, and by their numbers: what changing, adding or taking out one of them leaves.
use Rattle.std.proofs.Common.{◌≡◌, ◌<◌, ◌-◌, ◌==◌, nat_lt, if◌then◌else◌, ℕ, zero, suc, List, [], ◌∷◌}
use Rattle.std.proofs.Common.{◌++◌, length, remove, slice_get, position, Option, Some, None, IfSome, refl, ap, arith}
use Rattle.std.proofs.lemmas.Bool.Decides.{nat_tests}
use Rattle.std.proofs.lemmas.Grind.{elements}
use Rattle.std.proofs.lemmas.Option.{gets}
use Rattle.std.proofs.lemmas.Slice.Eq.{bytes_eq-Decides}
use Rattle.std.specs.Option.{option_map}
use Rattle.undo_stack.specs.History.{History}
use Rattle.undo_group.specs.Groups.{OpenDocument, GroupParts, IsGroup, IsNew, AreDistinct, history_named, active_history, active_place, is_active}
use Rattle.undo_group.specs.Groups.{removed, without, with_history}
use Rattle.undo_group.specs.Groups.{with_active}
use Rattle.undo_group.specs.Stacks.{group_at}

-- the place of the active one, once the one at another place is taken out and those behind it stand one lower
abbrev pub place_without : ℕ → Option ℕ → Option ℕ
place_without gone None = None
place_without gone (Some at) = if at == gone then None else Some (if nat_lt gone at then at - 1 else at)

-- where no document has the name, nothing changes and nothing goes
pub with_history-new : (name : List ℕ) (h : History) (ds : List OpenDocument) → IsNew name ds → with_history name h ds ≡ ds
with_history-new name h [] new = refl
with_history-new name h (d ∷ ds) new = grind (arith, with_history-new name h ds)

without-new : (name : List ℕ) (ds : List OpenDocument) → IsNew name ds → without name ds ≡ ds
without-new name [] new = refl
without-new name (d ∷ ds) new = grind (arith, without-new name ds)

-- a document that is put last under a new name is found by it
pub history_named-added : (name : List ℕ) (h : History) (ds : List OpenDocument) → IsNew name ds
    → history_named name (ds ++ record { name = name; history = h } ∷ []) ≡ Some h
history_named-added name h [] new = grind (arith, bytes_eq-Decides)
history_named-added name h (d ∷ ds) new = grind (arith, history_named-added name h ds)

-- the history that it has already changes nothing
with_history-same : (name : List ℕ) (h : History) (ds : List OpenDocument) → AreDistinct ds → history_named name ds ≡ Some h → with_history name h ds ≡ ds
with_history-same name h [] distinct at = refl
with_history-same name h (d ∷ ds) distinct at = grind (arith, with_history-same name h ds distinct.1, with_history-new name h ds, bytes_eq-Decides)

pub with_active-same : (h : History) (g : GroupParts) → IsGroup g → active_history g ≡ Some h → with_active h g ≡ g
with_active-same h g whole at = grind (arith, with_history-same, whole.distinct)

-- the document at a number is found by its name
pub history_named-at : (ds : List OpenDocument) (i : ℕ) (d : OpenDocument) → AreDistinct ds → slice_get ds i ≡ Some d → history_named d.name ds ≡ Some d.history
history_named-at [] i d distinct at = absurd cc
history_named-at (e ∷ ds) zero d distinct at = grind (arith, bytes_eq-Decides)
history_named-at (e ∷ ds) (suc i) d distinct at = grind (arith, history_named-at ds i d distinct.1, bytes_eq-Decides)

-- and no other number has the name
pub same_number : (ds : List OpenDocument) (i j : ℕ) (d e : OpenDocument) → AreDistinct ds → slice_get ds i ≡ Some d → slice_get ds j ≡ Some e → d.name ≡ e.name
    → i ≡ j
same_number [] i j d e distinct at there same = absurd cc
same_number (x ∷ ds) zero zero d e distinct at there same = refl
same_number (x ∷ ds) zero (suc j) d e distinct at there same = absurd (grind (arith, history_named-at ds j e distinct.1))
same_number (x ∷ ds) (suc i) zero d e distinct at there same = absurd (grind (arith, history_named-at ds i d distinct.1))
same_number (x ∷ ds) (suc i) (suc j) d e distinct at there same = ap suc (same_number ds i j d e distinct.1 at there same)

-- the document at the active number is the active one
pub active_history-at : (ds : List OpenDocument) (i : ℕ) → AreDistinct ds → active_history (group_at ds (Some i)) ≡ option_map (λ d. d.history) (slice_get ds i)
active_history-at ds i distinct = grind (arith, history_named-at ds i)

-- the active number is the active place
active_place-found : (ds : List OpenDocument) (i : ℕ) (d : OpenDocument) → AreDistinct ds → slice_get ds i ≡ Some d
    → position (is_active (Some d.name)) ds ≡ Some i
active_place-found [] i d distinct at = absurd cc
active_place-found (e ∷ ds) zero d distinct at = grind (arith, bytes_eq-Decides)
active_place-found (e ∷ ds) (suc i) d distinct at =
    grind (arith, active_place-found ds i d distinct.1, history_named-at ds i d distinct.1, bytes_eq-Decides)

active_place-none : (ds : List OpenDocument) → position (is_active None) ds ≡ None
active_place-none [] = refl
active_place-none (d ∷ ds) = grind (arith, active_place-none ds)

pub active_place-at : (ds : List OpenDocument) (number : Option ℕ) → AreDistinct ds → IfSome number (λ i. i < length ds)
    → active_place (group_at ds number) ≡ number
active_place-at ds None distinct within = active_place-none ds
active_place-at ds (Some i) distinct within = by_document (slice_get ds i) refl
  where
    by_document : (o : Option OpenDocument) → slice_get ds i ≡ o → active_place (group_at ds (Some i)) ≡ Some i
    by_document None none = absurd (grind (arith, gets, within))
    by_document (Some d) at = rw at (active_place-found ds i d distinct at)

pub IsGroup-at : (ds : List OpenDocument) (number : Option ℕ) → AreDistinct ds → IsGroup (group_at ds number)
IsGroup-at ds None distinct = record { distinct = distinct; active = tt }
IsGroup-at ds (Some i) distinct = record { distinct = distinct; active = grind (arith, history_named-at ds i) }

-- the document at a number goes
without-at : (ds : List OpenDocument) (i : ℕ) (d : OpenDocument) → AreDistinct ds → slice_get ds i ≡ Some d → remove ds i ≡ without d.name ds
without-at [] i d distinct at = absurd cc
without-at (e ∷ ds) zero d distinct at = grind (arith, bytes_eq-Decides, without-new)
without-at (e ∷ ds) (suc i) d distinct at = grind (arith, without-at ds i d distinct.1, history_named-at ds i d distinct.1, bytes_eq-Decides)

pub group_at-remove : (ds : List OpenDocument) (i : ℕ) (d : OpenDocument) (number : Option ℕ) → AreDistinct ds → slice_get ds i ≡ Some d
    → group_at (remove ds i) (place_without i number) ≡ removed d.name (group_at ds number)
group_at-remove ds i d None distinct at = grind (arith, without-at ds i d)
group_at-remove ds i d (Some j) distinct at = grind (arith, elements, gets, nat_tests, without-at ds i d, same_number ds i j d, bytes_eq-Decides)
