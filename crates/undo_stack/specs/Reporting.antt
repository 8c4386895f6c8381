-- What becomes of commands that are pushed or turned, as they report it.
--
-- A pushed command is redone. Then it either ends in the entry of the target, which takes it in, or becomes an entry. Its
-- step is gone exactly where that entry reports that it is obsolete.
--
-- Of a turn only the step of a free command may go: exactly where the command reports, after its turn, that it is obsolete.
-- Each step that stays keeps its nesting, so no step goes that stands in an ended macro.
use Rattle.std.specs.Prelude.{◌≡◌, ◌↔◌, ◌+◌, ◌-◌, ℕ, List, [], ◌∷◌, take, drop, reverse, Option, Some, None, Bool, true, false, Result, Ok, Err}
use Rattle.map_model.specs.Document.{DocumentParts}
use Rattle.command_api.specs.Law.{Change, IsRedone, IsUndone}
use Rattle.command_api.specs.Names.{is_free}
use Rattle.undo_stack.specs.History.{current}
use Rattle.undo_stack.specs.Pushing.{step_of, cut, Merges, Vanishes, next_of}
use Rattle.undo_stack.specs.Entries.{entry_change}
use Rattle.undo_stack.specs.Merging.{IsJoined}
use Rattle.undo_stack.specs.Nestings.{Shape, nestings_cut, nestings_next_of, nestings_without, shape_positioned}
use Rattle.undo_stack.specs.Turning.{without_step}
use Rattle.undo_stack.specs.declared.entry.Entry.{Entry}
use Rattle.undo_stack.specs.declared.entry.Entry.TheVariants.{Command}

-- the last of some entries
abbrev pub last_entry : {C : Type 0} → List (Entry C) → Option (Entry C)
last_entry [] = None
last_entry (e ∷ []) = Some e
last_entry (e ∷ d ∷ es) = last_entry (d ∷ es)

-- whether an entry, where there is one, reports that it is obsolete
abbrev pub reports : {C : Type 0} → (C → Change) → Option (Entry C) → Bool
reports f None = false
reports f (Some e) = (entry_change f e).obsolete

-- the entry v took the command c in, which led to d, and is w now
pub record HasTakenIn {C : Type 0} (f : C → Change) (c : C) (d : DocumentParts) (v w : Option (Entry C)) : Type 0 where
  pub older : Entry C
  pub newer : Entry C
  pub was : v ≡ Some older
  pub is : w ≡ Some newer
  pub joined : IsJoined (entry_change f older) (entry_change f newer) (f c) d

-- where a merge is done, the entry v took the command c in, which led to d, and is w now
abbrev pub TakesIn : {E C : Type 0} → (C → Change) → C → DocumentParts → Option (Entry C) → Result Bool E → Option (Entry C) → Type 0
TakesIn f c d v (Ok true) w = HasTakenIn f c d v w
TakesIn f c d v (Ok false) w = Unit {0}
TakesIn f c d v (Err e) w = Unit {0}

-- the command c, which led to d, ended in the entry w: in the target v, or as an entry of its own
abbrev pub EndsIn : {C : Type 0} → Bool → (C → Change) → C → DocumentParts → Option (Entry C) → Option (Entry C) → Type 0
EndsIn true f c d v w = HasTakenIn f c d v w
EndsIn false f c d v w = w ≡ Some (Command c)

-- pushing the command x onto a, at the document d, where v is the entry of the target, gave n, at e. The step is gone exactly
-- where the entry that x ended in is obsolete
pub record IsReportedAt {C : Type 0} (f : C → Change) (x : C) (d : DocumentParts) (v : Option (Entry C)) (a : Shape)
    (e : DocumentParts) (n : Shape) : Type 0 where
  pub command : C
  pub redone : IsRedone (f x) (f command) d e
  pub merged : Bool
  pub merged_where : merged ≡ true ↔ Merges (cut a.history) (step_of (f x) (current a.history))
  pub entry : Option (Entry C)
  pub ends : EndsIn merged f command e v entry
  pub gone_where : Vanishes merged (reports f entry) (cut a.history) (step_of (f x) (current a.history))
  pub next : n.history ≡ next_of merged (reports f entry) (step_of (f x) (current a.history)) (cut a.history)
  pub nests : n.nestings ≡ nestings_next_of merged (reports f entry) a.history.limit (nestings_cut a.history.position a.nestings)

-- a without the step at a number, where that is gone, else next
abbrev pub left_by : Bool → ℕ → Shape → Shape → Shape
left_by true at a next = record { history = without_step at a.history; nestings = nestings_without at a.nestings }
left_by false at a next = next

-- whether the step of an entry, which is that of a free command or not, is gone after a turn
abbrev pub GoesBy : {C : Type 0} → (C → Change) → Bool → (Entry C → Type 0) → Bool → Type 0
GoesBy {C} f true IsTurned gone = (w : Entry C) × IsTurned w × (gone ≡ (entry_change f w).obsolete)
GoesBy f false IsTurned gone = gone ≡ false

-- undoing the entry v below the position, which led to the document d, made n of a
pub record IsUndoneIn {C : Type 0} (f : C → Change) (v : Entry C) (d : DocumentParts) (a n : Shape) : Type 0 where
  pub gone : Bool
  pub goes : GoesBy f (is_free (entry_change f v).names.vanishing) (λ w. IsUndone (entry_change f v) (entry_change f w) d ((entry_change f v).undone d)) gone
  pub left : let at = a.history.position - 1 in n ≡ left_by gone at a (shape_positioned at a)

-- redoing the entry v above the position, at the document d, made n of a
pub record IsRedoneIn {C : Type 0} (f : C → Change) (v : Entry C) (d : DocumentParts) (a n : Shape) : Type 0 where
  pub gone : Bool
  pub goes : GoesBy f (is_free (entry_change f v).names.vanishing) (λ w. IsRedone (entry_change f v) (entry_change f w) d ((entry_change f v).redone d)) gone
  pub left : let at = a.history.position in n ≡ left_by gone at a (shape_positioned (at + 1) a)

-- undoing these entries, one after the other, the first of which led to d
abbrev pub AreUndone : {C : Type 0} → (C → Change) → List (Entry C) → DocumentParts → Shape → Shape → Type 0
AreUndone f [] d a n = n ≡ a
AreUndone f (v ∷ vs) d a n = (m : Shape) × IsUndoneIn f v d a m × AreUndone f vs ((entry_change f v).undone d) m n

-- redoing these entries, one after the other, from the document d on
abbrev pub AreRedone : {C : Type 0} → (C → Change) → List (Entry C) → DocumentParts → Shape → Shape → Type 0
AreRedone f [] d a n = n ≡ a
AreRedone f (v ∷ vs) d a n = (m : Shape) × IsRedoneIn f v d a m × AreRedone f vs ((entry_change f v).redone d) m n

-- turning the entries es, from the position of a back to the number i, or on to it, made n of a. One of the two is no turn
pub record AreTurned {C : Type 0} (f : C → Change) (es : List (Entry C)) (i : ℕ) (d : DocumentParts) (a n : Shape) : Type 0 where
  pub between : Shape
  pub back : AreUndone f (reverse (drop i (take a.history.position es))) d a between
  pub on : AreRedone f (take (i - a.history.position) (drop a.history.position es)) d between n
