-- What the merge of a pushed edit makes of a change, a sequence, a history and a stack.
use Rattle.std.specs.Prelude.{◌≡◌, ◌<◌, List, [], ◌∷◌, Some, None, Bool, true, false, Result, Ok, Err, length}
use Rattle.map_model.specs.Document.{DocumentParts}
use Rattle.command_api.specs.Law.{Change, IsSame}
use Rattle.command_api.specs.Names.{IsSettled}
use Rattle.undo_stack.specs.History.{Step, step_named, Open, History, last_after, innermost}
use Rattle.undo_stack.specs.Pushing.{cut, without_last, last_step, led_to, target, before_target, vanishing_of, Continues, Vanishes, without_target, next_of}
use Rattle.undo_stack.specs.Sequence.{before, steps_down, FitsDown}

-- the change c continues the step of the change v
abbrev pub Joins : Change → Change → Type 0
Joins v c = (c.names.follows ≡ true) × (c.names.tag ≡ v.names.tag) × (c.names.tag ≡ None → ⊥)

-- w does what v and then the newer change c do, which led to d
pub record IsJoined (v w c : Change) (d : DocumentParts) : Type 0 where
  pub fits : w.fits_undo d
  pub undone : w.undone d ≡ v.undone (c.undone d)
  pub names : w.names ≡ v.names

-- merging the newer change c, which led to d, made w of v
abbrev pub MergesChange : {E : Type 0} → Change → Change → DocumentParts → Result Bool E → Change → Type 0
MergesChange v c d (Ok true) w = Joins v c × IsJoined v w c d
MergesChange v c d (Ok false) w = (Joins v c → ⊥) × IsSame v w
MergesChange v c d (Err e) w = IsSame v w

-- the sequence ys, which led to e, is the sequence xs, which led to d, but for its steps, which were changed so
pub record IsAltered {B : Type 0} (f : B → Change) (change : List Step → List Step) (xs : List B) (d : DocumentParts) (ys : List B)
    (e : DocumentParts) : Type 0 where
  pub down : FitsDown f ys e
  pub base : before f ys e ≡ before f xs d
  pub steps : steps_down f ys e ≡ change (steps_down f xs d)

-- merging the newer change c, which led to d, made ys of the sequence xs
abbrev pub MergesSequence : {E B : Type 0} → (B → Change) → List B → Change → DocumentParts → Result Bool E → List B → Type 0
MergesSequence f xs c d (Ok true) ys =
    Continues (last_step (steps_down f xs (c.undone d))) (step_named c.names d) ×
    IsAltered f (led_to d) xs (c.undone d) ys d
MergesSequence f xs c d (Ok false) ys =
    (Continues (last_step (steps_down f xs (c.undone d))) (step_named c.names d) → ⊥) ×
    IsAltered f (λ ss. ss) xs (c.undone d) ys (c.undone d)
MergesSequence f xs c d (Err e) ys = IsAltered f (λ ss. ss) xs (c.undone d) ys (c.undone d)

-- the things that are left where the last one is gone, and where it is not
abbrev pub left_of : {A : Type 0} → Bool → List A → List A
left_of true xs = without_last xs
left_of false xs = xs

-- ys is the sequence xs, which led to d; its last change is gone where that is obsolete
pub record SettlesSequence {B : Type 0} (f : B → Change) (gone : Bool) (xs : List B) (d : DocumentParts) (ys : List B) : Type 0 where
  pub gone_where : IsSettled (vanishing_of (last_step (steps_down f xs d))) gone (last_after (before f xs d) (without_last (steps_down f xs d))) d
  pub sequence : IsAltered f (left_of gone) xs d ys d

-- the target exists, nothing stands above it, and outside levels the position is not the clean one
abbrev pub HasTarget : List Open → History → Type 0
HasTarget [] h = (0 < h.position) × (h.position ≡ length h.steps) × (h.clean ≡ Some h.position → ⊥)
HasTarget (l ∷ ls) h = 0 < length (innermost l ls).steps

-- what is left of a history where its target is gone, and where it is not
abbrev pub settled_to : Bool → History → History
settled_to true h = without_target h.levels h
settled_to false h = h

-- n is the history h, which led to d; its target is gone where that is obsolete
pub record SettlesTarget (d : DocumentParts) (gone : Bool) (h n : History) : Type 0 where
  pub gone_where : IsSettled (vanishing_of (target h)) gone (before_target h) d
  pub next : n ≡ settled_to gone h

-- the edit s is not merged into the history h, and makes of it the history n; `gone` says whether its step has vanished
pub record IsEntered (gone : Bool) (h : History) (s : Step) (n : History) : Type 0 where
  pub gone_where : Vanishes false gone (cut h) s
  pub next : n ≡ next_of false gone s (cut h)
