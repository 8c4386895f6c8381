-- Pushing an edit with the result d onto a history.
--
-- Outside levels the steps past the position go first, and a clean position past it is lost. Let t be the step just below
-- the position, or inside a level the innermost level's last inner step.
-- 1. If t exists, the edit follows, both have the same tag, and, outside levels, the position is not the clean position:
--    t's document becomes d, its texts stay. If t vanishes when equal and d equals the document before t, t is removed,
--    and outside levels the position goes down by one.
-- 2. Else, if the edit vanishes when equal and d equals the current document, no step is added.
-- 3. Else a step with d is added: to the innermost level, or to the list with the position one higher and then the limit.
-- Where the two documents of 1 or 2 are equal, a free t or edit may go too: it does where its command says so (Reporting).
use Rattle.std.specs.Prelude.{◌≡◌, ℕ, ◌+◌, ◌-◌, List, [], ◌∷◌, ◌++◌, Option, Some, None, take, drop, length, Bool, true, false, leb, if◌then◌else◌, ◌↔◌, zero}
use Rattle.std.specs.Prelude.{suc}
use Rattle.map_model.specs.Document.{DocumentParts}
use Rattle.command_api.specs.Law.{Change}
use Rattle.command_api.specs.Names.{Vanishing, Never, IsSettled}
use Rattle.undo_stack.specs.History.{Step, step_named, Open, History, last_after, document_at, innermost, current}

-- the step of an edit that is made on the document d
abbrev pub step_of : Change → DocumentParts → Step
step_of c d = step_named c.names (c.redone d)

-- a position, lost where it is past n
abbrev pub up_to : ℕ → Option ℕ → Option ℕ
up_to n None = None
up_to n (Some k) = if leb k n then Some k else None

-- outside levels the steps past the position go, and a clean position past it is lost
abbrev pub cut_in : List Open → History → History
cut_in [] h = record h { steps = take h.position h.steps; clean = up_to h.position h.clean }
cut_in (l ∷ ls) h = h

abbrev pub cut : History → History
cut h = cut_in h.levels h

-- the steps that t is the last of, once the history was cut, and the document before them
abbrev pub sequence_in : List Open → History → List Step
sequence_in [] h = h.steps
sequence_in (l ∷ ls) h = (innermost l ls).steps

abbrev pub start_in : List Open → History → DocumentParts
start_in [] h = h.base
start_in (l ∷ ls) h = (innermost l ls).start

-- the last of some steps
abbrev pub last_step : List Step → Option Step
last_step [] = None
last_step (s ∷ []) = Some s
last_step (s ∷ t ∷ ss) = last_step (t ∷ ss)

-- the things before the last one
abbrev pub without_last : {A : Type 0} → List A → List A
without_last [] = []
without_last (s ∷ []) = []
without_last (s ∷ t ∷ ss) = s ∷ without_last (t ∷ ss)

-- the steps, with d as the document of the last one
abbrev pub led_to : DocumentParts → List Step → List Step
led_to d [] = []
led_to d (s ∷ []) = record s { after = d } ∷ []
led_to d (s ∷ t ∷ ss) = s ∷ led_to d (t ∷ ss)

-- t
abbrev pub target : History → Option Step
target h = last_step (sequence_in h.levels h)

-- the document before t
abbrev pub before_target : History → DocumentParts
before_target h = last_after (start_in h.levels h) (without_last (sequence_in h.levels h))

-- t exists, the edit follows, and both have the same tag
abbrev pub Continues : Option Step → Step → Type 0
Continues None s = ⊥
Continues (Some t) s = (s.names.follows ≡ true) × (s.names.tag ≡ t.names.tag) × (s.names.tag ≡ None → ⊥)

-- outside levels, the position is not the clean position
abbrev pub IsUnclean : List Open → History → Type 0
IsUnclean [] h = h.clean ≡ Some h.position → ⊥
IsUnclean (l ∷ ls) h = Unit {0}

-- t and the edit s become one step
pub record Merges (h : History) (s : Step) : Type 0 where
  pub continues : Continues (target h) s
  pub unclean : IsUnclean h.levels h

abbrev pub vanishing_of : Option Step → Vanishing
vanishing_of None = Never
vanishing_of (Some t) = t.names.vanishing

-- whether no step is left of an edit that is merged into t, or of one that is not
abbrev pub Vanishes : Bool → Bool → History → Step → Type 0
Vanishes true gone h s = IsSettled (vanishing_of (target h)) gone (before_target h) s.after
Vanishes false gone h s = IsSettled s.names.vanishing gone (current h) s.after

-- a position, n lower, lost where it is below n
abbrev pub lowered : ℕ → Option ℕ → Option ℕ
lowered n None = None
lowered n (Some k) = if leb n k then Some (k - n) else None

-- the first n steps go: the base becomes the document of the last one removed, and the positions go down by n
abbrev pub dropped : ℕ → History → History
dropped n h = record h {
  base = document_at h n;
  steps = drop n h.steps;
  position = h.position - n;
  clean = lowered n h.clean;
}

-- with a limit other than 0, the first steps go while there are more than the limit
abbrev pub limited_to : ℕ → History → History
limited_to zero h = h
limited_to (suc m) h = dropped (length h.steps - suc m) h

abbrev pub limited : History → History
limited h = limited_to h.limit h

-- the innermost of these levels gets other steps
abbrev pub with_innermost : (List Step → List Step) → List Open → List Open
with_innermost change [] = []
with_innermost change (l ∷ []) = record l { steps = change l.steps } ∷ []
with_innermost change (l ∷ m ∷ ls) = l ∷ with_innermost change (m ∷ ls)

-- t is removed, and outside levels the position goes down by one
abbrev pub without_target : List Open → History → History
without_target [] h = record h { steps = without_last h.steps; position = h.position - 1 }
without_target (l ∷ ls) h = record h { levels = with_innermost without_last (l ∷ ls) }

-- t's document becomes d
abbrev pub with_target_at : DocumentParts → List Open → History → History
with_target_at d [] h = record h { steps = led_to d h.steps }
with_target_at d (l ∷ ls) h = record h { levels = with_innermost (led_to d) (l ∷ ls) }

-- a step is added: to the innermost level, or to the list with the position one higher and then the limit
abbrev pub with_added : Step → List Open → History → History
with_added s [] h = limited (record h { steps = h.steps ++ s ∷ []; position = h.position + 1 })
with_added s (l ∷ ls) h = record h { levels = with_innermost (λ ss. ss ++ s ∷ []) (l ∷ ls) }

-- what the edit s, merged or not, and gone or not, makes of a history that was cut
abbrev pub next_of : Bool → Bool → Step → History → History
next_of true true s h = without_target h.levels h
next_of true false s h = with_target_at s.after h.levels h
next_of false true s h = h
next_of false false s h = with_added s h.levels h

-- the edit s makes of h, which was cut, the history n
pub record IsTaken (h : History) (s : Step) (n : History) : Type 0 where
  pub merged : Bool
  pub gone : Bool
  pub merged_where : merged ≡ true ↔ Merges h s
  pub gone_where : Vanishes merged gone h s
  pub next : n ≡ next_of merged gone s h

-- pushing the edit s onto h gives n
abbrev pub IsPushed : History → Step → History → Type 0
IsPushed h s n = IsTaken (cut h) s n
