-- Histories in which no step is that of a free command, those of open levels too. A line keeps them so.
use Rattle.std.proofs.Common.{◌≡◌, ℕ, ◌+◌, ◌-◌, min, List, [], ◌∷◌, ◌++◌, Bool, true, false, length, Ok, Err, zero, suc, refl}
use Rattle.std.specs.Prelude.{⊤}
use Rattle.map_model.specs.Document.{DocumentParts}
use Rattle.command_api.specs.Names.{is_free}
use Rattle.undo_stack.specs.History.{Step, Open, History, new_history, innermost}
use Rattle.undo_stack.specs.Macros.{Begins, Ends, begun, ended_in, level_at, step_of_level}
use Rattle.undo_stack.specs.Moving.{Answer, Leads, StepsBack, StepsOn, GoesTo, MarksClean, UnmarksClean, SetsLimit, Clears, positioned}
use Rattle.undo_stack.specs.Pushing.{cut, cut_in, last_step, led_to, limited_to, next_of, sequence_in, target, vanishing_of, with_added, with_innermost}
use Rattle.undo_stack.specs.Pushing.{with_target_at, without_last, without_target, IsPushed}
use Rattle.undo_stack.specs.Turning.{AreBound}
use Rattle.undo_stack.proofs.Steadiness.{AreBound-append, AreBound-drop, AreBound-led_to, AreBound-take, AreBound-without_last}

-- no inner step of these levels is that of a free command
abbrev pub HoldBound : List Open → Type 0
HoldBound [] = ⊤
HoldBound (l ∷ ls) = AreBound l.steps × HoldBound ls

pub record IsTame (h : History) : Type 0 where
  pub steps : AreBound h.steps
  pub levels : HoldBound h.levels

-- ---- lists of steps
last_step-bound : (ss : List Step) → AreBound ss → is_free (vanishing_of (last_step ss)) ≡ false
last_step-bound [] h = refl
last_step-bound (s ∷ []) h = h.0
last_step-bound (s ∷ t ∷ ss) h = last_step-bound (t ∷ ss) h.1

-- ---- levels
innermost-bound : (l : Open) (ls : List Open) → HoldBound (l ∷ ls) → AreBound (innermost l ls).steps
innermost-bound l [] h = h.0
innermost-bound l (m ∷ ls) h = innermost-bound m ls h.1

with_innermost-bound : (change : List Step → List Step) → ((ss : List Step) → AreBound ss → AreBound (change ss)) → (ls : List Open) → HoldBound ls
    → HoldBound (with_innermost change ls)
with_innermost-bound change keeps [] h = tt
with_innermost-bound change keeps (l ∷ []) h = (keeps l.steps h.0, tt)
with_innermost-bound change keeps (l ∷ m ∷ ls) h = (h.0, with_innermost-bound change keeps (m ∷ ls) h.1)

one_more : (ls : List Open) (o : Open) → HoldBound ls → AreBound o.steps → HoldBound (ls ++ o ∷ [])
one_more [] o h bound = (bound, tt)
one_more (l ∷ ls) o h bound = (h.0, one_more ls o h.1 bound)

one_less : (ls : List Open) → HoldBound ls → HoldBound (without_last ls)
one_less [] h = tt
one_less (l ∷ []) h = tt
one_less (l ∷ m ∷ ls) h = (h.0, one_less (m ∷ ls) h.1)

-- ---- histories
cut_in-tame : (ls : List Open) (h : History) → IsTame h → IsTame (cut_in ls h)
cut_in-tame [] h tame = record { steps = AreBound-take h.position h.steps tame.steps; levels = tame.levels }
cut_in-tame (l ∷ ls) h tame = tame

pub cut-tame : (h : History) → IsTame h → IsTame (cut h)
cut-tame h tame = cut_in-tame h.levels h tame

limited_to-tame : (m : ℕ) (h : History) → IsTame h → IsTame (limited_to m h)
limited_to-tame zero h tame = tame
limited_to-tame (suc m) h tame = record { steps = AreBound-drop (length h.steps - suc m) h.steps tame.steps; levels = tame.levels }

sequence_in-bound : (ls : List Open) (h : History) → HoldBound ls → IsTame h → AreBound (sequence_in ls h)
sequence_in-bound [] h bound tame = tame.steps
sequence_in-bound (l ∷ ls) h bound tame = innermost-bound l ls bound

-- the step that an edit may merge into is that of no free command
pub target-bound : (h : History) → IsTame h → is_free (vanishing_of (target h)) ≡ false
target-bound h tame = last_step-bound (sequence_in h.levels h) (sequence_in-bound h.levels h tame.levels tame)

without_target-tame : (ls : List Open) (h : History) → HoldBound ls → IsTame h → IsTame (without_target ls h)
without_target-tame [] h bound tame = record { steps = AreBound-without_last h.steps tame.steps; levels = tame.levels }
without_target-tame (l ∷ ls) h bound tame = record { steps = tame.steps; levels = with_innermost-bound without_last AreBound-without_last (l ∷ ls) bound }

with_target_at-tame : (d : DocumentParts) (ls : List Open) (h : History) → HoldBound ls → IsTame h → IsTame (with_target_at d ls h)
with_target_at-tame d [] h bound tame = record { steps = AreBound-led_to d h.steps tame.steps; levels = tame.levels }
with_target_at-tame d (l ∷ ls) h bound tame = record { steps = tame.steps; levels = with_innermost-bound (led_to d) (AreBound-led_to d) (l ∷ ls) bound }

with_added-tame : (s : Step) (ls : List Open) (h : History) → is_free s.names.vanishing ≡ false → HoldBound ls → IsTame h → IsTame (with_added s ls h)
with_added-tame s [] h free bound tame =
    let grown = AreBound-append h.steps (s ∷ []) tame.steps (free, tt) in
    limited_to-tame h.limit (record h { steps = h.steps ++ s ∷ []; position = h.position + 1 }) (record { steps = grown; levels = tame.levels })
with_added-tame s (l ∷ ls) h free bound tame =
    let more : (ss : List Step) → AreBound ss → AreBound (ss ++ s ∷ []) = λ ss b. AreBound-append ss (s ∷ []) b (free, tt) in
    record { steps = tame.steps; levels = with_innermost-bound (λ ss. ss ++ s ∷ []) more (l ∷ ls) bound }

next_of-tame : (merged gone : Bool) (s : Step) (h : History) → is_free s.names.vanishing ≡ false → IsTame h → IsTame (next_of merged gone s h)
next_of-tame true true s h free tame = without_target-tame h.levels h tame.levels tame
next_of-tame true false s h free tame = with_target_at-tame s.after h.levels h tame.levels tame
next_of-tame false true s h free tame = tame
next_of-tame false false s h free tame = with_added-tame s h.levels h free tame.levels tame

ended_in-tame : (ls : List Open) (h : History) → HoldBound ls → IsTame h → IsTame (ended_in ls h)
ended_in-tame [] h bound tame = tame
ended_in-tame (l ∷ ls) h bound tame =
    let os = without_last (l ∷ ls) in
    let outer = one_less (l ∷ ls) bound in
    with_added-tame (step_of_level (innermost l ls)) os (record h { levels = os }) refl outer (record { steps = tame.steps; levels = outer })

leads-tame : (answer : Answer) (h next n : History) → IsTame h → IsTame next → Leads answer h next n → IsTame n
leads-tame (Ok done) h next n old new is = rw is new
leads-tame (Err fault) h next n old new is = rw is old

-- ---- the calls
pub new_history-tame : (d : DocumentParts) (limit : ℕ) → IsTame (new_history d limit)
new_history-tame d limit = record { steps = tt; levels = tt }

pub pushed-tame : (h : History) (s : Step) (n : History) → is_free s.names.vanishing ≡ false → IsTame h → IsPushed h s n → IsTame n
pushed-tame h s n free tame p = rw p.next (next_of-tame p.merged p.gone s (cut h) free (cut-tame h tame))

pub begins-tame : (text action : List ℕ) (h : History) (answer : Answer) (n : History) → IsTame h → Begins text action h answer n → IsTame n
begins-tame text action h answer n tame b =
    let inside = one_more h.levels (level_at text action h) tame.levels tt in
    leads-tame answer h (begun text action h) n tame (record { steps = (cut-tame h tame).steps; levels = inside }) b.leads

pub ends-tame : (h : History) (answer : Answer) (n : History) → IsTame h → Ends h answer n → IsTame n
ends-tame h answer n tame e = leads-tame answer h (ended_in h.levels h) n tame (ended_in-tame h.levels h tame.levels tame) e.leads

pub steps_back-tame : (h : History) (answer : Answer) (n : History) → IsTame h → StepsBack h answer n → IsTame n
steps_back-tame h answer n tame b =
    leads-tame answer h (positioned (h.position - 1) h) n tame (record { steps = tame.steps; levels = tame.levels }) b.leads

pub steps_on-tame : (h : History) (answer : Answer) (n : History) → IsTame h → StepsOn h answer n → IsTame n
steps_on-tame h answer n tame o =
    leads-tame answer h (positioned (h.position + 1) h) n tame (record { steps = tame.steps; levels = tame.levels }) o.leads

pub goes_to-tame : (i : ℕ) (h : History) (answer : Answer) (n : History) → IsTame h → GoesTo i h answer n → IsTame n
goes_to-tame i h answer n tame g =
    leads-tame answer h (positioned (min i (length h.steps)) h) n tame (record { steps = tame.steps; levels = tame.levels }) g.leads

pub marks_clean-tame : (h : History) (answer : Answer) (n : History) → IsTame h → MarksClean h answer n → IsTame n
marks_clean-tame h answer n tame m = leads-tame answer h _ n tame (record { steps = tame.steps; levels = tame.levels }) m.leads

pub unmarks_clean-tame : (h n : History) → IsTame h → UnmarksClean h n → IsTame n
unmarks_clean-tame h n tame u = rw u (record { steps = tame.steps; levels = tame.levels })

pub sets_limit-tame : (limit : ℕ) (h : History) (answer : Answer) (n : History) → IsTame h → SetsLimit limit h answer n → IsTame n
sets_limit-tame limit h answer n tame s = leads-tame answer h _ n tame (record { steps = tame.steps; levels = tame.levels }) s.leads

pub clears-tame : (h n : History) → Clears h n → IsTame n
clears-tame h n c = rw c (record { steps = tt; levels = tt })
