-- No call brings a step of a free command into a history, but a push of that command.
use Rattle.std.proofs.Common.{◌≡◌, ℕ, ◌+◌, ◌-◌, ◌≤◌, List, [], ◌∷◌, ◌++◌, Bool, true, false, take, drop, length, min, Ok, Err, zero, suc, refl, arith}
use Rattle.map_model.specs.Document.{DocumentParts}
use Rattle.command_api.specs.Law.{Change}
use Rattle.command_api.specs.Names.{is_free}
use Rattle.undo_stack.specs.History.{Step, Open, History, new_history, innermost}
use Rattle.undo_stack.specs.Pushing.{cut, without_last, led_to, limited_to, without_target, with_target_at, with_added, next_of, IsPushed}
use Rattle.undo_stack.specs.Macros.{Begins, Ends, begun, ended_in, step_of_level}
use Rattle.undo_stack.specs.Moving.{Answer, Leads, StepsBack, StepsOn, GoesTo, MarksClean, UnmarksClean, SetsLimit, Clears, positioned}
use Rattle.undo_stack.specs.Stacks.{history, Holds}
use Rattle.undo_stack.specs.Turning.{AreBound, IsSteady, SetsIndex}
use Rattle.undo_stack.specs.declared.stack.Stack.{Stack}
use Rattle.undo_stack.proofs.Turnings.{SetsIndex-steady}
use Rattle.undo_stack.proofs.Views.{length-own}

-- ---- lists of steps
pub AreBound-take : (n : ℕ) (ss : List Step) → AreBound ss → AreBound (take n ss)
AreBound-take zero ss h = tt
AreBound-take (suc n) [] h = tt
AreBound-take (suc n) (s ∷ ss) h = (h.0, AreBound-take n ss h.1)

pub AreBound-drop : (n : ℕ) (ss : List Step) → AreBound ss → AreBound (drop n ss)
AreBound-drop zero ss h = h
AreBound-drop (suc n) [] h = tt
AreBound-drop (suc n) (s ∷ ss) h = AreBound-drop n ss h.1

pub AreBound-append : (ss ts : List Step) → AreBound ss → AreBound ts → AreBound (ss ++ ts)
AreBound-append [] ts h k = k
AreBound-append (s ∷ ss) ts h k = (h.0, AreBound-append ss ts h.1 k)

pub AreBound-without_last : (ss : List Step) → AreBound ss → AreBound (without_last ss)
AreBound-without_last [] h = tt
AreBound-without_last (s ∷ []) h = tt
AreBound-without_last (s ∷ t ∷ ss) h = (h.0, AreBound-without_last (t ∷ ss) h.1)

pub AreBound-led_to : (d : DocumentParts) (ss : List Step) → AreBound ss → AreBound (led_to d ss)
AreBound-led_to d [] h = tt
AreBound-led_to d (s ∷ []) h = h
AreBound-led_to d (s ∷ t ∷ ss) h = (h.0, AreBound-led_to d (t ∷ ss) h.1)

-- ---- histories
cut-steady : (h : History) → IsSteady h → IsSteady (cut h)
cut-steady h steady = elim h.levels as (λ ls. IsSteady (cut (record h { levels = ls }))) [ [] ↦ AreBound-take h.position h.steps steady | l ∷ ls ↦ steady ]

limited_to-steady : (m : ℕ) (h : History) → IsSteady h → IsSteady (limited_to m h)
limited_to-steady zero h steady = steady
limited_to-steady (suc m) h steady = AreBound-drop (length h.steps - suc m) h.steps steady

without_target-steady : (ls : List Open) (h : History) → IsSteady h → IsSteady (without_target ls h)
without_target-steady [] h steady = AreBound-without_last h.steps steady
without_target-steady (l ∷ ls) h steady = steady

with_target_at-steady : (d : DocumentParts) (ls : List Open) (h : History) → IsSteady h → IsSteady (with_target_at d ls h)
with_target_at-steady d [] h steady = AreBound-led_to d h.steps steady
with_target_at-steady d (l ∷ ls) h steady = steady

with_added-steady : (s : Step) (ls : List Open) (h : History) → is_free s.names.vanishing ≡ false → IsSteady h → IsSteady (with_added s ls h)
with_added-steady s [] h bound steady =
    let grown = AreBound-append h.steps (s ∷ []) steady (bound, tt) in
    limited_to-steady h.limit (record h { steps = h.steps ++ s ∷ []; position = h.position + 1 }) grown
with_added-steady s (l ∷ ls) h bound steady = steady

next_of-steady : (merged gone : Bool) (s : Step) (h : History) → is_free s.names.vanishing ≡ false → IsSteady h → IsSteady (next_of merged gone s h)
next_of-steady true true s h bound steady = without_target-steady h.levels h steady
next_of-steady true false s h bound steady = with_target_at-steady s.after h.levels h steady
next_of-steady false true s h bound steady = steady
next_of-steady false false s h bound steady = with_added-steady s h.levels h bound steady

ended_in-steady : (ls : List Open) (h : History) → IsSteady h → IsSteady (ended_in ls h)
ended_in-steady [] h steady = steady
ended_in-steady (l ∷ ls) h steady =
    let os = without_last (l ∷ ls) in
    with_added-steady (step_of_level (innermost l ls)) os (record h { levels = os }) refl steady

Leads-steady : (answer : Answer) (h next n : History) → IsSteady h → IsSteady next → Leads answer h next n → IsSteady n
Leads-steady (Ok done) h next n old new is = rw is new
Leads-steady (Err fault) h next n old new is = rw is old

-- ---- the calls
pub new_history-steady : (d : DocumentParts) (limit : ℕ) → IsSteady (new_history d limit)
new_history-steady d limit = tt

pub IsPushed-steady : (h : History) (s : Step) (n : History) → is_free s.names.vanishing ≡ false → IsSteady h → IsPushed h s n → IsSteady n
IsPushed-steady h s n bound steady p = rw p.next (next_of-steady p.merged p.gone s (cut h) bound (cut-steady h steady))

pub Begins-steady : (text action : List ℕ) (h : History) (answer : Answer) (n : History) → IsSteady h → Begins text action h answer n → IsSteady n
Begins-steady text action h answer n steady b = Leads-steady answer h (begun text action h) n steady (cut-steady h steady) b.leads

pub Ends-steady : (h : History) (answer : Answer) (n : History) → IsSteady h → Ends h answer n → IsSteady n
Ends-steady h answer n steady e = Leads-steady answer h (ended_in h.levels h) n steady (ended_in-steady h.levels h steady) e.leads

pub StepsBack-steady : (h : History) (answer : Answer) (n : History) → IsSteady h → StepsBack h answer n → IsSteady n
StepsBack-steady h answer n steady b = Leads-steady answer h (positioned (h.position - 1) h) n steady steady b.leads

pub StepsOn-steady : (h : History) (answer : Answer) (n : History) → IsSteady h → StepsOn h answer n → IsSteady n
StepsOn-steady h answer n steady o = Leads-steady answer h (positioned (h.position + 1) h) n steady steady o.leads

pub GoesTo-steady : (i : ℕ) (h : History) (answer : Answer) (n : History) → IsSteady h → GoesTo i h answer n → IsSteady n
GoesTo-steady i h answer n steady g = Leads-steady answer h (positioned (min i (length h.steps)) h) n steady steady g.leads

pub MarksClean-steady : (h : History) (answer : Answer) (n : History) → IsSteady h → MarksClean h answer n → IsSteady n
MarksClean-steady h answer n steady m = Leads-steady answer h _ n steady steady m.leads

pub UnmarksClean-steady : (h n : History) → IsSteady h → UnmarksClean h n → IsSteady n
UnmarksClean-steady h n steady u = rw u steady

pub SetsLimit-steady : (limit : ℕ) (h : History) (answer : Answer) (n : History) → IsSteady h → SetsLimit limit h answer n → IsSteady n
SetsLimit-steady limit h answer n steady s = Leads-steady answer h (record h { limit = limit }) n steady steady s.leads

pub Clears-steady : (h n : History) → Clears h n → IsSteady n
Clears-steady h n c = rw c tt

-- ---- a stack
position-within : {C : Type 0} (f : C → Change) (s : Stack C) → Holds f s → (history f s).position ≤ length (history f s).steps
position-within f s sound = omega (arith, sound.own.sound.turnable.within, length-own f s)

pub stack-SetsIndex : {C : Type 0} (f : C → Change) (s : Stack C) (i : ℕ) (answer : Answer) (n : History) → Holds f s → IsSteady (history f s)
    → SetsIndex i (history f s) answer n
    → GoesTo i (history f s) answer n
stack-SetsIndex f s i answer n sound steady sets = SetsIndex-steady i (history f s) answer n steady (position-within f s sound) sets
