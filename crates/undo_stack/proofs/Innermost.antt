-- The innermost sequence of a stack, and what the stack is once that became another one.
use Rattle.std.proofs.Common.{◌≡◌, ℕ, max, ◌+◌, ◌-◌, ◌<◌, ◌≤◌, List, [], ◌∷◌, ◌++◌, Option, Some, None, Bool, true, false, take, length, map, set, get_or}
use Rattle.std.proofs.Common.{refl, sym, ◌∙◌, ap, subst, arith, length-set, Ok, Err, slice_get, vec_len, inl, inr, Global, Vec}
use Rattle.std.specs.Prelude.{◌↔◌, IfErr, IfOk, Result}
use Rattle.std.specs.VecDeque.{deque_capacity}
use Rattle.std.proofs.lemmas.List.{length-append, length-map, map-append, take_all}
use Rattle.std.proofs.lemmas.Option.{slice_get_cases}
use Rattle.std.specs.Vec.{with_item}
use Rattle.std.proofs.lemmas.Grind.{take-set_at}
use Rattle.map_model.specs.Document.{DocumentParts}
use Rattle.command_api.specs.Law.{Change}
use Rattle.command_api.specs.Names.{IsSettled, Names}
use Rattle.undo_stack.specs.History.{Step, step_named, Open, History, current, last_after}
use Rattle.undo_stack.specs.Pushing.{cut, step_of, with_added, without_last, last_step, led_to, target, before_target, vanishing_of, IsUnclean, Merges}
use Rattle.undo_stack.specs.Pushing.{Vanishes, with_innermost, next_of, IsPushed}
use Rattle.undo_stack.specs.Sequence.{before, steps_down, FitsDown}
use Rattle.undo_stack.specs.Macros.{Ends}
use Rattle.undo_stack.specs.Entries.{entry_change, depth}
use Rattle.undo_stack.specs.Lending.{innermost_of, innermost, with_innermost_of, with_innermost_at}
use Rattle.undo_stack.specs.Held.{IsHeld, history_at, nestings_at, shape_at, target_in}
use Rattle.undo_stack.specs.Nestings.{Nestings, Shape, nestings_cut, nestings_next_of}
use Rattle.undo_stack.specs.Reporting.{reports}
use Rattle.undo_stack.specs.Sound.{Inner, IsAtMost, opens, start_of, sequence_depth, level_depth}
use Rattle.undo_stack.specs.Stacks.{inner_of, inners, history, nestings, shape, AreHeld, AreReady, Holds, IsClosed, IsDone, IsReady, IsTold, target_entry}
use Rattle.undo_stack.specs.Stacks.{IsCalm}
use Rattle.undo_stack.specs.Stacks.{LevelsAreLive}
use Rattle.undo_stack.specs.Told.{IsFull, IsToldAt}
use Rattle.undo_stack.specs.declared.entry.Entry.{Entry}
use Rattle.undo_stack.specs.declared.level.Level.{Level}
use Rattle.undo_stack.specs.declared.limits.TheConstants.{MAX_DEPTH, MAX_LIMIT}
use Rattle.undo_stack.specs.declared.pushed.Pushed.{Pushed}
use Rattle.undo_stack.specs.declared.sequence.Sequence.{Sequence}
use Rattle.undo_stack.specs.declared.stack.Stack.{Stack}
use Rattle.undo_stack.specs.declared.stack.sequences.Sequences.{Sequences}
use Rattle.undo_stack.proofs.Joins.{length-without_last, length-led_to}
use Rattle.undo_stack.proofs.Levels.{open_of, start_of-append, opens-append, innermost-append, innermost_of-append, AreHeld-pop, AreHeld-push}
use Rattle.undo_stack.proofs.Levels.{AreReady-last, AreReady-pop, AreReady-push, level_depth-append, level_depth-closed, level_depth-deep}
use Rattle.undo_stack.proofs.Levels.{level_depth-last, level_depth-without_last, without_last-append}
use Rattle.undo_stack.proofs.Held.{empty_held, marked_held}
use Rattle.undo_stack.proofs.Macros.{ended_answer, ended_view}
use Rattle.undo_stack.proofs.Pushes.{done_view, done_with}
use Rattle.undo_stack.proofs.Sequences.{length-down, length-steps, take_last}
use Rattle.undo_stack.proofs.Told.{IsFull-as}
use Rattle.undo_stack.proofs.Views.{history_in}

-- ---- histories
-- the history of a sequence whose entries are all done, with no clean position and no limit
abbrev row : DocumentParts → List Step → History
row b ss = record { base = b; steps = ss; position = length ss; clean = None; limit = 0; levels = [] }

-- the history h with these open levels, of which o is the innermost
abbrev levelled : History → List Open → Open → History
levelled h os o = record h { levels = os ++ o ∷ [] }

-- what a push makes of steps
abbrev next_steps : Bool → Bool → Step → List Step → List Step
next_steps true true s ss = without_last ss
next_steps true false s ss = led_to s.after ss
next_steps false true s ss = ss
next_steps false false s ss = ss ++ s ∷ []

cut-row : (b : DocumentParts) (ss : List Step) → cut (row b ss) ≡ row b ss
cut-row b ss = ap (λ (ts : List Step). record (row b ss) { steps = ts }) (take_all (length ss) ss (omega arith))

next-row : (merged gone : Bool) (s : Step) (b : DocumentParts) (ss : List Step)
    → next_of merged gone s (row b ss) ≡ row b (next_steps merged gone s ss)
next-row true true s b ss = ap (λ (n : ℕ). record (row b (without_last ss)) { position = n }) (sym (length-without_last ss))
next-row true false s b ss = ap (λ (n : ℕ). record (row b (led_to s.after ss)) { position = n }) (sym (length-led_to s.after ss))
next-row false true s b ss = refl
next-row false false s b ss = ap (λ (n : ℕ). record (row b (ss ++ s ∷ [])) { position = n }) (sym (length-append ss (s ∷ [])))

current-row : (b : DocumentParts) (ss : List Step) → current (row b ss) ≡ last_after b ss
current-row b ss = ap (last_after b) (take_all (length ss) ss (omega arith))

target-levelled : (h : History) (os : List Open) (o : Open) → target (levelled h os o) ≡ last_step o.steps
target-levelled h [] o = refl
target-levelled h (p ∷ os) o = ap (λ (q : Open). last_step q.steps) (innermost-append p os o)

before_target-levelled : (h : History) (os : List Open) (o : Open)
    → before_target (levelled h os o) ≡ last_after o.start (without_last o.steps)
before_target-levelled h [] o = refl
before_target-levelled h (p ∷ os) o = ap (λ (q : Open). last_after q.start (without_last q.steps)) (innermost-append p os o)

current-levelled : (h : History) (os : List Open) (o : Open) → current (levelled h os o) ≡ last_after o.start o.steps
current-levelled h [] o = refl
current-levelled h (p ∷ os) o = ap (λ (q : Open). last_after q.start q.steps) (innermost-append p os o)

cut-levelled : (h : History) (os : List Open) (o : Open) → cut (levelled h os o) ≡ levelled h os o
cut-levelled h [] o = refl
cut-levelled h (p ∷ os) o = refl

unclean-levelled : (h : History) (os : List Open) (o : Open) → IsUnclean (levelled h os o).levels (levelled h os o)
unclean-levelled h [] o = tt
unclean-levelled h (p ∷ os) o = tt

with_innermost-append : (change : List Step → List Step) (os : List Open) (o : Open)
    → with_innermost change (os ++ o ∷ []) ≡ os ++ record o { steps = change o.steps } ∷ []
with_innermost-append change [] o = refl
with_innermost-append change (p ∷ []) o = refl
with_innermost-append change (p ∷ q ∷ os) o = ap (λ rest. p ∷ rest) (with_innermost-append change (q ∷ os) o)

next-levelled : (merged gone : Bool) (s : Step) (h : History) (os : List Open) (o : Open)
    → next_of merged gone s (levelled h os o) ≡ levelled h os (record o { steps = next_steps merged gone s o.steps })
next-levelled false true s h os o = refl
next-levelled true true s h [] o = refl
next-levelled true true s h (p ∷ os) o = ap (λ rest. record h { levels = rest }) (with_innermost-append without_last (p ∷ os) o)
next-levelled true false s h [] o = refl
next-levelled true false s h (p ∷ os) o = ap (λ rest. record h { levels = rest }) (with_innermost-append (led_to s.after) (p ∷ os) o)
next-levelled false false s h [] o = refl
next-levelled false false s h (p ∷ os) o = ap (λ rest. record h { levels = rest }) (with_innermost-append (λ ss. ss ++ s ∷ []) (p ∷ os) o)

-- where the nestings of the sequence q are those of p after a push, those of the stack t are those of s after it
abbrev pub NextLent : {C : Type 0} → (C → Change) → Stack C → Sequence C → Sequence C → Stack C → Type 0
NextLent f s p q t = (merged gone : Bool) → nestings_at q ≡ nestings_next_of merged gone p.limit (nestings_cut p.index (nestings_at p))
    → nestings t ≡ nestings_next_of merged gone s.sequences.steps.limit (nestings_cut s.sequences.steps.index (nestings s))

abbrev shape_with : History → Nestings → Shape
shape_with h os = record { history = h; nestings = os }

-- pushing the change c onto the history h gave n
abbrev pub Pushes : Change → History → History → Type 0
Pushes c h n = IsPushed h (step_of c (current h)) n

-- ---- a push onto the innermost level is a push onto the whole
module _ (h : History) (os : List Open) (o : Open) where
  abbrev part : History
  part = row o.start o.steps

  abbrev whole : History
  whole = levelled h os o

  -- the whole once the innermost level has the steps of n
  abbrev whole_with : History → History
  whole_with n = levelled h os (record o { steps = n.steps })

  merges-levelled : (s : Step) → Merges (cut part) s ↔ Merges (cut whole) s
  merges-levelled s = (
    (λ m. let k = subst (λ (x : History). Merges x s) (cut-row o.start o.steps) m in
        subst (λ (x : History). Merges x s) (sym (cut-levelled h os o))
        (record { continues = rw (target-levelled h os o) k.continues; unclean = unclean-levelled h os o })),
    (λ m. let k = subst (λ (x : History). Merges x s) (cut-levelled h os o) m in
        subst (λ (x : History). Merges x s) (sym (cut-row o.start o.steps))
        (record { continues = rw (target-levelled h os o) at k.continues; unclean = λ e. (let bad : ⊥ = cc in bad) })),
  )

  same_current : current part ≡ current whole
  same_current = current-row o.start o.steps ∙ sym (current-levelled h os o)

  vanishes-levelled : (merged gone : Bool) (s : Step) → Vanishes merged gone (cut part) s → Vanishes merged gone (cut whole) s
  vanishes-levelled true gone s v =
      let settled : History → Type 0 = λ x. IsSettled (vanishing_of (target x)) gone (before_target x) s.after in
      rw (cut-levelled h os o, target-levelled h os o, before_target-levelled h os o) (subst settled (cut-row o.start o.steps) v)
  vanishes-levelled false gone s v =
      let same : current (cut part) ≡ current (cut whole) =
      ap current (cut-row o.start o.steps) ∙ same_current ∙ sym (ap current (cut-levelled h os o)) in
      subst (λ (d : DocumentParts). IsSettled s.names.vanishing gone d s.after) same v

  -- by the steps that are next
  next_part : (merged gone : Bool) (s : Step) (n : History) → n ≡ next_of merged gone s (cut part)
      → n ≡ row o.start (next_steps merged gone s o.steps)
  next_part merged gone s n is = is ∙ ap (next_of merged gone s) (cut-row o.start o.steps) ∙ next-row merged gone s o.start o.steps

  next_whole : (merged gone : Bool) (s : Step) (n : History) → n ≡ next_of merged gone s (cut part)
      → whole_with n ≡ next_of merged gone s (cut whole)
  next_whole merged gone s n is =
      ap whole_with (next_part merged gone s n is)
      ∙ sym (next-levelled merged gone s h os o)
      ∙ sym (ap (next_of merged gone s) (cut-levelled h os o))

  pushed_part : (s : Step) (n : History) → IsPushed part s n → n ≡ row o.start n.steps
  pushed_part s n p =
      let is = next_part p.merged p.gone s n p.next in
      is ∙ ap (λ (x : History). row o.start x.steps) (sym is)

  pushed_whole : (c : Change) (n : History) → Pushes c part n → Pushes c whole (whole_with n)
  pushed_whole c n p =
      let s = step_of c (current part) in
      let pushed : IsPushed whole s (whole_with n) = record {
        merged = p.merged;
        gone = p.gone;
        merged_where = ((λ is. (merges-levelled s).0 (p.merged_where.0 is)), (λ m. p.merged_where.1 ((merges-levelled s).1 m)));
        gone_where = vanishes-levelled p.merged p.gone s p.gone_where;
        next = next_whole p.merged p.gone s n p.next;
      } in
      rw (sym same_current) pushed

  -- and reports and tells the same, where the nestings of the whole are next where those of the part are
  told_whole : {C : Type 0} (f : C → Change) (x : C) (d e : DocumentParts) (v : Option (Entry C)) (n : History) (xs ys os ps : Nestings) (p : Pushed)
      → ((merged gone : Bool) → ys ≡ nestings_next_of merged gone part.limit (nestings_cut part.position xs)
      → ps ≡ nestings_next_of merged gone whole.limit (nestings_cut whole.position os))
      → IsToldAt f x d v (shape_with part xs) e (shape_with n ys) p → IsToldAt f x d v (shape_with whole os) e (shape_with (whole_with n) ps) p
  told_whole f x d e v n xs ys os ps p next told =
      let s = step_of (f x) (current part) in
      let r = told.report in
      record {
        report = record {
          command = r.command;
          redone = r.redone;
          merged = r.merged;
          merged_where = rw (sym same_current)
              ((λ is. (merges-levelled s).0 (r.merged_where.0 is)), (λ m. r.merged_where.1 ((merges-levelled s).1 m)));
          entry = r.entry;
          ends = r.ends;
          gone_where = rw (sym same_current) (vanishes-levelled r.merged (reports f r.entry) s r.gone_where);
          next = rw (sym same_current) (next_whole r.merged (reports f r.entry) s n r.next);
          nests = next r.merged (reports f r.entry) r.nests;
        };
        merged = told.merged;
        gone = told.gone;
      }

-- ---- a sequence of which all entries are done
module _ {C : Type 0} (f : C → Change) (d : DocumentParts) (q : Sequence C) where
  row_of : IsDone q → history_at f d q ≡ row (before (entry_change f) q.entries.items d) (steps_down (entry_change f) q.entries.items d)
  row_of k =
      let es = q.entries.items in
      let number : q.index ≡ length (steps_down (entry_change f) es d) = k.index ∙ sym (length-down (entry_change f) es d) in
      let make : ℕ → Option ℕ → ℕ → History = λ n mark limit. record (done_with f d q es n mark) { limit = limit } in
      done_view f d q es q.index q.clean (sym k.index)
      ∙ ap (λ (n : ℕ). make n q.clean q.limit) number
      ∙ ap (λ (mark : Option ℕ). make (length (steps_down (entry_change f) es d)) mark q.limit) k.clean
      ∙ ap (make (length (steps_down (entry_change f) es d)) None) k.limit

  done_fits : IsDone q → IsHeld f d q → FitsDown (entry_change f) q.entries.items d
  done_fits k h =
      let most : length q.entries.items ≤ q.index = let all = k.index in omega arith in
      rw (take_all q.index q.entries.items most) at h.sound.turnable.down

  done_of : (b : DocumentParts) (ss : List Step) → history_at f d q ≡ row b ss → IsDone q
  done_of b ss is = record {
    index =
        ap (λ (h : History). h.position) is
        ∙ sym (ap (λ (h : History). length h.steps) is)
        ∙ length-steps (entry_change f) q.entries.items q.index d;
    clean = ap (λ (h : History). h.clean) is;
    limit = ap (λ (h : History). h.limit) is;
  }

empty_items : {A : Type 0} (xs : List A) → length xs ≡ 0 → xs ≡ []
empty_items [] h = refl
empty_items (x ∷ xs) h = absurd (omega arith)

-- ---- stacks with no open level
module _ {C : Type 0} (f : C → Change) (s : Stack C) (none : s.sequences.levels.items ≡ []) where
  pub closed_history : history f s ≡ history_at f s.document s.sequences.steps
  closed_history = rw none refl

  pub closed_held : Holds f s → IsHeld f s.document s.sequences.steps
  closed_held h = rw none at h.own

  pub closed_holds : IsHeld f s.document s.sequences.steps → Holds f s
  closed_holds h = record { own = rw none h; levels = rw none tt; ready = rw none tt; depth = rw none (omega arith) }

-- what is said of the one sequence of a stack with no open level is said of the stack
pub closed_step : {C : Type 0} (f : C → Change) (R : History → History → Type 0) (s : Stack C) (d : DocumentParts) (q : Sequence C)
    → s.sequences.levels.items ≡ [] → R (history_at f s.document s.sequences.steps) (history_at f d q)
    → R (history f s) (history f (record s { document = d; sequences = record s.sequences { steps = q } }))
closed_step f R s d q none r =
    let t : Stack _ = record s { document = d; sequences = record s.sequences { steps = q } } in
    let old = history_at f s.document s.sequences.steps in
    subst (λ (h : History). R h (history f t)) (sym (closed_history f s none))
    (subst (λ (n : History). R old n) (sym (closed_history f t none)) r)

pub closed_shape : {C : Type 0} (f : C → Change) (R : Shape → Shape → Type 0) (s : Stack C) (d : DocumentParts) (q : Sequence C)
    → s.sequences.levels.items ≡ [] → R (shape_at f s.document s.sequences.steps) (shape_at f d q)
    → R (shape f s) (shape f (record s { document = d; sequences = record s.sequences { steps = q } }))
closed_shape f R s d q none r =
    let t : Stack _ = record s { document = d; sequences = record s.sequences { steps = q } } in
    let old = shape_at f s.document s.sequences.steps in
    subst (λ (h : Shape). R h (shape f t)) (sym (closed_as f s none)) (subst (λ (n : Shape). R old n) (sym (closed_as f t none)) r)
  where
    closed_as : {C : Type 0} (f : C → Change) (s : Stack C) → s.sequences.levels.items ≡ [] → shape f s ≡ shape_at f s.document s.sequences.steps
    closed_as f s none = rw none refl

-- ---- a stack that holds is calm
AreHeld-LevelsAreLive : {C : Type 0} (f : C → Change) (ls : List (Level C)) (d : DocumentParts) → AreHeld f ls d → LevelsAreLive f ls
AreHeld-LevelsAreLive f [] d h = tt
AreHeld-LevelsAreLive f (l ∷ ls) d h = (h.0.live, AreHeld-LevelsAreLive f ls d h.2)

pub Holds-IsCalm : {C : Type 0} (f : C → Change) (s : Stack C) → Holds f s → IsCalm f s
Holds-IsCalm f s h = record {
  steps = h.own.live;
  levels = AreHeld-LevelsAreLive f s.sequences.levels.items s.document h.levels;
}

-- ---- stacks that are the same but for room, a clean index or a limit
AreReady-as : {C : Type 0} (q p : Sequence C) (ls : List (Level C)) → p.entries ≡ q.entries → p.index ≡ q.index
    → AreReady q ls → AreReady p ls
AreReady-as q p [] entries index h = tt
AreReady-as q p (l ∷ ls) entries index h = (
  record { index = rw (entries, index) h.0.index; room = rw (entries, index) h.0.room },
  h.1,
)

pub marked_holds : {C : Type 0} (f : C → Change) (s : Stack C) (p : Sequence C)
    → p.entries ≡ s.sequences.steps.entries → p.index ≡ s.sequences.steps.index → p.has_free ≡ s.sequences.steps.has_free
    → IsAtMost p.clean (length s.sequences.steps.entries.items) → p.limit ≤ MAX_LIMIT
    → (0 < p.limit → length s.sequences.steps.entries.items ≤ p.limit)
    → Holds f s → Holds f (record s { sequences = record s.sequences { steps = p } })
marked_holds f s p entries index has_free most limit count h = record {
  own = marked_held f (start_of f (inners s) s.document) s.sequences.steps p entries index has_free most limit count h.own;
  levels = h.levels;
  ready = AreReady-as s.sequences.steps p s.sequences.levels.items entries index h.ready;
  depth = h.depth;
}

module _ {C : Type 0} (f : C → Change) (s t : Stack C) (document : t.document ≡ s.document) (steps : t.sequences.steps ≡ s.sequences.steps)
    (levels : t.sequences.levels.items ≡ s.sequences.levels.items) where
  pub as_holds : Holds f s → Holds f t
  as_holds h = record {
    own = rw (document, steps, levels) h.own;
    levels = rw (document, levels) h.levels;
    ready = rw (steps, levels) h.ready;
    depth = rw levels h.depth;
  }

  pub as_history : history f t ≡ history f s
  as_history = rw (document, steps, levels) refl

-- ---- the last of some levels
-- v is the last of these things, at this number
pub record IsLastOf {A : Type 0} (xs : List A) (v : A) (at : ℕ) : Type 0 where
  pub number : at + 1 ≡ length xs
  pub is : v ≡ get_or xs at v

pub last_items : {A : Type 0} (xs : List A) (v : A) (at : ℕ) → IsLastOf xs v at → xs ≡ take at xs ++ v ∷ []
last_items xs v at last =
    let number = last.number in
    sym (take_all (at + 1) xs (omega arith)) ∙ take_last xs v at (omega arith) last.is

pub set_items : {A : Type 0} (xs : List A) (w : A) (at : ℕ) → at + 1 ≡ length xs → set xs at w ≡ take at xs ++ w ∷ []
set_items xs w at last =
    sym (take_all (at + 1) (set xs at w) (omega (arith, length-set xs at w))) ∙ take-set_at xs at (at + 1) w refl (omega arith)

-- the history of levels of which the last one is known, and the document before them
open_view : {C : Type 0} (ls : List (Inner C)) (l : Inner C) (f : C → Change) (d : DocumentParts) (q : Sequence C)
    → history_in (ls ++ l ∷ []) f d q
    ≡ (let h = history_in ls f (before (entry_change f) l.sequence d) q in levelled h h.levels (open_of f l d))
open_view ls l f d q = rw (start_of-append f ls l d, opens-append f ls l d) refl

start_at : {C : Type 0} (f : C → Change) (ls ms : List (Level C)) (v : Level C) (d : DocumentParts) → ls ≡ ms ++ v ∷ []
    → start_of f (map inner_of ls) d ≡ start_of f (map inner_of ms) (before (entry_change f) v.sequence.entries.items d)
start_at f ls ms v d is =
    ap (λ (xs : List (Level _)). start_of f (map inner_of xs) d) is
    ∙ ap (λ (xs : List (Inner _)). start_of f xs d) (map-append inner_of ms (v ∷ []))
    ∙ start_of-append f (map inner_of ms) (inner_of v) d

-- what is left of a stack that holds without its last level l, and what is known of that
module _ {C : Type 0} {f : C → Change} {s : Stack C} (h : Holds f s) (ms : List (Level C)) (l : Level C)
    (items : s.sequences.levels.items ≡ ms ++ l ∷ []) where
  levels_apart : AreHeld f ms (before (entry_change f) l.sequence.entries.items s.document) × IsHeld f s.document l.sequence × IsDone l.sequence
  levels_apart = AreHeld-pop f ms l s.document (subst (λ (ls : List (Level C)). AreHeld f ls s.document) items h.levels)

  ready_apart : AreReady s.sequences.steps ms × IsReady (innermost_of s.sequences.steps ms)
  ready_apart = AreReady-pop s.sequences.steps ms l (subst (AreReady s.sequences.steps) items h.ready)

  own_apart : IsHeld f (start_of f (map inner_of ms) (before (entry_change f) l.sequence.entries.items s.document)) s.sequences.steps
  own_apart = subst (λ (d : DocumentParts). IsHeld f d s.sequences.steps) (start_at f s.sequences.levels.items ms l s.document items) h.own

  deep_apart : level_depth (map inner_of ms ++ inner_of l ∷ []) ≤ MAX_DEPTH
  deep_apart =
      let all = subst (λ (ls : List (Level C)). level_depth (map inner_of ls) ≤ MAX_DEPTH) items h.depth in
      rw (map-append inner_of ms (l ∷ [])) at all

-- a stack holds, if its levels do, of which the last one is l
module _ {C : Type 0} (f : C → Change) (t : Stack C) (ms : List (Level C)) (l : Level C) (items : t.sequences.levels.items ≡ ms ++ l ∷ []) where
  holds_with : IsHeld f (start_of f (map inner_of ms) (before (entry_change f) l.sequence.entries.items t.document)) t.sequences.steps
      → AreHeld f ms (before (entry_change f) l.sequence.entries.items t.document) → IsHeld f t.document l.sequence → IsDone l.sequence
      → AreReady t.sequences.steps (ms ++ l ∷ []) → level_depth (map inner_of ms ++ inner_of l ∷ []) ≤ MAX_DEPTH → Holds f t
  holds_with own around held done ready deep = record {
    own = subst (λ (d : DocumentParts). IsHeld f d t.sequences.steps) (sym (start_at f t.sequences.levels.items ms l t.document items)) own;
    levels = subst (λ (ls : List (Level C)). AreHeld f ls t.document) (sym items) (AreHeld-push f ms l t.document around held done);
    ready = subst (AreReady t.sequences.steps) (sym items) ready;
    depth = subst (λ (ls : List (Level C)). level_depth (map inner_of ls) ≤ MAX_DEPTH) (sym items) (rw (map-append inner_of ms (l ∷ [])) deep);
  }

-- ---- a stack s that holds, of which v is the last level
module _ {C : Type 0} {f : C → Change} {s : Stack C} (h : Holds f s) {v : Level C} {at : ℕ} (last : IsLastOf s.sequences.levels.items v at) where
  -- the levels around it
  abbrev ms : List (Level C)
  ms = take at s.sequences.levels.items

  old_items : s.sequences.levels.items ≡ take at s.sequences.levels.items ++ v ∷ []
  old_items = last_items s.sequences.levels.items v at last

  -- the level in the history, the history around it, and the history with another level in its place
  abbrev inner : Open
  inner = open_of f (inner_of v) s.document

  abbrev outer : History
  outer = history_in (map inner_of ms) f inner.start s.sequences.steps

  abbrev outer_with : Open → History
  outer_with o = levelled outer outer.levels o

  old_view : history f s ≡ outer_with inner
  old_view =
      ap (λ (ls : List (Level C)). history_in (map inner_of ls) f s.document s.sequences.steps) old_items
      ∙ ap (λ (ls : List (Inner C)). history_in ls f s.document s.sequences.steps) (map-append inner_of ms (v ∷ []))
      ∙ open_view (map inner_of ms) (inner_of v) f s.document s.sequences.steps

  level_held : IsHeld f s.document v.sequence
  level_held = (levels_apart h ms v old_items).1

  level_row : history_at f s.document v.sequence ≡ row inner.start inner.steps
  level_row = row_of f s.document v.sequence (levels_apart h ms v old_items).2

  pub level_done : IsDone v.sequence
  level_done = (levels_apart h ms v old_items).2

  pub level_innermost : innermost s.sequences ≡ v.sequence
  level_innermost = ap (innermost_of s.sequences.steps) old_items ∙ innermost_of-append s.sequences.steps ms v

  -- ---- the stack at the document d, where the level has the sequence q
  module _ (d : DocumentParts) (q : Sequence C) where
    abbrev w : Level C
    w = record v { sequence = q }

    abbrev t : Stack C
    t = record s { document = d; sequences = record s.sequences { levels = with_item s.sequences.levels at (record v { sequence = q }) } }

    new_items : t.sequences.levels.items ≡ take at s.sequences.levels.items ++ w ∷ []
    new_items = set_items s.sequences.levels.items w at last.number

    new_innermost : innermost t.sequences ≡ q
    new_innermost = ap (innermost_of s.sequences.steps) new_items ∙ innermost_of-append s.sequences.steps ms w

    new_view : before (entry_change f) q.entries.items d ≡ inner.start
        → history f t ≡ outer_with (record inner { steps = steps_down (entry_change f) q.entries.items d })
    new_view base =
        let with_start : DocumentParts → History = λ b.
        let k = history_in (map inner_of ms) f b s.sequences.steps in
        levelled k k.levels (record inner { start = b; steps = steps_down (entry_change f) q.entries.items d }) in
        ap (λ (ls : List (Level C)). history_in (map inner_of ls) f d s.sequences.steps) new_items
        ∙ ap (λ (ls : List (Inner C)). history_in ls f d s.sequences.steps) (map-append inner_of ms (w ∷ []))
        ∙ open_view (map inner_of ms) (inner_of w) f d s.sequences.steps
        ∙ ap with_start base

    -- the sequence holds these steps now
    module _ (ss : List Step) (lands : history_at f d q ≡ row inner.start ss) where
      done : IsDone q
      done = done_of f d q inner.start ss lands

      both : row (before (entry_change f) q.entries.items d) (steps_down (entry_change f) q.entries.items d) ≡ row inner.start ss
      both = sym (row_of f d q done) ∙ lands

      base : before (entry_change f) q.entries.items d ≡ inner.start
      base = ap (λ (k : History). k.base) both

      landed_view : history f t ≡ outer_with (record inner { steps = ss })
      landed_view = new_view base ∙ ap (λ (k : History). outer_with (record inner { steps = k.steps })) both

      landed_holds : IsHeld f d q → level_depth (map inner_of ms ++ inner_of w ∷ []) ≤ MAX_DEPTH → Holds f t
      landed_holds held deep =
          let start : DocumentParts → Type 0 = λ b. IsHeld f (start_of f (map inner_of ms) b) s.sequences.steps in
          let ready = AreReady-last s.sequences.steps ms v w (subst (AreReady s.sequences.steps) old_items h.ready) in
          holds_with f t ms w new_items
          (subst start (sym base) (own_apart h ms v old_items))
          (subst (AreHeld f ms) (sym base) (levels_apart h ms v old_items).0)
          held done ready deep

    -- it is no deeper than it was
    module _ (held : IsHeld f d q) (less : sequence_depth q.entries.items ≤ sequence_depth v.sequence.entries.items) where
      deep_last : level_depth (map inner_of ms ++ inner_of w ∷ []) ≤ MAX_DEPTH
      deep_last = omega (arith, level_depth-last (map inner_of ms) (inner_of v) (inner_of w) less, deep_apart h ms v old_items)

      -- where it holds the same, so does the stack
      same_inside : history_at f d q ≡ history_at f s.document v.sequence → Holds f t × (history f t ≡ history f s)
      same_inside same =
          let lands = same ∙ level_row in
          (landed_holds inner.steps lands held deep_last, landed_view inner.steps lands ∙ sym old_view)

      -- a push onto the sequence is one onto the stack
      module _ (x : C) (p : Pushes (f x) (history_at f s.document v.sequence) (history_at f d q)) where
        abbrev n : History
        n = history_at f d q

        part_pushed : Pushes (f x) (row inner.start inner.steps) n
        part_pushed = subst (λ (k : History). Pushes (f x) k n) level_row p

        lands : n ≡ row inner.start n.steps
        lands = pushed_part outer outer.levels inner (step_of (f x) (current (row inner.start inner.steps))) n part_pushed

        pushed_inside : Holds f t × Pushes (f x) (history f s) (history f t)
        pushed_inside = (
          landed_holds n.steps lands held deep_last,
          subst (λ (k : History). Pushes (f x) k (history f t)) (sym old_view)
              (subst (λ (k : History). Pushes (f x) (outer_with inner) k) (sym (landed_view n.steps lands))
              (pushed_whole outer outer.levels inner (f x) n part_pushed)),
        )

        told_inside : (a : Pushed) → NextLent f s v.sequence q t
            → IsToldAt f x s.document (target_in v.sequence) (shape_at f s.document v.sequence) d (shape_at f d q) a → IsTold f x a s t
        told_inside a next r =
            let e = target_in v.sequence in
            let xs = nestings_at v.sequence in
            let ys = nestings_at q in
            let os = nestings s in
            let ps = nestings t in
            let part = subst (λ (k : History). IsToldAt f x s.document e (shape_with k xs) d (shape_with n ys) a) level_row r in
            let new = outer_with (record inner { steps = n.steps }) in
            let position : v.sequence.index ≡ length inner.steps = ap (λ (k : History). k.position) level_row in
            let limit : v.sequence.limit ≡ 0 = ap (λ (k : History). k.limit) level_row in
            let up : (merged gone : Bool) → ys ≡ nestings_next_of merged gone 0 (nestings_cut (length inner.steps) xs)
            → ps ≡ nestings_next_of merged gone outer.limit (nestings_cut outer.position os) =
            λ merged gone is. next merged gone (rw (position, limit) is) in
            subst (λ (k : History). IsToldAt f x s.document (target_entry s) (shape_with k os) d (shape f t) a) (sym old_view)
            (subst (λ (k : History). IsToldAt f x s.document (target_entry s) (shape_with (outer_with inner) os) d (shape_with k ps) a)
            (sym (landed_view n.steps lands))
            (subst (λ (y : Sequence C). IsToldAt f x s.document (target_in y) (shape_with (outer_with inner) os) d (shape_with new ps) a)
            (sym level_innermost)
            (told_whole outer outer.levels inner f x s.document d e n xs ys os ps a up part)))

    -- an entry of this step was added to the sequence, and so to the stack
    module _ (st : Step) (same : history_at f d q ≡ with_added st [] (history_at f s.document v.sequence)) where
      added_lands : history_at f d q ≡ row inner.start (inner.steps ++ st ∷ [])
      added_lands = same ∙ ap (with_added st []) level_row ∙ next-row false false st inner.start inner.steps

      added_whole : history f t ≡ with_added st (history f s).levels (history f s)
      added_whole =
          landed_view (inner.steps ++ st ∷ []) added_lands
          ∙ sym (next-levelled false false st outer outer.levels inner)
          ∙ sym (ap (λ (k : History). with_added st k.levels k) old_view)

      added_holds : IsHeld f d q → level_depth (map inner_of ms ++ inner_of w ∷ []) ≤ MAX_DEPTH → Holds f t
      added_holds held deep = landed_holds (inner.steps ++ st ∷ []) added_lands held deep

-- ---- the innermost sequence is q now, wherever it stands
with_innermost-closed : {C : Type 0} (z : Sequences C) (q : Sequence C) → slice_get z.levels.items (vec_len z.levels - 1) ≡ None
    → with_innermost_of z q ≡ record z { steps = q }
with_innermost-closed z q e = ap (λ o. with_innermost_at o z q) e

with_innermost-open : {C : Type 0} (z : Sequences C) (q : Sequence C) (v : Level C) → slice_get z.levels.items (vec_len z.levels - 1) ≡ Some v
    → with_innermost_of z q ≡ record z { levels = with_item z.levels (vec_len z.levels - 1) (record v { sequence = q }) }
with_innermost-open z q v e = ap (λ o. with_innermost_at o z q) e

-- what holds of it where it is the stack's own, and where it is that of the last level, holds of it
pub by_place : {C : Type 0} (s : Stack C) (q : Sequence C) (R : Sequences C → Type 0)
    → (s.sequences.levels.items ≡ [] → R (record s.sequences { steps = q }))
    → ((v : Level C) (at : ℕ) → IsLastOf s.sequences.levels.items v at
    → R (record s.sequences { levels = with_item s.sequences.levels at (record v { sequence = q }) }))
    → R (with_innermost_of s.sequences q)
by_place s q R closed inside =
    let z = s.sequences in
    let at = vec_len z.levels - 1 in
    elim (slice_get_cases z.levels.items at).1 as (λ _. R (with_innermost_of z q)) [
      | inl found ↦ subst R (sym (with_innermost-open z q found.0 found.2))
          (inside found.0 at (record { number = (let below = found.1 in omega (arith, z.levels.ok.0)); is = sym found.3 }))
      | inr past ↦ subst R (sym (with_innermost-closed z q past.1))
          (closed (empty_items z.levels.items (let most = past.0 in omega (arith, z.levels.ok.0))))
    ]

-- the stack s, at the document d and with q as its innermost sequence
abbrev pub led : {C : Type 0} → Stack C → DocumentParts → Sequence C → Stack C
led s d q = record s { document = d; sequences = with_innermost_of s.sequences q }

module _ {C : Type 0} {f : C → Change} {s : Stack C} (h : Holds f s) where
  -- the innermost sequence is held, and what a caller knows of it
  pub inner_held : IsHeld f s.document (innermost s.sequences)
  inner_held = by_place s (innermost s.sequences) (λ _. IsHeld f s.document (innermost s.sequences))
      (λ none. rw none (closed_held f s none h))
      (λ v at last. subst (IsHeld f s.document) (sym (level_innermost h last)) (level_held h last))

  pub innermost_led : (q : Sequence C) → innermost (with_innermost_of s.sequences q) ≡ q
  innermost_led q = by_place s q (λ z. innermost z ≡ q)
      (λ none. rw none refl)
      (λ v at last. new_innermost h last s.document q)

  module _ (d : DocumentParts) (q : Sequence C) (held : IsHeld f d q)
      (less : sequence_depth q.entries.items ≤ sequence_depth (innermost s.sequences).entries.items) where
    -- the stack with q where the innermost sequence stands: as its own one, or in the last level
    abbrev own : Stack C
    own = record s { document = d; sequences = record s.sequences { steps = q } }

    -- it holds the same
    pub same_led : history_at f d q ≡ history_at f s.document (innermost s.sequences) → Holds f (led s d q) × (history f (led s d q) ≡ history f s)
    same_led same = by_place s q (λ z. let t : Stack C = record s { document = d; sequences = z } in Holds f t × (history f t ≡ history f s))
        (λ none. (closed_holds f own none held, closed_history f own none ∙ rw none at same ∙ sym (closed_history f s none)))
        (λ v at last.
        let is = level_innermost h last in
        same_inside h last d q held (rw is at less) (rw is at same))

    -- a push onto it is one onto the stack
    module _ (x : C) (p : Pushes (f x) (history_at f s.document (innermost s.sequences)) (history_at f d q)) where
      part_onto : (y : Sequence C) → innermost s.sequences ≡ y → Pushes (f x) (history_at f s.document y) (history_at f d q)
      part_onto y is = subst (λ (r : Sequence C). Pushes (f x) (history_at f s.document r) (history_at f d q)) is p

      pub pushed_led : Holds f (led s d q) × Pushes (f x) (history f s) (history f (led s d q))
      pushed_led = by_place s q
          (λ z. let t : Stack C = record s { document = d; sequences = z } in Holds f t × Pushes (f x) (history f s) (history f t))
          (λ none. (closed_holds f own none held, closed_step f (Pushes (f x)) s d q none (rw none at p)))
          (λ v at last.
          let is = level_innermost h last in
          pushed_inside h last d q held (rw is at less) x (part_onto v.sequence is))

      -- and reports and tells the same
      abbrev ToldOn : Pushed → Sequence C → Type 0
      ToldOn a y = IsToldAt f x s.document (target_in y) (shape_at f s.document y) d (shape_at f d q) a

      pub told_led : (a : Pushed) → NextLent f s (innermost s.sequences) q (led s d q) → ToldOn a (innermost s.sequences) → IsTold f x a s (led s d q)
      told_led a next r = by_place s q
          (λ z. let t : Stack C = record s { document = d; sequences = z } in NextLent f s (innermost s.sequences) q t → IsTold f x a s t)
          (λ none next.
          let onto : ToldOn a s.sequences.steps = rw none at r in
          closed_shape f (λ k n. IsToldAt f x s.document (target_entry s) k d n a) s d q none (rw none onto))
          (λ v at last next.
          let is = level_innermost h last in
          let t : Stack C = record s { document = d; sequences = record s.sequences { levels = with_item s.sequences.levels at (record v { sequence = q }) } }
          in
          let onto = subst (λ (y : Sequence C). NextLent f s y q t) is next in
          told_inside h last d q held (rw is at less) x (part_onto v.sequence is) a onto (subst (ToldOn a) is r))
          next

-- with a level open no step that is added is one too many
open-IsFull : (os : List Open) (o : Open) (h : History) → IsFull (os ++ o ∷ []) h → ⊥
open-IsFull [] o h full = full
open-IsFull (p ∷ os) o h full = full

-- a step that is added to the innermost sequence is one too many exactly where one is that is added to the stack
pub full_led : {C : Type 0} {f : C → Change} {s : Stack C} → Holds f s
    → IsFull [] (history_at f s.document (innermost s.sequences)) ↔ IsFull (history f s).levels (history f s)
full_led {C} {f} {s} h = by_place s (innermost s.sequences)
    (λ _. IsFull [] (history_at f s.document (innermost s.sequences)) ↔ IsFull (history f s).levels (history f s))
    (λ none. rw none ((λ full. full), (λ full. full)))
    (λ v at last.
    let none : (innermost s.sequences).limit ≡ 0 = ap (λ (q : Sequence C). q.limit) (level_innermost h last) ∙ (level_done h last).limit in (
      (λ full. let some : 0 < (innermost s.sequences).limit = full.0 in absurd (omega (arith, some, none))),
      (λ full.
          let around = outer h last in
          absurd (open-IsFull around.levels (inner h last) _ (subst (λ (k : History). IsFull k.levels k) (old_view h last) full))),
    ))

-- ---- a level opens behind the others, and the last one closes
innermost_done : {C : Type 0} (f : C → Change) (q : Sequence C) (ls : List (Level C)) (d : DocumentParts) → 0 < length ls → AreHeld f ls d
    → IsDone (innermost_of q ls)
innermost_done f q [] d some h = absurd (omega arith)
innermost_done f q (l ∷ []) d some h = h.1
innermost_done f q (l ∷ m ∷ ls) d some h = innermost_done f l.sequence (m ∷ ls) d (omega arith) h.2

-- while a level is open, nothing stands above the index of the innermost sequence, and nothing is cut
pub open_ready : {C : Type 0} {f : C → Change} {s : Stack C} → Holds f s → 0 < length s.sequences.levels.items
    → (innermost s.sequences).index < deque_capacity (innermost s.sequences).entries → IsReady (innermost s.sequences)
open_ready {C} {f} {s} h some room = record {
  index = (innermost_done f s.sequences.steps s.sequences.levels.items s.document some h.levels).index;
  room = room;
}

pub open_uncut : {C : Type 0} (ls : List (Level C)) (f : C → Change) (d : DocumentParts) (q : Sequence C) → 0 < length ls
    → history_in (map inner_of ls) f d q ≡ cut (history_in (map inner_of ls) f d q)
open_uncut [] f d q some = absurd (omega arith)
open_uncut (l ∷ ls) f d q some = refl

-- a stack that gets a further level l, in which nothing stands
pub opened_holds : {C : Type 0} {f : C → Change} {s : Stack C} → Holds f s → (l : Level C) (levels : Vec (Level C) Global)
    → levels.items ≡ s.sequences.levels.items ++ l ∷ [] → l.sequence.entries.items ≡ [] → IsDone l.sequence
    → length s.sequences.levels.items < MAX_DEPTH → IsReady (innermost s.sequences)
    → Holds f (record s { sequences = record s.sequences { levels = levels } })
opened_holds {C} {f} {s} h l levels items none done few ready =
    let ms = s.sequences.levels.items in
    let b = before (entry_change f) l.sequence.entries.items s.document in
    let same : s.document ≡ b = sym (ap (λ (es : List (Entry C)). before (entry_change f) es s.document) none) in
    let held = empty_held f s.document l.sequence none (done.index ∙ ap length none) (rw done.clean tt) (rw done.limit (omega arith)) in
    let count = length-map ms inner_of in
    let flat : sequence_depth (inner_of l).sequence ≡ 0 = ap sequence_depth none in
    holds_with f (record s { sequences = record s.sequences { levels = levels } }) ms l items
    (subst (λ (d : DocumentParts). IsHeld f (start_of f (map inner_of ms) d) s.sequences.steps) same h.own)
    (subst (AreHeld f ms) same h.levels) held done (AreReady-push s.sequences.steps ms l h.ready ready)
    (level_depth-append (inners s) (inner_of l) MAX_DEPTH h.depth (omega arith))

-- the stack without its last level, before the document of that
abbrev pub popped : {C : Type 0} → (C → Change) → Stack C → Level C → Vec (Level C) Global → Stack C
popped f s l levels = record s {
  document = before (entry_change f) l.sequence.entries.items s.document;
  sequences = record s.sequences { levels = levels };
}

-- the last level l of a stack that holds becomes the entry x, and these levels are left
pub record Closes {C : Type 0} (f : C → Change) (s : Stack C) (l : Level C) (levels : Vec (Level C) Global) (x : Entry C) : Type 0 where
  pub holds : Holds f s
  pub items : s.sequences.levels.items ≡ levels.items ++ l ∷ []
  pub closed : IsClosed f (inner_of l) x

module _ {C : Type 0} {f : C → Change} {s : Stack C} {l : Level C} {levels : Vec (Level C) Global} {x : Entry C} (e : Closes f s l levels x) where
  -- what is left holds, and has room for x
  pub popped_holds : Holds f (popped f s l levels)
  popped_holds =
      let less = level_depth-without_last (map inner_of levels.items) (inner_of l) in
      record {
        own = own_apart e.holds levels.items l e.items;
        levels = (levels_apart e.holds levels.items l e.items).0;
        ready = (ready_apart e.holds levels.items l e.items).0;
        depth = omega (arith, less, deep_apart e.holds levels.items l e.items);
      }

  pub popped_ready : IsReady (innermost (popped f s l levels).sequences)
  popped_ready = (ready_apart e.holds levels.items l e.items).1

  closing_fits : (entry_change f x).fits_undo s.document
  closing_fits =
      let apart = levels_apart e.holds levels.items l e.items in
      e.closed.fits s.document (done_fits f s.document l.sequence apart.2 apart.1)

  pub closing_depth : depth x ≤ MAX_DEPTH
  closing_depth =
      let deep = level_depth-deep (map inner_of levels.items) (inner_of l) in
      omega (arith, e.closed.deep, deep_apart e.holds levels.items l e.items, deep)

  -- x goes into the level around it
  closing_deep : (v : Level C) (at : ℕ) (q : Sequence C) → IsLastOf levels.items v at
      → sequence_depth q.entries.items ≤ max (sequence_depth v.sequence.entries.items) (depth x)
      → level_depth (map inner_of (take at levels.items) ++ inner_of (record v { sequence = q }) ∷ []) ≤ MAX_DEPTH
  closing_deep v at q last less =
      let ms = take at levels.items in
      let deep = deep_apart e.holds levels.items l e.items in
      let around : map inner_of levels.items ≡ map inner_of ms ++ inner_of v ∷ [] =
      ap (map inner_of) (last_items levels.items v at last) ∙ map-append inner_of ms (v ∷ []) in
      let whole = subst (λ (ls : List (Inner C)). level_depth (ls ++ inner_of l ∷ []) ≤ MAX_DEPTH) around deep in
      let same = e.closed.deep in
      let most = level_depth-closed (map inner_of ms) (inner_of v) (inner_of l) (inner_of (record v { sequence = q })) (omega arith) in
      omega arith

  -- a step that is added to what is left is one too many exactly where it is so by the levels around
  popped_levels : without_last (history f s).levels ≡ (history f (popped f s l levels)).levels
  popped_levels =
      let ms = map inner_of levels.items in
      ap (λ (ls : List (Level C)). without_last (opens f (map inner_of ls) s.document)) e.items
      ∙ ap (λ (ls : List (Inner C)). without_last (opens f ls s.document)) (map-append inner_of levels.items (l ∷ []))
      ∙ ap without_last (opens-append f ms (inner_of l) s.document)
      ∙ without_last-append (opens f ms (before (entry_change f) l.sequence.entries.items s.document)) (open_of f (inner_of l) s.document)

  pub popped_full : (let n = history f (popped f s l levels) in IsFull n.levels n) ↔ (let h = history f s in IsFull (without_last h.levels) h)
  popped_full =
      let h = history f s in
      let n = history f (popped f s l levels) in (
        (λ full. IsFull-as (without_last h.levels) n h refl refl (subst (λ (ls : List Open). IsFull ls n) (sym popped_levels) full)),
        (λ full. subst (λ (ls : List Open). IsFull ls n) popped_levels (IsFull-as (without_last h.levels) h n refl refl full)),
      )

  -- the history that the end of the level leads to
  ended_so : (n : History)
      → n ≡ (let h = history f (popped f s l levels) in with_added (step_named (entry_change f x).names s.document) h.levels h)
      → Ends (history f s) (Ok tt) n
  ended_so n is =
      let ms = map inner_of levels.items in
      let h = history f (popped f s l levels) in
      let ends : List (Inner C) → Type 0 = λ ls. Ends (history_in ls f s.document s.sequences.steps) (Ok tt) n in
      let named = ap (λ (names : Names). with_added (step_named names s.document) h.levels h) e.closed.names in
      subst ends (sym (ap (map inner_of) e.items ∙ map-append inner_of levels.items (l ∷ []))) record {
        answered = ended_answer f ms (inner_of l) s.document;
        leads = is ∙ named ∙ sym (ended_view ms (inner_of l) f s.document s.sequences.steps);
      }

  -- the innermost sequence takes x in, and is q then
  pub ended_led : (q : Sequence C)
      → sequence_depth q.entries.items ≤ max (sequence_depth (innermost (popped f s l levels).sequences).entries.items) (depth x)
      → ((entry_change f x).fits_undo s.document
      → IsHeld f ((entry_change f x).undone s.document) (innermost (popped f s l levels).sequences) → IsHeld f s.document q)
      → history_at f s.document q
      ≡ with_added (step_named (entry_change f x).names s.document) []
      (history_at f ((entry_change f x).undone s.document) (innermost (popped f s l levels).sequences))
      → Holds f (led (popped f s l levels) s.document q) × Ends (history f s) (Ok tt) (history f (led (popped f s l levels) s.document q))
  ended_led q less keeps added =
      let b = popped f s l levels in
      let z = innermost b.sequences in
      let st = step_named (entry_change f x).names s.document in
      let back : (entry_change f x).undone s.document ≡ b.document = e.closed.undone s.document in
      let held : IsHeld f s.document q =
      keeps closing_fits (subst (λ (d : DocumentParts). IsHeld f d z) (sym back) (inner_held popped_holds)) in
      let same : history_at f s.document q ≡ with_added st [] (history_at f b.document z) =
      added ∙ ap (λ (d : DocumentParts). with_added st [] (history_at f d z)) back in
      by_place b q (λ y. let t : Stack C = record b { document = s.document; sequences = y } in Holds f t × Ends (history f s) (Ok tt) (history f t))
      (λ none.
      let t : Stack C = record b { document = s.document; sequences = record b.sequences { steps = q } } in
      let own = closed_history f t none ∙ rw none at same ∙ sym (ap (λ (k : History). with_added st k.levels k) (closed_history f b none)) in
      (closed_holds f t none held, ended_so (history f t) own))
      (λ v at last.
      let t : Stack C = record b { document = s.document; sequences = record b.sequences { levels = with_item levels at (record v { sequence = q }) } } in
      let inner = level_innermost popped_holds last in
      let one = rw inner at same in
      let deep = closing_deep v at q last (rw inner at less) in (
        added_holds popped_holds last s.document q st one held deep,
        ended_so (history f t) (added_whole popped_holds last s.document q st one),
      ))

-- by what a call came to
pub by_result : {A E : Type 0} {P Q R : Type 0} (r : Result A E) → IfOk r (λ _. P) → IfErr r (λ _. Q) → (P → R) → (Q → R) → R
by_result (Ok x) p q f g = f p
by_result (Err e) p q f g = g q
