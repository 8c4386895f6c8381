-- What the calls of a stack make of the list that says of each step whether it is a macro.
use Rattle.std.proofs.Common.{◌≡◌, ℕ, ◌+◌, ◌-◌, List, [], ◌∷◌, ◌++◌, Bool, true, false, Ok, Err, map, take, drop, reverse, length, zero, suc}
use Rattle.std.proofs.Common.{refl, sym, ◌∙◌, ap, subst, arith}
use Rattle.std.proofs.lemmas.List.{drop-map, length-map, map-append, reverse-append, take-map}
use Rattle.std.specs.Prelude.{IfErr, IfOk, Option}
use Rattle.map_model.specs.Document.{DocumentParts}
use Rattle.command_api.specs.Law.{Change, IsRedone, IsUndone}
use Rattle.command_api.specs.Names.{is_free}
use Rattle.undo_stack.specs.Entries.{entry_change}
use Rattle.undo_stack.specs.Held.{entry_nestings}
use Rattle.undo_stack.specs.History.{History, Open, Step}
use Rattle.undo_stack.specs.Moving.{Answer}
use Rattle.undo_stack.specs.Nestings.{Nesting, Nestings, NestingsLead, Shape, Single, innermost_nestings, is_nested, macros_in, macros_of, nested}
use Rattle.undo_stack.specs.Nestings.{nestings_begun, nestings_cut, nestings_ended, nestings_next_of, shape_positioned, with_last, within_limit}
use Rattle.undo_stack.specs.Pushing.{without_last}
use Rattle.undo_stack.specs.Reporting.{AreRedone, AreUndone, GoesBy, IsRedoneIn, IsUndoneIn, left_by}
use Rattle.undo_stack.specs.Sequence.{steps_down, steps_up}
use Rattle.undo_stack.specs.Sound.{start_of}
use Rattle.undo_stack.specs.Stacks.{history, inners, macros, nestings, shape, IsTurnReported}
use Rattle.undo_stack.specs.Turning.{AreBound, IsSteady}
use Rattle.undo_stack.specs.declared.entry.Entry.{Entry}
use Rattle.undo_stack.specs.declared.stack.Stack.{Stack}
use Rattle.undo_stack.proofs.Nestings.{is_nested-nested}
use Rattle.undo_stack.proofs.Views.{length-opens}
use Rattle.session.specs.declared.line.Line.{Line}
use Rattle.session.specs.declared.line.Line.TheVariants.{Begin, End}
use Rattle.session.specs.declared.reply.Reply.TheVariants.{Refused}
use Rattle.document_lines.specs.declared.planned.Planned.{Planned}
use Rattle.document_lines.specs.declared.planned.Planned.TheVariants as planned
use Rattle.document_lines.specs.Answers.{call_reply}
use Rattle.document_lines.specs.Rules.{rule_of}
use Rattle.document_lines.specs.Kinds.{DocumentKinds, DoneKinds, macros_after, macros_begun, macros_edited, macros_ended}

-- ---- lists
map-without_last : {A B : Type 0} (k : A → B) (xs : List A) → map k (without_last xs) ≡ without_last (map k xs)
map-without_last k [] = refl
map-without_last k (x ∷ []) = refl
map-without_last k (x ∷ y ∷ xs) = ap (λ ys. k x ∷ ys) (map-without_last k (y ∷ xs))

map-within_limit : {A B : Type 0} (k : A → B) (limit : ℕ) (xs : List A) → map k (within_limit limit xs) ≡ within_limit limit (map k xs)
map-within_limit k zero xs = refl
map-within_limit k (suc m) xs = sym (drop-map k (length xs - suc m) xs) ∙ ap (λ (n : ℕ). drop (n - suc m) (map k xs)) (sym (length-map xs k))

-- ---- nestings, with as many open levels in a history
with_last-open : (change : List Nesting → List Nesting) (l : List Nesting) (ls : List (List Nesting)) (os : List Nesting)
    → macros_in (with_last change (l ∷ ls)) os ≡ macros_in (l ∷ ls) os
with_last-open change l [] os = refl
with_last-open change l (m ∷ ls) os = refl

abbrev nestings_at : List Nesting → List (List Nesting) → Nestings
nestings_at os ls = record { steps = os; levels = ls }

begun : (hs : List Open) (ls : List (List Nesting)) (n : ℕ) (os : List Nesting) → length hs ≡ length ls
    → macros_of (nestings_begun n (nestings_at os ls)) ≡ macros_begun hs n (macros_in ls os)
begun [] [] n os long = ap (λ (ks : List Bool). ks ++ true ∷ []) (sym (take-map is_nested n os))
begun [] (l ∷ ls) n os long = absurd (omega arith)
begun (h ∷ hs) [] n os long = absurd (omega arith)
begun (h ∷ hs) (l ∷ ls) n os long = refl

-- the outermost macro ends
closed : (limit : ℕ) (os l : List Nesting) → map is_nested (within_limit limit (os ++ nested l ∷ [])) ≡ within_limit limit (map is_nested os ++ true ∷ [])
closed limit os l =
    map-within_limit is_nested limit (os ++ nested l ∷ [])
    ∙ ap (λ (ks : List Bool). within_limit limit ks)
    (map-append is_nested os (nested l ∷ []) ∙ ap (λ (b : Bool). map is_nested os ++ b ∷ []) (sym (is_nested-nested l)))

ended : (hs : List Open) (ls : List (List Nesting)) (limit : ℕ) (os : List Nesting) → length hs ≡ length ls
    → macros_of (nestings_ended limit (nestings_at os ls)) ≡ macros_ended hs limit (macros_in ls os)
ended [] [] limit os long = refl
ended [] (l ∷ ls) limit os long = absurd (omega arith)
ended (h ∷ hs) [] limit os long = absurd (omega arith)
ended (h ∷ []) (l ∷ []) limit os long = closed limit os l
ended (h ∷ []) (l ∷ m ∷ ls) limit os long = absurd (omega arith)
ended (h ∷ k ∷ hs) (l ∷ []) limit os long = absurd (omega arith)
ended (h ∷ k ∷ hs) (l ∷ m ∷ ls) limit os long =
    with_last-open (λ (ps : List Nesting). ps ++ nested (innermost_nestings l (m ∷ ls)) ∷ []) l (without_last (m ∷ ls)) os

pub edited : (hs : List Open) (ls : List (List Nesting)) (merged gone : Bool) (limit n : ℕ) (os : List Nesting) → length hs ≡ length ls
    → macros_of (nestings_next_of merged gone limit (nestings_cut n (nestings_at os ls))) ≡ macros_edited hs merged gone limit n (macros_in ls os)
edited [] [] true true limit n os long = map-without_last is_nested (take n os) ∙ ap (λ (ks : List Bool). without_last ks) (sym (take-map is_nested n os))
edited [] [] true false limit n os long = sym (take-map is_nested n os)
edited [] [] false true limit n os long = sym (take-map is_nested n os)
edited [] [] false false limit n os long =
    map-within_limit is_nested limit (take n os ++ Single ∷ [])
    ∙ ap (λ (ks : List Bool). within_limit limit ks)
    (map-append is_nested (take n os) (Single ∷ []) ∙ ap (λ (ks : List Bool). ks ++ false ∷ []) (sym (take-map is_nested n os)))
edited [] (l ∷ ls) merged gone limit n os long = absurd (omega arith)
edited (h ∷ hs) [] merged gone limit n os long = absurd (omega arith)
edited (h ∷ hs) (l ∷ ls) true true limit n os long = with_last-open without_last l ls os
edited (h ∷ hs) (l ∷ ls) true false limit n os long = refl
edited (h ∷ hs) (l ∷ ls) false true limit n os long = refl
edited (h ∷ hs) (l ∷ ls) false false limit n os long = with_last-open (λ (ps : List Nesting). ps ++ Single ∷ []) l ls os

-- ---- entries that are not those of free commands
bound-first : (ss ts : List Step) → AreBound (ss ++ ts) → AreBound ss
bound-first [] ts b = tt
bound-first (s ∷ ss) ts b = (b.0, bound-first ss ts b.1)

bound-rest : (ss ts : List Step) → AreBound (ss ++ ts) → AreBound ts
bound-rest [] ts b = b
bound-rest (s ∷ ss) ts b = bound-rest ss ts b.1

-- a step that may not go stays
stays : {P : Type 0} (gone : Bool) → gone ≡ false → gone ≡ true → P
stays gone stay goes = let bad : false ≡ true = sym stay ∙ goes in let worse : ⊥ = cc in absurd worse

left_same : (gone : Bool) (at : ℕ) (a next : Shape) → gone ≡ false → next.nestings ≡ a.nestings → (left_by gone at a next).nestings ≡ a.nestings
left_same true at a next stay same = stays true stay refl
left_same false at a next stay same = same

module _ {C : Type 0} (f : C → Change) where
  abbrev AreBoundIn : List (Entry C) → Type 0
  AreBoundIn [] = Unit {0}
  AreBoundIn (v ∷ vs) = (is_free (entry_change f v).names.vanishing ≡ false) × AreBoundIn vs

  bound-down : (vs : List (Entry C)) (d : DocumentParts) → AreBound (steps_down (entry_change f) vs d) → AreBoundIn vs
  bound-down [] d b = tt
  bound-down (v ∷ vs) d b = (b.0, bound-down vs d b.1)

  bound-up : (vs : List (Entry C)) (d : DocumentParts) → AreBound (steps_up (entry_change f) vs d) → AreBoundIn vs
  bound-up [] d b = tt
  bound-up (v ∷ vs) d b = (b.0, bound-up vs ((entry_change f v).redone d) b.1)

  bound-append : (vs ws : List (Entry C)) → AreBoundIn vs → AreBoundIn ws → AreBoundIn (vs ++ ws)
  bound-append [] ws b c = c
  bound-append (v ∷ vs) ws b c = (b.0, bound-append vs ws b.1 c)

  bound-reverse : (vs : List (Entry C)) → AreBoundIn vs → AreBoundIn (reverse vs)
  bound-reverse [] b = tt
  bound-reverse (v ∷ vs) b =
      subst (λ (ws : List (Entry C)). AreBoundIn ws) (sym (reverse-append (v ∷ []) vs))
      (bound-append (reverse vs) (v ∷ []) (bound-reverse vs b.1) (b.0, tt))

  bound-take : (n : ℕ) (vs : List (Entry C)) → AreBoundIn vs → AreBoundIn (take n vs)
  bound-take zero vs b = tt
  bound-take (suc n) [] b = tt
  bound-take (suc n) (v ∷ vs) b = (b.0, bound-take n vs b.1)

  bound-drop : (n : ℕ) (vs : List (Entry C)) → AreBoundIn vs → AreBoundIn (drop n vs)
  bound-drop zero vs b = b
  bound-drop (suc n) [] b = tt
  bound-drop (suc n) (v ∷ vs) b = bound-drop n vs b.1

  -- ---- turns of such entries
  stays_by : (IsTurned : Entry C → Type 0) (free gone : Bool) → free ≡ false → GoesBy f free IsTurned gone → gone ≡ false
  stays_by IsTurned true gone bound goes = stays true bound refl
  stays_by IsTurned false gone bound goes = goes

  undone_in : (v : Entry C) (d : DocumentParts) (a n : Shape) → is_free (entry_change f v).names.vanishing ≡ false → IsUndoneIn f v d a n
      → n.nestings ≡ a.nestings
  undone_in v d a n bound u =
      let at = a.history.position - 1 in
      let IsTurned : Entry C → Type 0 = λ w. IsUndone (entry_change f v) (entry_change f w) d ((entry_change f v).undone d) in
      let stay = stays_by IsTurned (is_free (entry_change f v).names.vanishing) u.gone bound u.goes in
      ap (λ (k : Shape). k.nestings) u.left ∙ left_same u.gone at a (shape_positioned at a) stay refl

  redone_in : (v : Entry C) (d : DocumentParts) (a n : Shape) → is_free (entry_change f v).names.vanishing ≡ false → IsRedoneIn f v d a n
      → n.nestings ≡ a.nestings
  redone_in v d a n bound u =
      let at = a.history.position in
      let IsTurned : Entry C → Type 0 = λ w. IsRedone (entry_change f v) (entry_change f w) d ((entry_change f v).redone d) in
      let stay = stays_by IsTurned (is_free (entry_change f v).names.vanishing) u.gone bound u.goes in
      ap (λ (k : Shape). k.nestings) u.left ∙ left_same u.gone at a (shape_positioned (at + 1) a) stay refl

  all_undone : (vs : List (Entry C)) (d : DocumentParts) (a n : Shape) → AreBoundIn vs → AreUndone f vs d a n → n.nestings ≡ a.nestings
  all_undone [] d a n bound u = ap (λ (k : Shape). k.nestings) u
  all_undone (v ∷ vs) d a n bound u = all_undone vs ((entry_change f v).undone d) u.0 n bound.1 u.2 ∙ undone_in v d a u.0 bound.0 u.1

  all_redone : (vs : List (Entry C)) (d : DocumentParts) (a n : Shape) → AreBoundIn vs → AreRedone f vs d a n → n.nestings ≡ a.nestings
  all_redone [] d a n bound u = ap (λ (k : Shape). k.nestings) u
  all_redone (v ∷ vs) d a n bound u = all_redone vs ((entry_change f v).redone d) u.0 n bound.1 u.2 ∙ redone_in v d a u.0 bound.0 u.1

  turned : (i : ℕ) (s t : Stack C) → IsSteady (history f s) → IsTurnReported f i s t → nestings t ≡ nestings s
  turned i s t steady r =
      let n = s.sequences.steps.index in
      let es = s.sequences.steps.entries.items in
      let d = start_of f (inners s) s.document in
      let downs = steps_down (entry_change f) (take n es) d in
      let ups = steps_up (entry_change f) (drop n es) d in
      let below = bound-down (take n es) d (bound-first downs ups steady) in
      let above = bound-up (drop n es) d (bound-rest downs ups steady) in
      all_redone (take (i - n) (drop n es)) s.document r.between (shape f t) (bound-take (i - n) (drop n es) above) r.on
      ∙ all_undone (reverse (drop i (take n es))) s.document (shape f s) r.between
      (bound-reverse (drop i (take n es)) (bound-drop i (take n es) below)) r.back

  -- ---- calls of a stack
  pub levels-alike : (s : Stack C) → length (history f s).levels ≡ length (nestings s).levels
  levels-alike s = length-opens f s.sequences.levels.items s.document ∙ sym (length-map s.sequences.levels.items (λ l. entry_nestings l.sequence))

  -- a turn of steps that stay
  pub turn-macros : (i : ℕ) (s t : Stack C) (answer : Answer) → IsSteady (history f s) → IfOk answer (λ _. IsTurnReported f i s t)
      → IfErr answer (λ _. nestings t ≡ nestings s) → macros t ≡ macros s
  turn-macros i s t (Ok done) steady reported kept = ap macros_of (turned i s t steady reported)
  turn-macros i s t (Err fault) steady reported kept = ap macros_of kept

  -- a macro that begins, and one that ends
  pub begin-macros : (s t : Stack C) (text : List ℕ) (action : Option (List ℕ)) (answer : Answer)
      → NestingsLead answer (nestings s) (nestings_begun (history f s).position (nestings s)) (nestings t)
      → DoneKinds (Begin text action) (history f s) (planned.Reply (call_reply answer (history f t))) (macros s) (macros t)
  begin-macros s t text action (Ok done) lead =
      ap macros_of lead ∙ begun (history f s).levels (nestings s).levels (history f s).position (nestings s).steps (levels-alike s)
  begin-macros s t text action (Err fault) lead = ap macros_of lead

  pub end-macros : (s t : Stack C) (answer : Answer) → NestingsLead answer (nestings s) (nestings_ended (history f s).limit (nestings s)) (nestings t)
      → DoneKinds End (history f s) (planned.Reply (call_reply answer (history f t))) (macros s) (macros t)
  end-macros s t (Ok done) lead =
      ap macros_of lead ∙ ended (history f s).levels (nestings s).levels (history f s).limit (nestings s).steps (levels-alike s)
  end-macros s t (Err fault) lead = ap macros_of lead

-- a call that keeps the list, for a line that does
kept-DoneKinds : (line : Line) (h : History) (plan : Planned) (ks ns : List Bool) → macros_after line h ks ≡ ks → ns ≡ ks → DoneKinds line h plan ks ns
kept-DoneKinds line h planned.Quiet ks ns stay kept = kept
kept-DoneKinds line h (planned.Reply (Refused refusal)) ks ns stay kept = kept
kept-DoneKinds line h (planned.Reply reply) ks ns stay kept = kept ∙ sym stay
kept-DoneKinds line h (planned.Push edit) ks ns stay kept = kept

-- so it is by the rule of a line about the history
pub kept-DocumentKinds : (line l : Line) (h : History) (plan : Planned) (ks ns : List Bool) → line ≡ l → macros_after l h ks ≡ ks
    → (DoneKinds l h plan ks ns → DocumentKinds l (rule_of l) h plan ks ns) → ns ≡ ks → DocumentKinds line (rule_of line) h plan ks ns
kept-DocumentKinds line l h plan ks ns is stay done kept =
    let P : Line → Type 0 = λ x. DocumentKinds x (rule_of x) h plan ks ns in
    subst P (sym is) (done (kept-DoneKinds l h plan ks ns stay kept))
