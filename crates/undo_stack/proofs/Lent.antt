-- The nestings of a stack, once its innermost sequence became another one.
use Rattle.std.proofs.Common.{◌≡◌, ℕ, ◌<◌, List, [], ◌∷◌, ◌++◌, Bool, take, length, map, refl, sym, ◌∙◌, ap, subst, arith, Global, Vec}
use Rattle.std.proofs.lemmas.List.{length-map, map-append, take-map}
use Rattle.std.specs.Vec.{with_item}
use Rattle.map_model.specs.Document.{DocumentParts}
use Rattle.command_api.specs.Law.{Change}
use Rattle.undo_stack.specs.Held.{entry_nestings, nestings_at}
use Rattle.undo_stack.specs.Lending.{innermost}
use Rattle.undo_stack.specs.Nestings.{Nesting, Nestings, within_limit, nesting, nestings_begun, nestings_cut, nestings_ended, nestings_next_of}
use Rattle.undo_stack.specs.Nestings.{nestings_with_added}
use Rattle.undo_stack.specs.Stacks.{Holds, nestings}
use Rattle.undo_stack.specs.declared.entry.Entry.{Entry}
use Rattle.undo_stack.specs.declared.level.Level.{Level}
use Rattle.undo_stack.specs.declared.sequence.Sequence.{Sequence}
use Rattle.undo_stack.specs.declared.stack.Stack.{Stack}
use Rattle.undo_stack.proofs.Innermost.{Closes, IsLastOf, by_place, last_items, led, level_done, level_innermost, popped, popped_holds, set_items}
use Rattle.undo_stack.proofs.Nestings.{added_levelled, ended_levelled, kept_none, levelled, next_closed, next_levelled}

-- the nestings of an open level
abbrev row_of : {C : Type 0} → Level C → List Nesting
row_of l = entry_nestings l.sequence

-- those of levels of which the last one is known
abbrev rows : {C : Type 0} → List (Level C) → List (List Nesting)
rows ls = map row_of ls

rows-last : {C : Type 0} (ls ms : List (Level C)) (v : Level C) → ls ≡ ms ++ v ∷ [] → rows ls ≡ rows ms ++ row_of v ∷ []
rows-last ls ms v is = ap rows is ∙ map-append row_of ms (v ∷ [])

-- the nestings of steps and of levels
abbrev pub levels_as : {C : Type 0} → List Nesting → List (Level C) → Nestings
levels_as ss ls = record { steps = ss; levels = rows ls }

with_rows : (ss : List Nesting) (xs ys : List (List Nesting)) → xs ≡ ys
    → let with : List (List Nesting) → Nestings = λ rest. record { steps = ss; levels = rest } in with xs ≡ with ys
with_rows ss xs ys same = rw same refl

-- ---- a stack s of which v is the last level
module _ {C : Type 0} (s : Stack C) (v : Level C) (at : ℕ) (last : IsLastOf s.sequences.levels.items v at) where
  abbrev around : List (List Nesting)
  around = rows (take at s.sequences.levels.items)

  abbrev own : List Nesting
  own = entry_nestings s.sequences.steps

  old_nestings : nestings s ≡ levelled own around (row_of v)
  old_nestings =
      let ls = s.sequences.levels.items in
      with_rows own (rows ls) (around ++ row_of v ∷ []) (rows-last ls (take at ls) v (last_items ls v at last))

  new_nestings : (d : DocumentParts) (q : Sequence C)
      → nestings (record s { document = d; sequences = record s.sequences { levels = with_item s.sequences.levels at (record v { sequence = q }) } })
      ≡ levelled own around (entry_nestings q)
  new_nestings d q =
      let ls = s.sequences.levels.items in
      let w : Level C = record v { sequence = q } in
      let put = with_item s.sequences.levels at w in
      with_rows own (rows put.items) (around ++ entry_nestings q ∷ []) (rows-last put.items (take at ls) w (set_items ls w at last.number))

-- ---- the innermost sequence is q now
module _ {C : Type 0} {f : C → Change} {s : Stack C} (h : Holds f s) (d : DocumentParts) (q : Sequence C) where
  -- with the same nestings
  pub same_nestings : entry_nestings q ≡ entry_nestings (innermost s.sequences) → nestings (led s d q) ≡ nestings s
  same_nestings same = by_place s q (λ z. nestings (record s { document = d; sequences = z }) ≡ nestings s)
      (λ none.
      let onto : entry_nestings q ≡ entry_nestings s.sequences.steps = rw none at same in
      ap (λ (os : List Nesting). let a : Nestings = record { steps = os; levels = rows s.sequences.levels.items } in a) onto)
      (λ v at last.
      let onto : entry_nestings q ≡ row_of v = same ∙ ap entry_nestings (level_innermost h last) in
      new_nestings s v at last d q ∙ ap (levelled (own s v at last) (around s v at last)) onto ∙ sym (old_nestings s v at last))

  -- as a push leaves them
  abbrev NextOn : Bool → Bool → Sequence C → Type 0
  NextOn merged gone z = nestings_at q ≡ nestings_next_of merged gone z.limit (nestings_cut z.index (nestings_at z))

  pub next_lent : (merged gone : Bool) → NextOn merged gone (innermost s.sequences)
      → nestings (led s d q) ≡ nestings_next_of merged gone s.sequences.steps.limit (nestings_cut s.sequences.steps.index (nestings s))
  next_lent merged gone next = by_place s q
      (λ z. nestings (record s { document = d; sequences = z })
      ≡ nestings_next_of merged gone s.sequences.steps.limit (nestings_cut s.sequences.steps.index (nestings s)))
      (λ none. let onto : NextOn merged gone s.sequences.steps = rw none at next in rw none onto)
      (λ v at last.
      let n = s.sequences.steps.index in
      let limit = s.sequences.steps.limit in
      let done = level_done h last in
      let x = row_of v in
      let long : v.sequence.index ≡ length x = done.index ∙ sym (length-map v.sequence.entries.items nesting) in
      let onto : NextOn merged gone v.sequence = subst (NextOn merged gone) (level_innermost h last) next in
      let is = ap (λ (a : Nestings). a.steps) (onto ∙ next_closed merged gone x v.sequence.index v.sequence.limit long done.limit) in
      new_nestings s v at last d q
      ∙ ap (levelled (own s v at last) (around s v at last)) is
      ∙ sym (next_levelled merged gone n limit (own s v at last) (around s v at last) x)
      ∙ ap (λ (a : Nestings). nestings_next_of merged gone limit (nestings_cut n a)) (sym (old_nestings s v at last)))

-- ---- a level opens
pub open_nestings : {C : Type 0} (ls : List (Level C)) (ss : List Nesting) (n : ℕ) → 0 < length ls
    → let a : Nestings = record { steps = ss; levels = rows ls } in a ≡ nestings_cut n a
open_nestings [] ss n some = absurd (omega arith)
open_nestings (l ∷ ls) ss n some = refl

pub cut_nestings : {C : Type 0} (s : Stack C) (p : Sequence C) → s.sequences.levels.items ≡ []
    → p.entries.items ≡ take s.sequences.steps.index s.sequences.steps.entries.items
    → nestings (record s { sequences = record s.sequences { steps = p } }) ≡ nestings_cut s.sequences.steps.index (nestings s)
cut_nestings s p none entries =
    let q = s.sequences.steps in
    rw none (ap (λ (os : List Nesting). let a : Nestings = record { steps = os; levels = [] } in a)
    (ap (map nesting) entries ∙ sym (take-map nesting q.index q.entries.items)))

pub begun_nestings : {C : Type 0} (t : Stack C) (l : Level C) (levels : Vec (Level C) Global) (n : ℕ) (a : Nestings)
    → levels.items ≡ t.sequences.levels.items ++ l ∷ [] → l.sequence.entries.items ≡ [] → nestings t ≡ nestings_cut n a
    → rows t.sequences.levels.items ≡ a.levels
    → nestings (record t { sequences = record t.sequences { levels = levels } }) ≡ nestings_begun n a
begun_nestings t l levels n a items none cut around =
    let empty : row_of l ≡ [] = ap (map nesting) none in
    let more = rows-last levels.items t.sequences.levels.items l items ∙ ap (λ xs. xs ++ row_of l ∷ []) around ∙ ap (λ x. a.levels ++ x ∷ []) empty in
    with_rows (entry_nestings t.sequences.steps) (rows levels.items) (a.levels ++ [] ∷ []) more
    ∙ ap (λ (b : Nestings). let c : Nestings = record { steps = b.steps; levels = a.levels ++ [] ∷ [] } in c) cut

-- ---- the last level closes, and the innermost sequence takes its entry in, and is q then
module _ {C : Type 0} {f : C → Change} {s : Stack C} {l : Level C} {levels : Vec (Level C) Global} {x : Entry C} (e : Closes f s l levels x)
    (q : Sequence C) where
  abbrev left : Stack C
  left = popped f s l levels

  abbrev ss : List Nesting
  ss = entry_nestings s.sequences.steps

  abbrev xs : List (List Nesting)
  xs = rows levels.items

  abbrev limit : ℕ
  limit = s.sequences.steps.limit

  abbrev rest : Nestings
  rest = record { steps = entry_nestings s.sequences.steps; levels = rows levels.items }

  closed_level : nestings s ≡ levelled ss xs (row_of l)
  closed_level = with_rows ss (rows s.sequences.levels.items) (xs ++ row_of l ∷ []) (rows-last s.sequences.levels.items levels.items l e.items)

  abbrev AddsTo : Sequence C → Type 0
  AddsTo z = entry_nestings q ≡ within_limit z.limit (entry_nestings z ++ nesting x ∷ [])

  added_lent : AddsTo (innermost left.sequences) → nestings (led left s.document q) ≡ nestings_with_added (nesting x) limit xs rest
  added_lent added = by_place left q
      (λ z. nestings (record left { document = s.document; sequences = z }) ≡ nestings_with_added (nesting x) limit xs rest)
      (λ none.
      let onto : AddsTo s.sequences.steps = rw none at added in
      rw none (ap (λ (os : List Nesting). let a : Nestings = record { steps = os; levels = [] } in a) onto))
      (λ v at last.
      let around = rows (take at levels.items) in
      let onto : AddsTo v.sequence = subst AddsTo (level_innermost (popped_holds e) last) added in
      let is = onto ∙ kept_none (row_of v ++ nesting x ∷ []) v.sequence.limit (level_done (popped_holds e) last).limit in
      let put : Nestings → Nestings = λ a. nestings_with_added (nesting x) limit a.levels a in
      new_nestings left v at last s.document q
      ∙ ap (levelled ss around) is
      ∙ sym (added_levelled (nesting x) limit ss around (row_of v))
      ∙ ap put (sym (old_nestings left v at last)))

  pub ended_nestings : AddsTo (innermost left.sequences) → nestings (led left s.document q) ≡ nestings_ended limit (nestings s)
  ended_nestings added =
      added_lent added
      ∙ ap (λ (o : Nesting). nestings_with_added o limit xs rest) e.closed.nests
      ∙ sym (ended_levelled limit ss xs (row_of l))
      ∙ ap (nestings_ended limit) (sym closed_level)
