-- Lists of nestings, as code changes them.
use Rattle.std.proofs.Common.{◌≡◌, ℕ, ◌+◌, ◌-◌, ◌<◌, List, [], ◌∷◌, ◌++◌, Bool, true, false, Some, slice_get, take, drop, length, map, get_or, zero, suc, refl}
use Rattle.std.proofs.Common.{sym, ◌∙◌, ap, arith}
use Rattle.std.proofs.lemmas.List.{drop-map, length-append, length-map, map-append, take-map, take_all}
use Rattle.std.specs.List.{remove}
use Rattle.undo_stack.specs.Entries.{is_macro}
use Rattle.undo_stack.specs.History.{History}
use Rattle.undo_stack.specs.Merging.{left_of}
use Rattle.undo_stack.specs.Nestings.{Nesting, Nestings, Shape, Single, entered_nestings, innermost_nestings, is_nested, macros_in, nested, within_limit}
use Rattle.undo_stack.specs.Nestings.{nesting, nestings_cut, nestings_ended}
use Rattle.undo_stack.specs.Nestings.{nestings_next_of, nestings_with_added, with_last}
use Rattle.undo_stack.specs.Pushing.{without_last}
use Rattle.undo_stack.specs.declared.entry.Entry.{Entry}
use Rattle.undo_stack.proofs.Joins.{take_below}
use Rattle.undo_stack.proofs.Levels.{without_last-append}

-- a history with no open level, and the nestings of its steps
pub shaped : (h k : History) (xs ys : List Nesting) → h ≡ k → xs ≡ ys
    → let with : History → List Nesting → Shape = λ x os. record { history = x; nestings = record { steps = os; levels = [] } } in with h xs ≡ with k ys
shaped h k xs ys same alike = rw (same, alike) refl

-- a macro is one, whatever is in it
pub is_nested-nested : (os : List Nesting) → true ≡ is_nested (nested os)
is_nested-nested [] = refl
is_nested-nested (o ∷ os) = refl

-- whether the entry at a number is a macro
pub macro_at : {C : Type 0} (ls : List (List Nesting)) (es : List (Entry C)) (x : Entry C) (at : ℕ) → at < length es → x ≡ get_or es at x
    → Some (is_macro x) ≡ slice_get (macros_in ls (map nesting es)) at
macro_at [] [] x at h is = absurd (omega arith)
macro_at [] (e ∷ es) x zero h is = ap (λ (y : Entry _). Some (is_macro y)) is
macro_at [] (e ∷ es) x (suc at) h is = macro_at [] es x at (omega arith) is
macro_at (l ∷ ls) [] x at h is = absurd (omega arith)
macro_at (l ∷ ls) (e ∷ es) x zero h is = ap (λ (y : Entry _). Some (is_macro y)) is
macro_at (l ∷ ls) (e ∷ es) x (suc at) h is = macro_at (l ∷ ls) es x at (omega arith) is

-- one of some things goes
pub map-remove : {A B : Type 0} (k : A → B) (xs : List A) (i : ℕ) → map k (remove xs i) ≡ remove (map k xs) i
map-remove k xs i = map-append k (take i xs) (drop (suc i) xs) ∙ rw (take-map k i xs, drop-map k (suc i) xs) refl

-- the last of some things
pub with_last-append : {A : Type 0} (change : A → A) (xs : List A) (x : A) → with_last change (xs ++ x ∷ []) ≡ xs ++ change x ∷ []
with_last-append change [] x = refl
with_last-append change (y ∷ []) x = refl
with_last-append change (y ∷ z ∷ xs) x = ap (λ rest. y ∷ rest) (with_last-append change (z ∷ xs) x)

innermost_nestings-append : (l : List Nesting) (ls : List (List Nesting)) (x : List Nesting) → innermost_nestings l (ls ++ x ∷ []) ≡ x
innermost_nestings-append l [] x = refl
innermost_nestings-append l (m ∷ ls) x = innermost_nestings-append m ls x

-- the nestings of entries of which the last one goes
pub nestings-without_last : {C : Type 0} (es : List (Entry C)) (v : Entry C) (n : ℕ) → 0 < n → n ≡ length es → v ≡ get_or es (n - 1) v
    → map nesting (take (n - 1) es) ≡ without_last (map nesting es)
nestings-without_last es v n some end is =
    let rest = take (n - 1) es in
    let whole : es ≡ rest ++ v ∷ [] = sym (take_all n es (omega (arith, end))) ∙ take_below es v n some (omega (arith, end)) is in
    sym (ap (λ (xs : List (Entry _)). without_last (map nesting xs)) whole
    ∙ ap without_last (map-append nesting rest (v ∷ []))
    ∙ without_last-append (map nesting rest) (nesting v))

-- ---- the limit
kept_some : {A : Type 0} (xs : List A) (limit n : ℕ) → 0 < limit → length xs ≡ n → within_limit limit xs ≡ drop (n - limit) xs
kept_some xs zero n some long = absurd (omega arith)
kept_some xs (suc m) n some long = ap (λ (k : ℕ). drop (k - suc m) xs) long

pub kept_none : {A : Type 0} (xs : List A) (limit : ℕ) → limit ≡ 0 → within_limit limit xs ≡ xs
kept_none xs limit none = rw none refl

-- the nestings of entries and of the one above them, of which the first ones go
pub nestings-added : {C : Type 0} (es : List (Entry C)) (x : Entry C) (n limit : ℕ) → n ≡ length es → 0 < limit
    → map nesting (drop (n + 1 - limit) (es ++ x ∷ [])) ≡ within_limit limit (map nesting es ++ nesting x ∷ [])
nestings-added es x n limit end some =
    let k = n + 1 - limit in
    let all = map nesting es ++ nesting x ∷ [] in
    let long : length all ≡ n + 1 = omega (arith, length-append (map nesting es) (nesting x ∷ []), length-map es nesting, end) in
    sym (drop-map nesting k (es ++ x ∷ [])) ∙ ap (drop k) (map-append nesting es (x ∷ [])) ∙ sym (kept_some all limit (n + 1) some long)

-- ---- one sequence of nestings, with no open level or as the innermost one
-- what an edit makes of it
abbrev pub next_nestings : Bool → Bool → List Nesting → List Nesting
next_nestings true true os = without_last os
next_nestings true false os = os
next_nestings false true os = os
next_nestings false false os = os ++ Single ∷ []

-- steps, and open levels of which x is the innermost one
abbrev pub levelled : List Nesting → List (List Nesting) → List Nesting → Nestings
levelled ss xs x = record { steps = ss; levels = xs ++ x ∷ [] }

abbrev pub closed : List Nesting → Nestings
closed ss = record { steps = ss; levels = [] }

-- where nothing stands above the position, and there is no limit
pub next_closed : (merged gone : Bool) (x : List Nesting) (n limit : ℕ) → n ≡ length x → limit ≡ 0
    → nestings_next_of merged gone limit (nestings_cut n (closed x)) ≡ closed (next_nestings merged gone x)
next_closed true true x n limit end none = ap (λ os. closed (without_last os)) (take_all n x (omega (arith, end)))
next_closed true false x n limit end none = ap closed (take_all n x (omega (arith, end)))
next_closed false true x n limit end none = ap closed (take_all n x (omega (arith, end)))
next_closed false false x n limit end none = rw none (ap (λ os. closed (os ++ Single ∷ [])) (take_all n x (omega (arith, end))))

with_levels : (ss : List Nesting) (ls ms : List (List Nesting)) → ls ≡ ms
    → let with : List (List Nesting) → Nestings = λ rest. record { steps = ss; levels = rest } in with ls ≡ with ms
with_levels ss ls ms same = rw same refl

pub added_levelled : (o : Nesting) (limit : ℕ) (ss : List Nesting) (xs : List (List Nesting)) (x : List Nesting)
    → nestings_with_added o limit (xs ++ x ∷ []) (levelled ss xs x) ≡ levelled ss xs (x ++ o ∷ [])
added_levelled o limit ss [] x = refl
added_levelled o limit ss (y ∷ ys) x = with_levels ss _ _ (with_last-append (λ os. os ++ o ∷ []) (y ∷ ys) x)

pub next_levelled : (merged gone : Bool) (n limit : ℕ) (ss : List Nesting) (xs : List (List Nesting)) (x : List Nesting)
    → nestings_next_of merged gone limit (nestings_cut n (levelled ss xs x)) ≡ levelled ss xs (next_nestings merged gone x)
next_levelled true true n limit ss [] x = refl
next_levelled true true n limit ss (y ∷ ys) x = with_levels ss _ _ (with_last-append without_last (y ∷ ys) x)
next_levelled true false n limit ss [] x = refl
next_levelled true false n limit ss (y ∷ ys) x = refl
next_levelled false true n limit ss [] x = refl
next_levelled false true n limit ss (y ∷ ys) x = refl
next_levelled false false n limit ss [] x = refl
next_levelled false false n limit ss (y ∷ ys) x = with_levels ss _ _ (with_last-append (λ os. os ++ Single ∷ []) (y ∷ ys) x)

-- the innermost level closes
pub ended_levelled : (limit : ℕ) (ss : List Nesting) (xs : List (List Nesting)) (x : List Nesting)
    → nestings_ended limit (levelled ss xs x) ≡ nestings_with_added (nested x) limit xs (record { steps = ss; levels = xs })
ended_levelled limit ss [] x = refl
ended_levelled limit ss (y ∷ ys) x =
    let make : List (List Nesting) → List Nesting → Nestings =
    λ ls os. nestings_with_added (nested os) limit ls (record { steps = ss; levels = ls }) in
    ap (λ (ls : List (List Nesting)). make ls (innermost_nestings y (ys ++ x ∷ []))) (without_last-append (y ∷ ys) x)
    ∙ ap (make (y ∷ ys)) (innermost_nestings-append y ys x)

-- ---- pushes onto one sequence
-- the edit merged, and its step is gone or stays
pub merged_nestings : (gone : Bool) (n limit : ℕ) (os ps : List Nesting) → ps ≡ left_of gone (take n os)
    → closed ps ≡ nestings_next_of true gone limit (nestings_cut n (closed os))
merged_nestings true n limit os ps is = ap closed is
merged_nestings false n limit os ps is = ap closed is

-- the edit was entered
pub entered_next : (gone : Bool) (n limit : ℕ) (os ps : List Nesting) → ps ≡ entered_nestings gone limit (take n os)
    → closed ps ≡ nestings_next_of false gone limit (nestings_cut n (closed os))
entered_next true n limit os ps is = ap closed is
entered_next false n limit os ps is = ap closed is
