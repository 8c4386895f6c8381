-- Entries that stay without a command that is obsolete.
use Rattle.std.proofs.Common.{◌≡◌, ℕ, ◌+◌, ◌-◌, ◌<◌, List, [], ◌∷◌, ◌++◌, Bool, true, false, not, ◌&&◌, take, drop, length, map, set, get_or, suc, refl, sym}
use Rattle.std.proofs.Common.{◌∙◌, ap, subst, arith}
use Rattle.std.specs.List.{All, remove}
use Rattle.std.proofs.lemmas.List.{take-set, take-append-drop}
use Rattle.std.proofs.lemmas.List.Elements.{All-nil, All-cons, All-head, All-tail, All-same, All-get_or, All-append, All-push, All-take, All-drop, All-map}
use Rattle.std.proofs.lemmas.List.Elements.{All-weaker}
use Rattle.map_model.specs.Document.{DocumentParts}
use Rattle.command_api.specs.Law.{Change, IsSame}
use Rattle.command_api.specs.Names.{Names, is_free}
use Rattle.undo_stack.specs.History.{Step}
use Rattle.undo_stack.specs.Pushing.{without_last}
use Rattle.undo_stack.specs.Calm.{IsLive, AreLive, NoneFree}
use Rattle.undo_stack.specs.Entries.{entry_change}
use Rattle.undo_stack.specs.Sequence.{is_stale, steps_of}
use Rattle.undo_stack.specs.declared.entry.Entry.{Entry}
use Rattle.undo_stack.proofs.Joins.{last_sequence}
use Rattle.undo_stack.proofs.Levels.{without_last-append}
use Rattle.undo_stack.proofs.Sequences.{drop_first, drop_past, take-remove, drop-remove}
use Rattle.undo_stack.proofs.Texts.{map-steps}

all_of_map : {X Y : Type 0} (P : X → Type 0) (p : Y → X) (ys : List Y) → All P (map p ys) → All (λ (y : Y). P (p y)) ys
all_of_map {X} {Y} P p [] h = All-nil (λ (y : Y). P (p y))
all_of_map {X} {Y} P p (y ∷ ys) h = All-cons (λ (y : Y). P (p y)) y ys (All-head P (p y) (map p ys) h) (all_of_map P p ys (All-tail P (p y) (map p ys) h))

-- a change with the same names, and one that is the same
pub bound_as : (v w : Change) → w.names ≡ v.names → is_free v.names.vanishing ≡ false → is_free w.names.vanishing ≡ false
bound_as v w names bound = ap (λ (n : Names). is_free n.vanishing) names ∙ bound

pub live_as : (v w : Change) → IsSame v w → IsLive v → IsLive w
live_as v w same live = same.obsolete ∙ live

-- one that is not free and not stale is not obsolete, and one that is not obsolete is not stale
live_bound : (c : Change) → is_free c.names.vanishing ≡ false → is_stale c ≡ false → IsLive c
live_bound c bound fresh = sym (ap (λ (b : Bool). not b && c.obsolete) bound) ∙ fresh

fresh_live : (c : Change) → IsLive c → is_stale c ≡ false
fresh_live c live = ap (λ (b : Bool). not (is_free c.names.vanishing) && b) live ∙ never (not (is_free c.names.vanishing))
  where
    never : (b : Bool) → (b && false) ≡ false
    never true = refl
    never false = refl

-- whether it is free or not, one that was looked at is not obsolete
pub live_either : (c : Change) → (is_free c.names.vanishing ≡ false → IsLive c) → (is_free c.names.vanishing ≡ true → IsLive c) → IsLive c
live_either c bound free = by_free (is_free c.names.vanishing) refl
  where
    by_free : (b : Bool) → is_free c.names.vanishing ≡ b → IsLive c
    by_free true is = free is
    by_free false is = bound is

module _ {C : Type 0} (f : C → Change) where
  abbrev pub Live : Entry C → Type 0
  Live e = IsLive (entry_change f e)

  abbrev pub Bound : Entry C → Type 0
  Bound e = is_free (entry_change f e).names.vanishing ≡ false

  pub at_number : (P : Entry C → Type 0) (es : List (Entry C)) (v : Entry C) (j : ℕ) → j < length es → v ≡ get_or es j v → All P es → P v
  at_number P es v j inside is all = subst P (sym is) (All-get_or P es j v inside all)

  -- entries that are not free, and none of which became stale
  pub live_moved : (es ts : List (Entry C)) → AreLive f es → map (λ e. is_stale (entry_change f e)) ts ≡ map (λ e. is_stale (entry_change f e)) es
      → NoneFree f ts → AreLive f ts
  live_moved es ts live same bound =
      let stale : Entry C → Bool = λ e. is_stale (entry_change f e) in
      let IsFalse : Bool → Type 0 = λ b. b ≡ false in
      let before = All-map IsFalse stale es (All-weaker Live (λ e. IsFalse (stale e)) (λ e h. fresh_live (entry_change f e) h) es live) in
      let after = all_of_map IsFalse stale ts (All-same IsFalse (map stale ts) (map stale es) same before) in
      All-both ts after bound
    where
      All-both : (xs : List (Entry C)) → All (λ (e : Entry C). is_stale (entry_change f e) ≡ false) xs → NoneFree f xs → AreLive f xs
      All-both [] fresh none = All-nil Live
      All-both (x ∷ xs) fresh none =
          let P : Entry C → Type 0 = λ e. is_stale (entry_change f e) ≡ false in
          All-cons Live x xs (live_bound (entry_change f x) (All-head Bound x xs none) (All-head P x xs fresh))
          (All-both xs (All-tail P x xs fresh) (All-tail Bound x xs none))

  -- the entry v at a number stays, where all the others are live
  pub live_again : (es : List (Entry C)) (v : Entry C) (j : ℕ) → j < length es → v ≡ get_or es j v → IsLive (entry_change f v) → AreLive f (remove es j)
      → AreLive f es
  live_again es v j inside is live h =
      let divided : es ≡ take j es ++ v ∷ drop (j + 1) es =
      sym (take-append-drop j es) ∙ ap (λ (xs : List (Entry C)). take j es ++ xs) (drop_first es v j inside is) in
      let below = All-same Live (take j es) (take j (remove es j)) (sym (take-remove es j (omega arith))) (All-take Live j (remove es j) h) in
      let above = All-same Live (drop (j + 1) es) (drop j (remove es j)) (sym (drop-remove es j (omega arith))) (All-drop Live j (remove es j) h) in
      let joined = All-append Live (take j es) (v ∷ drop (j + 1) es) below (All-cons Live v (drop (j + 1) es) live above) in
      All-same Live es (take j es ++ v ∷ drop (j + 1) es) divided joined

  -- so it is without an entry in whose place another one was put
  pub live_around : (es : List (Entry C)) (w : Entry C) (j : ℕ) → AreLive f es → AreLive f (remove (set es j w) j)
  live_around es w j h =
      let next : suc j ≡ j + 1 = omega arith in
      rw (next, take-set es j w, drop_past es w j) (All-append Live (take j es) (drop (j + 1) es) (All-take Live j es h) (All-drop Live (j + 1) es h))

  -- entries of which the names are those of bound ones
  pub bound_moved : (es ts : List (Entry C)) (n m : ℕ) (d e : DocumentParts) → steps_of (entry_change f) ts m e ≡ steps_of (entry_change f) es n d
      → NoneFree f es → NoneFree f ts
  bound_moved es ts n m d e moved all =
      let k = entry_change f in
      let names : Entry C → Names = λ e. (entry_change f e).names in
      let old = map-steps k (λ (x : Step). x.names) names (λ x d. refl) es n d in
      let new = map-steps k (λ (x : Step). x.names) names (λ x d. refl) ts m e in
      let same : map names ts ≡ map names es = sym new ∙ ap (map (λ (y : Step). y.names)) moved ∙ old in
      let IsBound : Names → Type 0 = λ n. is_free n.vanishing ≡ false in
      all_of_map IsBound names ts (All-same IsBound (map names ts) (map names es) same (All-map IsBound names es all))

  -- ---- a merge into the last of a sequence, and that one once it is settled
  module _ (xs : List (Entry C)) (v : Entry C) (n : ℕ) (some : 0 < n) (count : n ≡ length xs) (is : v ≡ get_or xs (n - 1) v) where
    inside : n - 1 < length xs
    inside = omega (arith, some, count)

    sequence : xs ≡ take (n - 1) xs ++ v ∷ []
    sequence = last_sequence xs n some count v is

    cut_at_last : without_last xs ≡ take (n - 1) xs
    cut_at_last = ap without_last sequence ∙ without_last-append (take (n - 1) xs) v

    pub live_gone : AreLive f (without_last xs) → AreLive f (take (n - 1) xs)
    live_gone h = rw cut_at_last at h

    pub live_stays : (entry_change f v).obsolete ≡ false → AreLive f (without_last xs) → AreLive f xs
    live_stays stays h = All-same Live xs (take (n - 1) xs ++ v ∷ []) sequence (All-push Live (take (n - 1) xs) v (live_gone h) stays)
