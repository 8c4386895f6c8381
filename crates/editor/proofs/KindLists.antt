-- The lists of all open documents, of which one has changed.
use Rattle.std.proofs.Common.{◌≡◌, ℕ, List, [], ◌∷◌, ◌++◌, Bool, true, false, Option, Some, None, Result, map, refl, sym, ◌∙◌, ap, subst, inl, inr, arith}
use Rattle.map_model.proofs.LensLaws.{some-eq}
use Rattle.std.proofs.lemmas.List.{map-append}
use Rattle.std.proofs.lemmas.Slice.Eq.{bytes_eq-Decides}
use Rattle.std.specs.Option.{option_map}
use Rattle.std.specs.Prelude.{MatchOption, if◌then◌else◌}
use Rattle.std.specs.Str.{bytes_eq}
use Rattle.std.specs.String.{string_bytes}
use Rattle.std.specs.declared.string.String.{String}
use Rattle.command_api.specs.Law.{Change, IsSame}
use Rattle.undo_stack.specs.History.{History, Step, current}
use Rattle.undo_stack.specs.Pushing.{step_of}
use Rattle.undo_stack.specs.Stacks.{history, macros}
use Rattle.undo_stack.specs.declared.stack.Stack.{Stack}
use Rattle.undo_group.specs.Groups.{AreDistinct, IsGroup, OpenDocument, active_among, history_named, with_history, with_history_of}
use Rattle.undo_group.specs.Lending.{IsLeft}
use Rattle.undo_group.specs.Stacks.{IsReplaced, IsReplacedAt, IsTakenOut, NamedStack, document_of, documents_of, entries_of, group_of, named, stack_at, stack_named}
use Rattle.session.specs.declared.line.Line.{Line}
use Rattle.refusals.specs.declared.refusal.Refusal.{Refusal}
use Rattle.session.specs.declared.reply.Reply.{Reply}
use Rattle.session.specs.declared.reply.Reply.TheVariants.{Refused}
use Rattle.document_lines.specs.declared.planned.Planned.{Planned}
use Rattle.document_lines.specs.declared.planned.Planned.TheVariants as planned
use Rattle.document_lines.specs.Acts.{answer_of}
use Rattle.document_lines.specs.Answers.{status_reply}
use Rattle.document_lines.specs.Kinds.{DocumentKinds, EditsKinds, PushesKind, RuleKinds}
use Rattle.document_lines.specs.Machine.{Machine, active_of, with_active}
use Rattle.document_lines.specs.Planning.{PlansEdit, PlansOn}
use Rattle.document_lines.specs.Rules.{Edits, OnActive, OnDocuments, OnFiles, Rule, rule_of}
use Rattle.editor.specs.declared.editor.Editor.{Editor}
use Rattle.editor.specs.Editors.{machine_of, stacks_in}
use Rattle.editor.specs.Kinds.{ActiveKinds, AddsKinds, ChangesKinds, CommitKinds, Kinds, LineKinds, LosesKinds, PlanKinds, StepKinds, UnlessRefused}
use Rattle.editor.specs.Kinds.{kinds, kinds_in, macros_at, macros_named}
use Rattle.editor.specs.Planning.{IsEditOf}
use Rattle.editor.proofs.Committing.{step_of-same}
use Rattle.editor.proofs.Lent.{left-machine}

-- what a stack shows
abbrev pub kinds_of : {C : Type 0} → NamedStack C → Kinds
kinds_of s = kinds s.name (macros s.stack)

-- ---- one stack of each name
module _ {C : Type 0} (f : C → Change) where
  abbrev document : NamedStack C → OpenDocument
  document s = record { name = s.name; history = history f s.stack }

  documents-stacks : {Y : Type 0} (es : List (String Y × Stack C)) → map document (map (λ e. named (string_bytes e.0) e.1) es) ≡ documents_of f es
  documents-stacks [] = refl
  documents-stacks (e ∷ es) = ap (λ (ds : List OpenDocument). document_of f e ∷ ds) (documents-stacks es)

  there : (name : List ℕ) (first rest : List (NamedStack C)) (t : Stack C) → history_named name (map document (first ++ named name t ∷ rest)) ≡ None → ⊥
  there name [] rest t none = grind (arith, bytes_eq-Decides)
  there name (x ∷ first) rest t none = grind (arith, there name first rest t)

  one_of_name : (name : List ℕ) (first rest : List (NamedStack C)) (t s : Stack C) → AreDistinct (map document (first ++ named name t ∷ rest))
      → stack_named name (first ++ named name t ∷ rest) ≡ Some s → t ≡ s
  one_of_name name [] rest t s distinct at = grind (arith, bytes_eq-Decides)
  one_of_name name (x ∷ first) rest t s distinct at = grind (arith, bytes_eq-Decides, one_of_name name first rest t s distinct.1, there name first rest t)

  changed_named : (name : List ℕ) (Changes : List Bool → List Bool → Type 0) (old new : List (NamedStack C)) (s t : Stack C) → AreDistinct (map document old)
      → stack_named name old ≡ Some s → IsReplaced name old t new → Changes (macros s) (macros t)
      → ChangesKinds name Changes (map kinds_of old) (map kinds_of new)
  changed_named name Changes old new s t distinct at r changed =
      let same : r.stack ≡ s =
      one_of_name name r.first r.rest r.stack s
      (subst (λ (ss : List (NamedStack C)). AreDistinct (map document ss)) r.was distinct)
      (subst (λ (ss : List (NamedStack C)). stack_named name ss ≡ Some s) r.was at) in
      record {
        before = macros r.stack;
        after = macros t;
        first = map kinds_of r.first;
        rest = map kinds_of r.rest;
        was = ap (map kinds_of) r.was ∙ map-append kinds_of r.first (named name r.stack ∷ r.rest);
        is = ap (map kinds_of) r.is ∙ map-append kinds_of r.first (named name t ∷ r.rest);
        changed = subst (λ (x : Stack C). Changes (macros x) (macros t)) (sym same) changed;
      }

module _ {C : Type 0} where
  found-macros : (name : List ℕ) (ss : List (NamedStack C)) (s : Stack C) → stack_named name ss ≡ Some s → macros_named name (map kinds_of ss) ≡ macros s
  found-macros name [] s at = absurd cc
  found-macros name (x ∷ ss) s at = by_test (bytes_eq name x.name) (found-macros name ss s) at
    where
      by_test : (b : Bool) → (stack_named name ss ≡ Some s → macros_named name (map kinds_of ss) ≡ macros s)
          → (if b then Some x.stack else stack_named name ss) ≡ Some s → (if b then macros x.stack else macros_named name (map kinds_of ss)) ≡ macros s
      by_test true rest e = ap macros (some-eq x.stack s e)
      by_test false rest e = rest e

  no-macros : (name : List ℕ) (ss : List (NamedStack C)) → stack_named name ss ≡ None → macros_named name (map kinds_of ss) ≡ []
  no-macros name [] at = refl
  no-macros name (x ∷ ss) at = by_test (bytes_eq name x.name) (no-macros name ss) at
    where
      by_test : (b : Bool) → (stack_named name ss ≡ None → macros_named name (map kinds_of ss) ≡ [])
          → (if b then Some x.stack else stack_named name ss) ≡ None → (if b then macros x.stack else macros_named name (map kinds_of ss)) ≡ []
      by_test true rest e = absurd cc
      by_test false rest e = rest e

  found-macros_at : (name : Option (List ℕ)) (ss : List (NamedStack C)) (s : Stack C) → stack_at name ss ≡ Some s → macros_at name (map kinds_of ss) ≡ macros s
  found-macros_at None ss s at = absurd cc
  found-macros_at (Some name) ss s at = found-macros name ss s at

  no-macros_at : (name : Option (List ℕ)) (ss : List (NamedStack C)) → stack_at name ss ≡ None → macros_at name (map kinds_of ss) ≡ []
  no-macros_at None ss at = refl
  no-macros_at (Some name) ss at = no-macros name ss at

  pub active-macros : {A : Type 0} (now : A → Stack C) (r : Option A) (name : Option (List ℕ)) (ss : List (NamedStack C)) → option_map now r ≡ stack_at name ss
      → MatchOption r (macros_at name (map kinds_of ss) ≡ []) (λ a. macros (now a) ≡ macros_at name (map kinds_of ss))
  active-macros now None name ss e = no-macros_at name ss (sym e)
  active-macros now (Some a) name ss e = sym (found-macros_at name ss (now a) (sym e))

-- ---- the history that a machine's active document gets
history_named-with : (name : List ℕ) (n h : History) (ds : List OpenDocument) → history_named name ds ≡ Some h
    → history_named name (with_history name n ds) ≡ Some n
history_named-with name n h [] at = absurd cc
history_named-with name n h (d ∷ ds) at = grind (arith, history_named-with name n h ds)

active-with : (active : Option (List ℕ)) (n h : History) (ds : List OpenDocument) → active_among active ds ≡ Some h
    → active_among active (with_history_of active n ds) ≡ Some n
active-with None n h ds at = absurd cc
active-with (Some name) n h ds at = history_named-with name n h ds at

active_of-with : (n h : History) (m : Machine) → active_of m ≡ Some h → active_of (with_active n m) ≡ Some n
active_of-with n h m at = active-with m.group.active n h m.group.documents at

-- ---- lists
unchanged : (name : List ℕ) (old new : List Kinds) → ChangesKinds name (λ ks ns. ns ≡ ks) old new → new ≡ old
unchanged name old new k = k.is ∙ ap (λ (ks : List Bool). k.first ++ kinds name ks ∷ k.rest) k.changed ∙ sym k.was

-- where nothing has changed, whatever the reply is
pub kept-UnlessRefused : (reply : Reply) (old new : List Kinds) → new ≡ old → UnlessRefused reply (λ os ns. ns ≡ os) old new
kept-UnlessRefused (Refused refusal) old new kept = kept
kept-UnlessRefused reply old new kept = kept

-- where the reply tells how the active document stands
pub status_UnlessRefused : (o : Option History) (Changes : List Kinds → List Kinds → Type 0) (old new : List Kinds) → Changes old new
    → UnlessRefused (status_reply o) Changes old new
status_UnlessRefused None Changes old new changed = changed
status_UnlessRefused (Some h) Changes old new changed = changed

-- a stack was added last, or taken out
pub added-AddsKinds : {C : Type 0} (name : List ℕ) (s : Stack C) (old new : List (NamedStack C)) → macros s ≡ [] → new ≡ old ++ named name s ∷ []
    → AddsKinds name (map kinds_of old) (map kinds_of new)
added-AddsKinds name s old new none is =
    ap (map kinds_of) is ∙ map-append kinds_of old (named name s ∷ []) ∙ ap (λ (ks : List Bool). map kinds_of old ++ kinds name ks ∷ []) none

pub taken-LosesKinds : {C : Type 0} (name : List ℕ) (s : Stack C) (old new : List (NamedStack C)) → IsTakenOut name old s new
    → LosesKinds name (map kinds_of old) (map kinds_of new)
taken-LosesKinds name s old new t = record {
  before = macros s;
  first = map kinds_of t.first;
  rest = map kinds_of t.rest;
  was = ap (map kinds_of) t.was ∙ map-append kinds_of t.first (named name s ∷ t.rest);
  is = ap (map kinds_of) t.left ∙ map-append kinds_of t.first t.rest;
}

-- ---- an editor of which the active stack s was lent and left as t
abbrev IsRefusal : Reply → Type 0
IsRefusal (Refused refusal) = Unit {0}
IsRefusal reply = ⊥

quiet_kept : (line : Line) (rule : Rule) (h : History) (ks ns : List Bool) → DocumentKinds line rule h planned.Quiet ks ns → ns ≡ ks
quiet_kept line (OnFiles act) h ks ns k = k
quiet_kept line (OnDocuments act) h ks ns k = k
quiet_kept line (OnActive act) h ks ns k = k
quiet_kept line (Edits names edit) h ks ns k = k

module _ {C : Type 0} (f : C → Change) (old new : Editor C) (s t : Stack C) (same : new.limit ≡ old.limit) (left : IsLeft f old.group t new.group)
    (whole : IsGroup (group_of f old.group)) (active : Some (history f s) ≡ active_of (machine_of f old))
    (was : Some s ≡ stack_at (machine_of f old).group.active (stacks_in old)) where
  distinct : AreDistinct (map (document f) (stacks_in old))
  distinct = subst (λ (ds : List OpenDocument). AreDistinct ds) (sym (documents-stacks f (entries_of old.group))) whole.distinct

  -- whatever became of the list of s
  pub active_kinds : (Changes : History → History → List Bool → List Bool → Type 0) → Changes (history f s) (history f t) (macros s) (macros t)
      → ActiveKinds Changes (machine_of f old).group.active (active_of (machine_of f old)) (active_of (machine_of f new)) (kinds_in old) (kinds_in new)
  active_kinds Changes changed =
      let n = history f t in
      let h = history f s in
      let now : active_of (machine_of f new) ≡ Some n =
      ap active_of (left-machine f old new t same left) ∙ active_of-with n h (machine_of f old) (sym active) in
      by_name (machine_of f old).group.active (active_of (machine_of f old)) (active_of (machine_of f new)) (sym active) now (sym was) left.stacks
    where
      by_name : (name : Option (List ℕ)) (o k : Option History) → o ≡ Some (history f s) → k ≡ Some (history f t) → stack_at name (stacks_in old) ≡ Some s
          → IsReplacedAt name (stacks_in old) t (stacks_in new) → ActiveKinds Changes name o k (kinds_in old) (kinds_in new)
      by_name None o k before after at r = absurd cc
      by_name (Some name) o k before after at r =
          rw (before, after) (changed_named f name (Changes (history f s) (history f t)) (stacks_in old) (stacks_in new) s t distinct at r changed)

  -- the list of s has stayed
  pub kept_kinds : macros t ≡ macros s → kinds_in new ≡ kinds_in old
  kept_kinds kept = by_name (machine_of f old).group.active (sym was) left.stacks
    where
      by_name : (name : Option (List ℕ)) → stack_at name (stacks_in old) ≡ Some s → IsReplacedAt name (stacks_in old) t (stacks_in new)
          → kinds_in new ≡ kinds_in old
      by_name None at r = ap (map kinds_of) r
      by_name (Some name) at r =
          unchanged name (kinds_in old) (kinds_in new) (changed_named f name (λ ks ns. ns ≡ ks) (stacks_in old) (stacks_in new) s t distinct at r kept)

  -- ---- plans
  replied : (line : Line) (rule : Rule) (reply : Reply) → PlansOn rule (history f s) (planned.Reply reply) (history f t)
      → DocumentKinds line rule (history f s) (planned.Reply reply) (macros s) (macros t)
      → UnlessRefused reply (LineKinds line rule (machine_of f old) (machine_of f new)) (kinds_in old) (kinds_in new)
  replied line (OnFiles act) reply plans k = absurd plans
  replied line (OnDocuments act) reply plans k = absurd plans
  replied line (OnActive act) (Refused refusal) plans k = kept_kinds k
  replied line (OnActive act) reply plans k = active_kinds (RuleKinds line (OnActive act)) k
  replied line (Edits names edit) (Refused refusal) plans k = kept_kinds k
  replied line (Edits names edit) reply plans k = absurd (no_reply reply plans.0)
    where
      -- the plan of an edit replies with a refusal alone
      no_reply : (r : Reply) → PlansEdit (answer_of names (edit (current (history f s)))) (current (history f s)) (planned.Reply r) → IsRefusal r
      no_reply r (inl e) = subst (λ (x : Reply). IsRefusal x) (sym e) tt
      no_reply r (inr p) = subst (λ (x : Reply). IsRefusal x) (sym p.2) tt

  pub plan_kinds : (line : Line) (plan : Planned) → PlansOn (rule_of line) (history f s) plan (history f t)
      → DocumentKinds line (rule_of line) (history f s) plan (macros s) (macros t)
      → PlanKinds line (machine_of f old) plan (machine_of f new) (kinds_in old) (kinds_in new)
  plan_kinds line planned.Quiet plans k = kept_kinds (quiet_kept line (rule_of line) (history f s) (macros s) (macros t) k)
  plan_kinds line (planned.Reply reply) plans k = replied line (rule_of line) reply plans k
  plan_kinds line (planned.Push edit) plans k = kept_kinds (push_kept (rule_of line) k)
    where
      push_kept : (rule : Rule) → DocumentKinds line rule (history f s) (planned.Push edit) (macros s) (macros t) → macros t ≡ macros s
      push_kept (OnFiles act) d = d
      push_kept (OnDocuments act) d = d
      push_kept (OnActive act) d = d
      push_kept (Edits names other) d = d

-- ---- an edit that was committed in a command w that does the same as c
pub weaker-UnlessRefused : (reply : Reply) (P Q : List Kinds → List Kinds → Type 0) (old new : List Kinds) → (P old new → Q old new)
    → UnlessRefused reply P old new → UnlessRefused reply Q old new
weaker-UnlessRefused (Refused refusal) P Q old new more k = k
weaker-UnlessRefused reply P Q old new more k = more k

pub weaker-ActiveKinds : (P Q : History → History → List Bool → List Bool → Type 0) (name : Option (List ℕ)) (o k : Option History) (old new : List Kinds)
    → ((h n : History) (ks ns : List Bool) → o ≡ Some h → P h n ks ns → Q h n ks ns) → ActiveKinds P name o k old new → ActiveKinds Q name o k old new
weaker-ActiveKinds P Q (Some name) (Some h) (Some n) old new more a = record {
  before = a.before;
  after = a.after;
  first = a.first;
  rest = a.rest;
  was = a.was;
  is = a.is;
  changed = more h n a.before a.after refl a.changed;
}
weaker-ActiveKinds P Q name o k old new more a = absurd a

committed : (line : Line) (rule : Rule) (old new : Machine) (c w : Change) (reply : Reply) (os ns : List Kinds) → IsEditOf rule (active_of old) c → IsSame c w
    → CommitKinds w old reply new os ns → UnlessRefused reply (LineKinds line rule old new) os ns
committed line (OnFiles act) old new c w reply os ns edits same k = absurd edits
committed line (OnDocuments act) old new c w reply os ns edits same k = absurd edits
committed line (OnActive act) old new c w reply os ns edits same k = absurd edits
committed line (Edits names edit) old new c w reply os ns edits same k =
    let P : History → History → List Bool → List Bool → Type 0 = λ h n xs ys. PushesKind h (step_of w (current h)) n xs ys in
    weaker-UnlessRefused reply (ActiveKinds P old.group.active (active_of old) (active_of new)) (LineKinds line (Edits names edit) old new) os ns
    (weaker-ActiveKinds P (RuleKinds line (Edits names edit)) old.group.active (active_of old) (active_of new) os ns pushed) k
  where
    pushed : (h n : History) (xs ys : List Bool) → active_of old ≡ Some h → PushesKind h (step_of w (current h)) n xs ys
        → RuleKinds line (Edits names edit) h n xs ys
    pushed h n xs ys at p =
        let E : Option History → Type 0 = λ o. IsEditOf (Edits names edit) o c in
        let R : Result Step Refusal → Type 0 = λ a. EditsKinds a h n xs ys in
        let S : Step → Type 0 = λ s. PushesKind h s n xs ys in
        subst R (sym (subst E at edits)) (subst S (step_of-same c w (current h) same) p)

pub commit_line : (line : Line) (old new : Machine) (c w : Change) (reply : Reply) (os ns : List Kinds) → IsEditOf (rule_of line) (active_of old) c → IsSame c w
    → CommitKinds w old reply new os ns → StepKinds line old (Some reply) new os ns
commit_line line old new c w reply os ns edits same k = committed line (rule_of line) old new c w reply os ns edits same k
