-- Of each step of all open documents whether it is a macro, and what a line makes of that.
--
-- Beside the history of each open document stands a list: of each of its steps whether it is a macro. While a macro is open, it
-- stands last in the list.
use Rattle.std.specs.Prelude.{◌≡◌, ℕ, List, [], ◌∷◌, ◌++◌, Bool, Option, Some, None, Result, Ok, Err, map, if◌then◌else◌}
use Rattle.std.specs.Str.{bytes_eq}
use Rattle.undo_stack.specs.History.{History, current}
use Rattle.command_api.specs.Law.{Change}
use Rattle.undo_stack.specs.Pushing.{step_of}
use Rattle.undo_stack.specs.Stacks.{macros}
use Rattle.session.specs.declared.line.Line.{Line}
use Rattle.session.specs.declared.line.Line.TheVariants as lines
use Rattle.refusals.specs.declared.line_fault.LineFault.{LineFault}
use Rattle.session.specs.declared.reply.Reply.{Reply}
use Rattle.session.specs.declared.reply.Reply.TheVariants.{Refused}
use Rattle.session.specs.Grammar.{line_of}
use Rattle.document_lines.specs.Kinds.{PushesKind, RuleKinds}
use Rattle.document_lines.specs.Machine.{Machine, active_of}
use Rattle.document_lines.specs.Rules.{OnDocuments, OnFiles, Rule, rule_of}
use Rattle.document_lines.specs.declared.planned.Planned.{Planned}
use Rattle.document_lines.specs.declared.planned.Planned.TheVariants as planned
use Rattle.editor.specs.Editors.{stacks_in}
use Rattle.editor.specs.declared.editor.Editor.{Editor}

-- the list of the document with this name
pub record Kinds : Type 0 where
  pub name : List ℕ
  pub macros : List Bool

abbrev pub kinds : List ℕ → List Bool → Kinds
kinds name ks = record { name = name; macros = ks }

-- those of an editor, in order of opening
abbrev pub kinds_in : {C : Type 0} → Editor C → List Kinds
kinds_in editor = map (λ s. kinds s.name (macros s.stack)) (stacks_in editor)

-- the list of a name
abbrev pub macros_named : List ℕ → List Kinds → List Bool
macros_named name [] = []
macros_named name (k ∷ ks) = if bytes_eq name k.name then k.macros else macros_named name ks

-- that of the active document, which is empty where none is active
abbrev pub macros_at : Option (List ℕ) → List Kinds → List Bool
macros_at None ks = []
macros_at (Some name) ks = macros_named name ks

-- ---- the lists of all documents
-- that of this name has changed so, and all others are as they were
pub record ChangesKinds (name : List ℕ) (Changes : List Bool → List Bool → Type 0) (old new : List Kinds) : Type 0 where
  pub before : List Bool
  pub after : List Bool
  pub first : List Kinds
  pub rest : List Kinds
  pub was : old ≡ first ++ kinds name before ∷ rest
  pub is : new ≡ first ++ kinds name after ∷ rest
  pub changed : Changes before after

-- one of this name, with no steps, goes last
abbrev pub AddsKinds : List ℕ → List Kinds → List Kinds → Type 0
AddsKinds name old new = new ≡ old ++ kinds name [] ∷ []

-- the one of this name goes
pub record LosesKinds (name : List ℕ) (old new : List Kinds) : Type 0 where
  pub before : List Bool
  pub first : List Kinds
  pub rest : List Kinds
  pub was : old ≡ first ++ kinds name before ∷ rest
  pub is : new ≡ first ++ rest

-- the one of the active name has changed, from the history h to n
abbrev pub ActiveKinds : (History → History → List Bool → List Bool → Type 0) → Option (List ℕ) → Option History → Option History
    → List Kinds → List Kinds → Type 0
ActiveKinds Changes (Some name) (Some h) (Some n) old new = ChangesKinds name (Changes h n) old new
ActiveKinds Changes name h n old new = ⊥

-- a line about the open documents or the files
abbrev pub OthersKinds : Line → List Kinds → List Kinds → Type 0
OthersKinds (lines.New name width height tile_width tile_height source) old new = AddsKinds name old new
OthersKinds (lines.Open name file) old new = AddsKinds name old new
OthersKinds (lines.Close name) old new = LosesKinds name old new
OthersKinds (lines.Discard name) old new = LosesKinds name old new
OthersKinds line old new = new ≡ old

-- a line of this rule
abbrev pub LineKinds : Line → Rule → Machine → Machine → List Kinds → List Kinds → Type 0
LineKinds line (OnFiles act) m n old new = OthersKinds line old new
LineKinds line (OnDocuments act) m n old new = OthersKinds line old new
LineKinds line rule m n old new = ActiveKinds (RuleKinds line rule) m.group.active (active_of m) (active_of n) old new

-- unless this reply is a refusal, the lists have changed so; a refusal has left all as they were
abbrev pub UnlessRefused : Reply → (List Kinds → List Kinds → Type 0) → List Kinds → List Kinds → Type 0
UnlessRefused (Refused refusal) Changes old new = new ≡ old
UnlessRefused reply Changes old new = Changes old new

-- a line with this reply; a quiet one leaves all lists as they were
abbrev pub StepKinds : Line → Machine → Option Reply → Machine → List Kinds → List Kinds → Type 0
StepKinds line m None n old new = new ≡ old
StepKinds line m (Some reply) n old new = UnlessRefused reply (LineKinds line (rule_of line) m n) old new

abbrev pub StepKindsOf : Result Line LineFault → Machine → Option Reply → Machine → List Kinds → List Kinds → Type 0
StepKindsOf (Ok line) m reply n old new = StepKinds line m reply n old new
StepKindsOf (Err fault) m reply n old new = new ≡ old

-- what the bytes of a line make of the lists, beside the step from m to n
abbrev pub StepKindsIn : List ℕ → Machine → Option Reply → Machine → List Kinds → List Kinds → Type 0
StepKindsIn bytes = StepKindsOf (line_of bytes)

-- ---- plans and commits
-- pushing a command that does c, with this reply
abbrev pub CommitKinds : Change → Machine → Reply → Machine → List Kinds → List Kinds → Type 0
CommitKinds c m reply n old new =
    UnlessRefused reply (ActiveKinds (λ h k ks ns. PushesKind h (step_of c (current h)) k ks ns) m.group.active (active_of m) (active_of n)) old new

-- a plan: an edit that is left to be committed has changed no list
abbrev pub PlanKinds : Line → Machine → Planned → Machine → List Kinds → List Kinds → Type 0
PlanKinds line m planned.Quiet n old new = new ≡ old
PlanKinds line m (planned.Reply reply) n old new = StepKinds line m (Some reply) n old new
PlanKinds line m (planned.Push edit) n old new = new ≡ old
