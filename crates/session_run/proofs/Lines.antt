-- What a line does is one thing, unless memory ran out or the store failed; and it brings no step of a free command.
use Rattle.std.proofs.Common.{◌≡◌, ℕ, List, false, Option, Some, None, Result, Ok, Err, leb, refl, sym, ap, ◌∙◌}
use Rattle.command_api.specs.Names.{is_free}
use Rattle.map_json.specs.Trees.{text_of}
use Rattle.map_store.specs.Files.{StoreParts}
use Rattle.refusals.specs.declared.line_fault.LineFault.{LineFault}
use Rattle.undo_stack.specs.History.{History, count, current}
use Rattle.undo_stack.specs.Macros.{Begins, Ends}
use Rattle.undo_stack.specs.Moving.{GoesTo, MarksClean, StepsBack, StepsOn, cleared}
use Rattle.undo_stack.specs.declared.limits.TheConstants.{MAX_LIMIT}
use Rattle.undo_stack.specs.Reading.{text_at, redo_text_of, undo_text_of}
use Rattle.undo_group.specs.Groups.{removed}
use Rattle.session.specs.declared.line.Line.{Line}
use Rattle.session.specs.declared.line.Line.TheVariants.{Quiet, New, Open, Save, Close, Discard, Use, Documents, Tile}
use Rattle.session.specs.declared.line.Line.TheVariants.{Undo, Redo, Goto, Clean, Begin, End, Limit, Dirty, Clear, Show, Status, UndoText, RedoText, StepText}
use Rattle.session.specs.declared.reply.Reply.{Reply}
use Rattle.session.specs.declared.reply.Reply.TheVariants as replies
use Rattle.session.specs.Grammar.{line_of}
use Rattle.document_lines.specs.Acts.{Act, GoesOn, OrNoMemory, Passes, Pushes, action_or, answer_of}
use Rattle.document_lines.specs.Answers.{documents_text, status_reply, step_text_reply, tile_reply}
use Rattle.document_lines.specs.Machine.{Machine, Workspace, active_of, workspace}
use Rattle.document_lines.specs.Rules.{Allows, Edits, MachineStepIn, MachineStepOf, OnActive, OnDocuments, OnFiles, Rule, rule_of}
use Rattle.session_run.proofs.Acts.{AllSure, AreAlike, IsOnce, IsOnceOver, active-once, answers-once, answers_or_memory-once, becomes-once, begins-once}
use Rattle.session_run.proofs.Acts.{back-once, calls-once, clean-once, close-once}
use Rattle.session_run.proofs.Acts.{edit-once, ends-once, goes_on-once, goto-once, limits-once, named-once, new-once, on-once, open-once, save-once}
use Rattle.session_run.proofs.Acts.{tells-once, uses-once}
use Rattle.session_run.proofs.Tame.{IsTame}
use Rattle.editor.proofs.Histories.{AllHave, active-has}

abbrev pub IsTameMachine : Machine → Type 0
IsTameMachine m = AllHave IsTame m.group.documents

-- ---- one thing
abbrev RuleIsOnce : Rule → Machine → Type 0
RuleIsOnce (OnFiles act) old = IsOnceOver act old
RuleIsOnce (OnDocuments act) old = IsOnce act old
RuleIsOnce (OnActive act) old = (h : History) → IsOnce act h
RuleIsOnce (Edits names edit) old = is_free names.vanishing ≡ false

passes-once : {S : Type 0} (old : S) → IsOnce Passes old
passes-once old reply other n m sure also x y = (x.0 ∙ sym y.0, x.1 ∙ sym y.1)

rule_of-once : (line : Line) (old : Machine) → RuleIsOnce (rule_of line) old
rule_of-once Quiet old = passes-once old
rule_of-once (New name width height tile_width tile_height source) old = new-once name width height tile_width tile_height source old
rule_of-once (Open name file) old = open-once name file old
rule_of-once (Save file) old = save-once file old
rule_of-once (Close name) old = close-once name old
rule_of-once (Discard name) old = named-once name (λ h. GoesOn (removed name)) old (λ h. goes_on-once (removed name) old)
rule_of-once (Use choice) old = uses-once choice old
rule_of-once Documents old = answers_or_memory-once (λ m. replies.Documents (documents_text m.group)) old
rule_of-once Status old = answers-once (λ m. status_reply (active_of m)) old
rule_of-once UndoText old = tells-once undo_text_of old
rule_of-once RedoText old = tells-once redo_text_of old
rule_of-once (Tile layer x y) old = λ h. answers-once (λ k. tile_reply (current k).map layer x y) h
rule_of-once Undo old = λ h. calls-once StepsBack h (back-once h)
rule_of-once Redo old = λ h. calls-once StepsOn h (on-once h)
rule_of-once (Goto index) old = λ h. calls-once (GoesTo index) h (goto-once index h)
rule_of-once Clean old = λ h. calls-once MarksClean h (clean-once h)
rule_of-once (Begin text action) old = λ h. calls-once (Begins text (action_or text action)) h (begins-once text (action_or text action) h)
rule_of-once End old = λ h. calls-once Ends h (ends-once h)
rule_of-once (Limit limit) old = λ h. limits-once (count h) (leb limit MAX_LIMIT) limit h
rule_of-once Dirty old = λ h. becomes-once (λ k. record k { clean = None }) h
rule_of-once Clear old = λ h. becomes-once cleared h
rule_of-once Show old = λ h. answers_or_memory-once (λ k. replies.Map (text_of (current k).map)) h
rule_of-once (StepText i) old = λ h. answers_or_memory-once (λ k. step_text_reply (text_at k i)) h
rule_of-once other old = refl

-- one reply, one machine, and the same files
abbrev pub OneStep : Option Reply → Workspace → Option Reply → Workspace → Type 0
OneStep reply new other end = (reply ≡ other) × (new.machine ≡ end.machine) × (new.stored.files ≡ end.stored.files)

files-alone : (before since after then : StoreParts) → AreAlike before since → after ≡ before → then ≡ since → after.files ≡ then.files
files-alone before since after then alike x y = ap (λ s. s.files) x ∙ alike.files ∙ sym (ap (λ s. s.files) y)

allows-once : (rule : Rule) (old : Machine) (before since : StoreParts) (new end : Workspace) (reply other : Option Reply) → RuleIsOnce rule old
    → IsTameMachine old → AreAlike before since → AllSure reply → AllSure other → Allows rule (workspace old before) reply new
    → Allows rule (workspace old since) other end → OneStep reply new other end
allows-once (OnFiles act) old before since new end reply other once tame alike sure also x y =
    let same = once reply other new.machine end.machine before since new.stored end.stored sure also alike x y in
    (same.0.0, same.0.1, same.1)
allows-once (OnDocuments act) old before since new end reply other once tame alike sure also x y =
    let same = once reply other new.machine end.machine sure also x.0 y.0 in
    (same.0, same.1, files-alone before since new.stored end.stored alike x.1 y.1)
allows-once (OnActive act) old before since new end reply other once tame alike sure also x y =
    let same = active-once act (active_of old) old (λ h at. once h) reply other new.machine end.machine sure also x.0 y.0 in
    (same.0, same.1, files-alone before since new.stored end.stored alike x.1 y.1)
allows-once (Edits names edit) old before since new end reply other free tame alike sure also x y =
    let act : Act History = OrNoMemory (λ h. Pushes (answer_of names (edit (current h))) h) in
    let each : (h : History) → active_of old ≡ Some h → IsOnce act h =
    λ h at. edit-once names (edit (current h)) h (active-has IsTame h old.group tame at) free in
    let same = active-once act (active_of old) old each reply other new.machine end.machine sure also x.0 y.0 in
    (same.0, same.1, files-alone before since new.stored end.stored alike x.1 y.1)

step_of-once : (read : Result Line LineFault) (old : Machine) (before since : StoreParts) (new end : Workspace) (reply other : Option Reply)
    → IsTameMachine old → AreAlike before since → AllSure reply → AllSure other → MachineStepOf read (workspace old before) reply new
    → MachineStepOf read (workspace old since) other end → OneStep reply new other end
step_of-once (Ok line) old before since new end reply other tame alike sure also x y =
    allows-once (rule_of line) old before since new end reply other (rule_of-once line old) tame alike sure also x y
step_of-once (Err fault) old before since new end reply other tame alike sure also x y = (
  x.0 ∙ sym y.0,
  ap (λ w. w.machine) x.1 ∙ sym (ap (λ w. w.machine) y.1),
  ap (λ w. w.stored.files) x.1 ∙ alike.files ∙ sym (ap (λ w. w.stored.files) y.1),
)

pub step-once : (line : List ℕ) (old : Machine) (before since : StoreParts) (new end : Workspace) (reply other : Option Reply)
    → IsTameMachine old → AreAlike before since → AllSure reply → AllSure other → MachineStepIn line (workspace old before) reply new
    → MachineStepIn line (workspace old since) other end → OneStep reply new other end
step-once line old before since new end reply other tame alike sure also x y =
    step_of-once (line_of line) old before since new end reply other tame alike sure also x y
