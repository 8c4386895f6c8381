-- What planning a line and committing an edit say of each other.
use Rattle.std.specs.Prelude.{◌≡◌, Option, None, Some, Ok, ◌⊎◌, ⊤}
use Rattle.command_api.specs.Law.{Change}
use Rattle.undo_stack.specs.History.{History, current}
use Rattle.undo_stack.specs.Pushing.{IsPushed, step_of}
use Rattle.session.specs.declared.line.Line.{Line}
use Rattle.session.specs.declared.line.Line.TheVariants.{Quiet}
use Rattle.refusals.specs.declared.refusal.Refusal.TheVariants as refusals
use Rattle.session.specs.declared.reply.Reply.{Reply}
use Rattle.document_lines.specs.declared.planned.Planned.{Planned}
use Rattle.document_lines.specs.declared.planned.Planned.TheVariants as planned
use Rattle.document_lines.specs.Acts.{Refuses, answer_of}
use Rattle.document_lines.specs.Answers.{state_reply}
use Rattle.document_lines.specs.Machine.{Machine, Workspace, active_of, with_active}
use Rattle.document_lines.specs.Planning.{KeepsReply, edit_change}
use Rattle.document_lines.specs.Rules.{Rule, OnFiles, OnDocuments, Edits, Allows, rule_of}

-- the command fits the active document
abbrev pub FitsActive : Option History → Change → Type 0
FitsActive None c = ⊥
FitsActive (Some h) c = c.fits_redo (current h)

-- a planned edit fits
abbrev pub FitsPlan : Machine → Planned → Type 0
FitsPlan m planned.Quiet = ⊤
FitsPlan m (planned.Reply reply) = ⊤
FitsPlan m (planned.Push edit) = FitsActive (active_of m) (edit_change edit)

-- a line about the open documents or the files
abbrev pub IsOfOthers : Rule → Type 0
IsOfOthers (OnFiles act) = ⊤
IsOfOthers (OnDocuments act) = ⊤
IsOfOthers rule = ⊥

-- one that is replied to
abbrev pub IsOfDocuments : Line → Type 0
IsOfDocuments Quiet = ⊥
IsOfDocuments line = IsOfOthers (rule_of line)

-- the line is an edit of the active document, and its step is the command's
abbrev pub IsEditOf : Rule → Option History → Change → Type 0
IsEditOf (Edits names edit) (Some h) c = answer_of names (edit (current h)) ≡ Ok (step_of c (current h))
IsEditOf rule active c = ⊥

-- what a plan says by a rule: all that a line may do, or its edit, with nothing changed yet
abbrev pub PlansBy : Rule → Workspace → Planned → Workspace → Type 0
PlansBy rule old planned.Quiet new = Allows rule old None new
PlansBy rule old (planned.Reply reply) new = Allows rule old (Some reply) new
PlansBy rule old (planned.Push edit) new = (new ≡ old) × IsEditOf rule (active_of old.machine) (edit_change edit)

-- what it says of a line: its whole step, or its edit
abbrev pub Plans : Line → Workspace → Planned → Workspace → Type 0
Plans line old plan new = PlansBy (rule_of line) old plan new

-- a quiet line, an edit or a refusal has left the machine as it was
abbrev pub KeepsPlan : Planned → Machine → Machine → Type 0
KeepsPlan planned.Quiet old new = new ≡ old
KeepsPlan (planned.Reply reply) old new = KeepsReply reply old new
KeepsPlan (planned.Push edit) old new = new ≡ old

-- a command is pushed, or there was no memory and nothing has changed
abbrev pub Commits : Option History → Change → Reply → Machine → Machine → Type 0
Commits None c reply old new = ⊥
Commits (Some h) c reply old new =
    ((n : History) × IsPushed h (step_of c (current h)) n × (reply ≡ state_reply n) × (new ≡ with_active n old))
    ⊎ Refuses refusals.NoMemory old (Some reply) new
