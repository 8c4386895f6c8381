-- From the plans of lines to those of their bytes, and from these to steps.
use Rattle.std.proofs.Common.{◌≡◌, ℕ, List, Option, None, Some, Ok, Err, refl, subst, sym}
use Rattle.fractions.specs.declared.lines.Fractions.{Fractions}
use Rattle.map_store.specs.Files.{StoreParts}
use Rattle.command_api.specs.Law.{Change, IsSame}
use Rattle.refusals.specs.declared.line_fault.LineFault.{LineFault}
use Rattle.refusals.specs.declared.refusal.Refusal.TheVariants.{NoMemory}
use Rattle.undo_stack.specs.History.{History, current}
use Rattle.session.specs.declared.line.Line.{Line}
use Rattle.session.specs.declared.more_line.MoreLine.{MoreLine}
use Rattle.session.specs.declared.reply.Reply.{Reply}
use Rattle.session.specs.declared.reply.Reply.TheVariants.{Refused}
use Rattle.session.specs.Grammar.{line_of}
use Rattle.session.specs.MoreGrammar.{more_line_of}
use Rattle.document_lines.specs.declared.dialect.Dialect.{Dialect}
use Rattle.document_lines.specs.declared.dialect.Dialect.TheVariants.{AllEdits}
use Rattle.document_lines.specs.declared.planned.Edit.{Edit}
use Rattle.document_lines.specs.declared.planned.Planned.{Planned}
use Rattle.document_lines.specs.declared.planned.Planned.TheVariants as planned
use Rattle.document_lines.specs.Machine.{Machine, Workspace, active_of, workspace}
use Rattle.document_lines.specs.MoreRules.{MachineStepFor}
use Rattle.document_lines.specs.Planning.{edit_change}
use Rattle.editor.specs.Kinds.{CommitKinds, Kinds, PlanKinds}
use Rattle.editor.specs.MoreKinds.{StepKindsFor}
use Rattle.editor.specs.MorePlanning.{PlansMoreIn}
use Rattle.editor.specs.Planning.{Commits, FitsActive, KeepsPlan, Plans}
use Rattle.editor.proofs.Committing.{commit_step, uncommitted}
use Rattle.editor.proofs.KindLists.{commit_line}
use Rattle.editor.proofs.MoreCommitting.{more_commit_kinds, more_commit_step, more_quiet, more_refused, more_refused_kinds, more_uncommitted}
use Rattle.session_run.specs.Planned.{PlansBytes, PlansKinds}
use Rattle.session_run.proofs.Dialects.{more_kinds, more_step, read_kinds, read_step}

-- ---- a line that is read in each dialect
module _ {C : Type 0} (change : C → Change) (dialect : Dialect) (bytes : List ℕ) (line : Line) (read : line_of bytes ≡ Ok line) where
  pub read_plan : (old : Workspace) (plan : Planned) (new : Workspace) → Plans line old plan new → PlansBytes change dialect bytes old plan new
  read_plan old planned.Quiet new p = read_step dialect bytes line old None new read p
  read_plan old (planned.Reply reply) new p = read_step dialect bytes line old (Some reply) new read p
  read_plan old (planned.Push edit) new p = (
    p.0,
    (λ command reply after same done.
        read_step dialect bytes line old (Some reply) (workspace after old.stored) read
        (commit_step line old.machine after old.stored (edit_change edit) (change command) reply p.1 same done)),
    read_step dialect bytes line old (Some (Refused NoMemory)) old read (uncommitted line old.machine old.stored (edit_change edit) p.1),
  )

  pub read_plan_kinds : (old new : Workspace) (plan : Planned) (os ns : List Kinds) → Plans line old plan new → KeepsPlan plan old.machine new.machine
      → PlanKinds line old.machine plan new.machine os ns → PlansKinds change dialect bytes old.machine plan new.machine os ns
  read_plan_kinds old new planned.Quiet os ns p kept k = read_kinds dialect bytes line old.machine None new.machine os ns read k
  read_plan_kinds old new (planned.Reply reply) os ns p kept k = read_kinds dialect bytes line old.machine (Some reply) new.machine os ns read k
  read_plan_kinds old new (planned.Push edit) os ns p kept k = (
    kept,
    k,
    (λ command reply after ks same done.
        read_kinds dialect bytes line old.machine (Some reply) after os ks read
        (commit_line line old.machine after (edit_change edit) (change command) reply os ks p.1 same done)),
    read_kinds dialect bytes line old.machine (Some (Refused NoMemory)) old.machine os os read refl,
  )

-- ---- a line for all edits
module _ {C : Type 0} (change : C → Change) (fractions : Fractions) (bytes : List ℕ) (fault : LineFault) (line : MoreLine)
    (unread : line_of bytes ≡ Err fault) (read : more_line_of bytes ≡ Ok line) where
  pub more_plan : (old new : Machine) (stored : StoreParts) (plan : Planned) → new ≡ old → PlansMoreIn fractions line (active_of old) plan
      → PlansBytes change (AllEdits fractions) bytes (workspace old stored) plan (workspace new stored)
  more_plan old new stored planned.Quiet left p = absurd (more_quiet fractions line (active_of old) p)
  more_plan old new stored (planned.Reply reply) left p =
      more_step fractions bytes fault line (workspace old stored) (Some reply) (workspace new stored) unread read
      (more_refused fractions line old new stored reply left p)
  more_plan old new stored (planned.Push edit) left p = (
    rw left refl,
    (λ command reply after same done.
        more_step fractions bytes fault line (workspace old stored) (Some reply) (workspace after stored) unread read
        (more_commit_step fractions line old old after stored edit (change command) reply refl p same done)),
    more_step fractions bytes fault line (workspace old stored) (Some (Refused NoMemory)) (workspace old stored) unread read
        (more_uncommitted fractions line old old stored edit refl p),
  )

  pub more_plan_kinds : (old new : Machine) (plan : Planned) (os ns : List Kinds) → new ≡ old → ns ≡ os → PlansMoreIn fractions line (active_of old) plan
      → PlansKinds change (AllEdits fractions) bytes old plan new os ns
  more_plan_kinds old new planned.Quiet os ns left still p = absurd (more_quiet fractions line (active_of old) p)
  more_plan_kinds old new (planned.Reply reply) os ns left still p =
      more_kinds fractions bytes fault line old (Some reply) new os ns unread read (more_refused_kinds fractions line old new reply os ns p still)
  more_plan_kinds old new (planned.Push edit) os ns left still p = (
    left,
    still,
    (λ command reply after ks same done.
        more_kinds fractions bytes fault line old (Some reply) after os ks unread read
        (more_commit_kinds fractions line old old after edit (change command) reply os os ks refl refl p same done)),
    more_kinds fractions bytes fault line old (Some (Refused NoMemory)) old os os unread read refl,
  )

-- ---- an edit that was planned
module _ {C : Type 0} (change : C → Change) (dialect : Dialect) (bytes : List ℕ) (edit : Edit) (command : C) (reply : Reply)
    (same : IsSame (edit_change edit) (change command)) where
  -- was committed
  pub committed_step : (old mid : Workspace) (new : Machine) → PlansBytes change dialect bytes old (planned.Push edit) mid
      → Commits (active_of mid.machine) (change command) reply mid.machine new → MachineStepFor dialect bytes old (Some reply) (workspace new mid.stored)
  committed_step old mid new p done =
      let P : Workspace → Type 0 = λ w. Commits (active_of w.machine) (change command) reply w.machine new in
      let Q : Workspace → Type 0 = λ w. MachineStepFor dialect bytes old (Some reply) (workspace new w.stored) in
      subst Q (sym p.0) (p.1 command reply new same (subst P p.0 done))

  pub committed_kinds : (old mid new : Machine) (os ms ns : List Kinds) → PlansKinds change dialect bytes old (planned.Push edit) mid os ms
      → CommitKinds (change command) mid reply new ms ns → StepKindsFor dialect bytes old (Some reply) new os ns
  committed_kinds old mid new os ms ns p done =
      let P : Machine → Type 0 = λ m. CommitKinds (change command) m reply new ms ns in
      let Q : List Kinds → Type 0 = λ ks. CommitKinds (change command) old reply new ks ns in
      p.2 command reply new ns same (subst Q p.1 (subst P p.0 done))

-- had no memory for a command
pub unput_bytes : {C : Type 0} (change : C → Change) (dialect : Dialect) (bytes : List ℕ) (edit : Edit) (old mid : Workspace)
    → PlansBytes change dialect bytes old (planned.Push edit) mid → MachineStepFor dialect bytes old (Some (Refused NoMemory)) mid
unput_bytes change dialect bytes edit old mid p = subst (λ w. MachineStepFor dialect bytes old (Some (Refused NoMemory)) w) (sym p.0) p.2

pub unput_kinds : {C : Type 0} (change : C → Change) (dialect : Dialect) (bytes : List ℕ) (edit : Edit) (old mid : Machine) (os ms : List Kinds)
    → PlansKinds change dialect bytes old (planned.Push edit) mid os ms → StepKindsFor dialect bytes old (Some (Refused NoMemory)) mid os ms
unput_kinds change dialect bytes edit old mid os ms p = rw (p.0, p.1) p.3

-- a command fits where an edit that does the same does
pub same-FitsActive : (active : Option History) (c d : Change) → IsSame c d → FitsActive active c → FitsActive active d
same-FitsActive None c d same fits = fits
same-FitsActive (Some h) c d same fits = (same.fits_redo (current h)).0 fits
