-- What the bytes of a line may do, by which lines are read.
use Rattle.std.proofs.Common.{◌≡◌, ℕ, ◌^◌, ◌≤◌, List, length, Option, Some, Ok, Err, refl, arith}
use Rattle.std.proofs.lemmas.Bool.{lt-ltb}
use Rattle.fractions.specs.declared.lines.Fractions.{Fractions}
use Rattle.session.specs.declared.limits.TheConstants.{MAX_LINE}
use Rattle.session.specs.declared.line.Line.{Line}
use Rattle.session.specs.declared.more_line.MoreLine.{MoreLine}
use Rattle.session.specs.declared.reply.Reply.{Reply}
use Rattle.session.specs.declared.reply.Reply.TheVariants.{Refused}
use Rattle.session.specs.Grammar.{line_of}
use Rattle.session.specs.MoreGrammar.{more_line_of}
use Rattle.refusals.specs.declared.line_fault.LineFault.{LineFault}
use Rattle.refusals.specs.declared.line_fault.LineFault.TheVariants.{TooLong, UnknownCommand}
use Rattle.refusals.specs.declared.refusal.Refusal.TheVariants.{Line as LineRefusal}
use Rattle.document_lines.specs.declared.dialect.Dialect.{Dialect}
use Rattle.document_lines.specs.declared.dialect.Dialect.TheVariants.{Plain, AllEdits}
use Rattle.document_lines.specs.Machine.{Machine, Workspace}
use Rattle.document_lines.specs.MoreRules.{AnyStepIn, MachineStepFor, MoreStep, MoreStepOf}
use Rattle.document_lines.specs.Rules.{MachineStep}
use Rattle.editor.specs.Kinds.{Kinds, StepKinds}
use Rattle.editor.specs.MoreKinds.{AnyStepKindsIn, MoreStepKinds, StepKindsFor}
use Rattle.session_run.specs.WithinRuns.{fault_of_both}
use Rattle.session_run.proofs.Progress.{RefusesLong}

-- ---- a line that is read in each dialect
pub read_step : (dialect : Dialect) (bytes : List ℕ) (line : Line) (old : Workspace) (reply : Option Reply) (new : Workspace) → line_of bytes ≡ Ok line
    → MachineStep line old reply new → MachineStepFor dialect bytes old reply new
read_step Plain bytes line old reply new read step = rw read step
read_step (AllEdits fractions) bytes line old reply new read step = rw read step

pub read_kinds : (dialect : Dialect) (bytes : List ℕ) (line : Line) (m : Machine) (reply : Option Reply) (n : Machine) (os ns : List Kinds)
    → line_of bytes ≡ Ok line → StepKinds line m reply n os ns → StepKindsFor dialect bytes m reply n os ns
read_kinds Plain bytes line m reply n os ns read kinds = rw read kinds
read_kinds (AllEdits fractions) bytes line m reply n os ns read kinds = rw read kinds

-- ---- a line for all edits
pub more_step : (fractions : Fractions) (bytes : List ℕ) (fault : LineFault) (line : MoreLine) (old : Workspace) (reply : Option Reply) (new : Workspace)
    → line_of bytes ≡ Err fault → more_line_of bytes ≡ Ok line → MoreStep fractions line old reply new → AnyStepIn fractions bytes old reply new
more_step fractions bytes fault line old reply new unread read step = rw unread (rw read step)

pub more_kinds : (fractions : Fractions) (bytes : List ℕ) (fault : LineFault) (line : MoreLine) (m : Machine) (reply : Option Reply)
    (n : Machine) (os ns : List Kinds) → line_of bytes ≡ Err fault → more_line_of bytes ≡ Ok line → MoreStepKinds fractions line m reply n os ns
    → AnyStepKindsIn fractions bytes m reply n os ns
more_kinds fractions bytes fault line m reply n os ns unread read kinds = rw unread (rw read kinds)

-- ---- a line of no dialect
refuses_both : (fractions : Fractions) (more first : LineFault) (w : Workspace)
    → MoreStepOf fractions (Err more) first w (Some (Refused (LineRefusal (fault_of_both first more)))) w
refuses_both fractions UnknownCommand first w = (refl, refl)
refuses_both fractions more first w = (refl, refl)

pub unread_step : (fractions : Fractions) (bytes : List ℕ) (fault more : LineFault) (w : Workspace) → line_of bytes ≡ Err fault
    → more_line_of bytes ≡ Err more → AnyStepIn fractions bytes w (Some (Refused (LineRefusal (fault_of_both fault more)))) w
unread_step fractions bytes fault more w unread also = rw unread (rw also (refuses_both fractions more fault w))

pub unread_kinds : (fractions : Fractions) (bytes : List ℕ) (fault more : LineFault) (m : Machine) (reply : Option Reply) (n : Machine) (ks : List Kinds)
    → line_of bytes ≡ Err fault → more_line_of bytes ≡ Err more → AnyStepKindsIn fractions bytes m reply n ks ks
unread_kinds fractions bytes fault more m reply n ks unread also = rw unread (rw also refl)

-- ---- a long line
long_line : (long : List ℕ) → 2 ^ 16 ≤ length long → line_of long ≡ Err TooLong
unfolding line_of
long_line long h = rw (lt-ltb MAX_LINE (length long) (omega (arith, h))) refl

long_more : (long : List ℕ) → 2 ^ 16 ≤ length long → more_line_of long ≡ Err TooLong
unfolding more_line_of
long_more long h = rw (lt-ltb MAX_LINE (length long) (omega (arith, h))) refl

-- is refused as such
pub long_step : (dialect : Dialect) (long : List ℕ) (w : Workspace) → 2 ^ 16 ≤ length long
    → MachineStepFor dialect long w (Some (Refused (LineRefusal TooLong))) w
long_step Plain long w size = rw (long_line long size) (refl, refl)
long_step (AllEdits fractions) long w size = rw (long_line long size) (rw (long_more long size) (refl, refl))

pub refuses_long : (dialect : Dialect) → RefusesLong (MachineStepFor dialect)
refuses_long Plain long old new refusal size s =
    let step = rw (long_line long size) at s in
    let same : Some (Refused refusal) ≡ Some (Refused (LineRefusal TooLong)) = step.0 in
    cc
refuses_long (AllEdits fractions) long old new refusal size s =
    let unread = rw (long_line long size) at s in
    let step = rw (long_more long size) at unread in
    let same : Some (Refused refusal) ≡ Some (Refused (LineRefusal TooLong)) = step.0 in
    cc
