-- No line brings a step of a free command into the active document, but the commit of that command.
use Rattle.std.proofs.Common.{◌≡◌, ℕ, zero, suc, List, Bool, true, false, leb, Option, Some, Ok, Err, ◌⊎◌, inl, inr}
use Rattle.map_store.specs.Files.{SameOthers, StoreParts}
use Rattle.undo_stack.specs.History.{History, count}
use Rattle.undo_stack.specs.Moving.{Answer, clean_answer}
use Rattle.undo_stack.specs.Turning.{IsSteady}
use Rattle.undo_stack.specs.declared.limits.TheConstants.{MAX_LIMIT}
use Rattle.undo_stack.proofs.Steadiness.{Begins-steady, Clears-steady, Ends-steady, GoesTo-steady, MarksClean-steady, SetsLimit-steady, StepsBack-steady}
use Rattle.undo_stack.proofs.Steadiness.{StepsOn-steady, UnmarksClean-steady}
use Rattle.session.specs.declared.line.Line.{Line}
use Rattle.session.specs.declared.line.Line.TheVariants.{Tile, Undo, Redo, Goto, Clean, Begin, End, Limit, Dirty, Clear, Show, StepText}
use Rattle.session.specs.declared.reply.Reply.{Reply}
use Rattle.document_lines.specs.declared.planned.Planned.{Planned}
use Rattle.document_lines.specs.declared.planned.Planned.TheVariants as planned
use Rattle.document_lines.specs.Acts.{LimitsAt, IfOutside, OrNoMemoryForFile, OrStoreFails, OutsideMacros, Saves, action_or}
use Rattle.document_lines.specs.Planning.{PlansOn}
use Rattle.document_lines.specs.Rules.{Edits, OnActive, OnDocuments, OnFiles, Rule, rule_of}

-- ---- a line about the active document that is no edit
same : (h n : History) (P : Type 0) → IsSteady h → P × (n ≡ h) → IsSteady n
same h n P steady a = rw a.1 steady

same_or : (h n : History) (P Q : Type 0) → IsSteady h → (P × (n ≡ h)) ⊎ (Q × (n ≡ h)) → IsSteady n
same_or h n P Q steady (inl a) = rw a.1 steady
same_or h n P Q steady (inr a) = rw a.1 steady

limited-steady : (steps : ℕ) (within : Bool) (limit : ℕ) (h n : History) (reply : Option Reply) → IsSteady h → LimitsAt steps within limit h reply n
    → IsSteady n
limited-steady (suc steps) within limit h n reply steady a = rw a.1 steady
limited-steady zero true limit h n reply steady a = SetsLimit-steady limit h a.0 n steady a.1
limited-steady zero false limit h n reply steady a = rw a.1 steady

abbrev KeepsSteady : Rule → Type 0
KeepsSteady (OnActive act) = (h n : History) (reply : Reply) → IsSteady h → act h (Some reply) n → IsSteady n
KeepsSteady rule = Unit {0}

rule_of-KeepsSteady : (line : Line) → KeepsSteady (rule_of line)
rule_of-KeepsSteady Undo = λ h n reply steady a. StepsBack-steady h a.0 n steady a.1
rule_of-KeepsSteady Redo = λ h n reply steady a. StepsOn-steady h a.0 n steady a.1
rule_of-KeepsSteady (Goto index) = λ h n reply steady a. GoesTo-steady index h a.0 n steady a.1
rule_of-KeepsSteady Clean = λ h n reply steady a. MarksClean-steady h a.0 n steady a.1
rule_of-KeepsSteady (Begin text action) = λ h n reply steady a. Begins-steady text (action_or text action) h a.0 n steady a.1
rule_of-KeepsSteady End = λ h n reply steady a. Ends-steady h a.0 n steady a.1
rule_of-KeepsSteady (Limit limit) = λ h n reply steady a. limited-steady (count h) (leb limit MAX_LIMIT) limit h n (Some reply) steady a
rule_of-KeepsSteady Dirty = λ h n reply steady a. UnmarksClean-steady h n steady a.0
rule_of-KeepsSteady Clear = λ h n reply steady a. Clears-steady h n a.0
rule_of-KeepsSteady Show = λ h n reply steady a. same_or h n _ _ steady a
rule_of-KeepsSteady (StepText i) = λ h n reply steady a. same_or h n _ _ steady a
rule_of-KeepsSteady (Tile layer x y) = λ h n reply steady a. same h n _ steady a
rule_of-KeepsSteady other = tt

planned-steady : (rule : Rule) (h n : History) (plan : Planned) → KeepsSteady rule → IsSteady h → PlansOn rule h plan n → IsSteady n
planned-steady (OnFiles act) h n plan keeps steady p = absurd p
planned-steady (OnDocuments act) h n plan keeps steady p = absurd p
planned-steady (OnActive act) h n planned.Quiet keeps steady p = absurd p
planned-steady (OnActive act) h n (planned.Reply reply) keeps steady p = keeps h n reply steady p.0
planned-steady (OnActive act) h n (planned.Push edit) keeps steady p = absurd p
planned-steady (Edits names edit) h n plan keeps steady p = rw p.1 steady

pub plans-steady : (line : Line) (h n : History) (plan : Planned) → IsSteady h → PlansOn (rule_of line) h plan n → IsSteady n
plans-steady line h n plan steady p = planned-steady (rule_of line) h n plan (rule_of-KeepsSteady line) steady p

-- ---- a document that is saved
saved-steady : (answer : Answer) (file : List ℕ) (before after : StoreParts) (h n : History) (reply : Option Reply) → IsSteady h
    → IfOutside (OrStoreFails (SameOthers file) (OrNoMemoryForFile (Saves file))) answer before after h reply n → IsSteady n
saved-steady (Ok done) file before after h n reply steady (inl (inl a)) = rw a.2 steady
saved-steady (Ok done) file before after h n reply steady (inl (inr a)) = rw a.1.1 steady
saved-steady (Ok done) file before after h n reply steady (inr a) = rw a.2.1 steady
saved-steady (Err fault) file before after h n reply steady a = rw a.0.1 steady

pub saves-steady : (file : List ℕ) (before after : StoreParts) (h n : History) (reply : Option Reply) → IsSteady h
    → OutsideMacros (OrStoreFails (SameOthers file) (OrNoMemoryForFile (Saves file))) before after h reply n → IsSteady n
saves-steady file before after h n reply steady a = saved-steady (clean_answer h) file before after h n reply steady a
