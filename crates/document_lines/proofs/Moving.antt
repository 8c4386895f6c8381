-- The lines that move in a history.
use Rattle.std.proofs.Common.{◌≡◌, ℕ, ◌≤◌, length, Ok, Err, refl}
use Rattle.undo_stack.specs.History.{History}
use Rattle.undo_stack.specs.Moving.{Answer, GoesTo, StepsBack, StepsOn}
use Rattle.undo_stack.specs.Turning.{IsSteady, LeadsSo, Redoes, SetsIndex, TurnsBack, TurnsOn, TurnsTo, Undoes}
use Rattle.undo_stack.proofs.Turnings.{Redoes-steady, SetsIndex-steady, Undoes-steady}
use Rattle.session.specs.declared.line.Line.{Line}
use Rattle.session.specs.declared.line.Line.TheVariants.{Undo, Redo, Goto}
use Rattle.session.specs.declared.reply.Reply.{Reply}
use Rattle.document_lines.specs.declared.planned.Planned.{Planned}
use Rattle.document_lines.specs.declared.planned.Planned.TheVariants as planned
use Rattle.document_lines.specs.Acts.{Calls}
use Rattle.document_lines.specs.Answers.{call_reply}
use Rattle.document_lines.specs.Planning.{IsDone, KeepsReply, PlansOn}
use Rattle.document_lines.specs.Rules.{rule_of}
use Rattle.document_lines.specs.Turns.{turning_rule_of}

-- a call that is refused leaves the history as it was
answer_keeps : (R : History → History → Type 0) (answer : Answer) (h n : History) → LeadsSo R answer h n → KeepsReply (call_reply answer n) h n
answer_keeps R (Ok done) h n leads = tt
answer_keeps R (Err fault) h n leads = leads

pub undo-IsDone : (h n : History) (answer : Answer) (reply : Reply) → Undoes h answer n → reply ≡ call_reply answer n
    → IsDone (Calls Undoes) h (planned.Reply reply) n
undo-IsDone h n answer reply turns is = rw is ((answer, turns, refl), answer_keeps TurnsBack answer h n turns.leads)

pub redo-IsDone : (h n : History) (answer : Answer) (reply : Reply) → Redoes h answer n → reply ≡ call_reply answer n
    → IsDone (Calls Redoes) h (planned.Reply reply) n
redo-IsDone h n answer reply turns is = rw is ((answer, turns, refl), answer_keeps TurnsOn answer h n turns.leads)

pub goto-IsDone : (i : ℕ) (h n : History) (answer : Answer) (reply : Reply) → SetsIndex i h answer n → reply ≡ call_reply answer n
    → IsDone (Calls (SetsIndex i)) h (planned.Reply reply) n
goto-IsDone i h n answer reply sets is = rw is ((answer, sets, refl), answer_keeps (TurnsTo i) answer h n sets.leads)

-- ---- where no step is that of a free command
-- a call that says more
weaker-IsDone : (P Q : History → Answer → History → Type 0) (h n : History) (plan : Planned) → ((answer : Answer) → P h answer n → Q h answer n)
    → IsDone (Calls P) h plan n → IsDone (Calls Q) h plan n
weaker-IsDone P Q h n planned.Quiet more p = absurd p
weaker-IsDone P Q h n (planned.Reply reply) more p = ((p.0.0, more p.0.0 p.0.1, p.0.2), p.1)
weaker-IsDone P Q h n (planned.Push edit) more p = absurd p

pub steady-PlansOn : (line : Line) (h n : History) (plan : Planned) → IsSteady h → h.position ≤ length h.steps → PlansOn (turning_rule_of line) h plan n
    → PlansOn (rule_of line) h plan n
steady-PlansOn Undo h n plan steady within p = weaker-IsDone Undoes StepsBack h n plan (λ answer turns. Undoes-steady h answer n steady turns) p
steady-PlansOn Redo h n plan steady within p = weaker-IsDone Redoes StepsOn h n plan (λ answer turns. Redoes-steady h answer n steady turns) p
steady-PlansOn (Goto index) h n plan steady within p = weaker-IsDone (SetsIndex index) (GoesTo index) h n plan
    (λ answer sets. SetsIndex-steady index h answer n steady within sets) p
steady-PlansOn line h n plan steady within p = p
