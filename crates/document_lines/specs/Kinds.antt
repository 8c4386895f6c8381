-- Of each step of a document whether it is a macro, and what a line makes of that.
--
-- Beside a history stands a list: of each of its steps whether it is a macro. While a macro is open, it stands last in the list.
use Rattle.std.specs.Prelude.{◌≡◌, ℕ, List, [], ◌∷◌, ◌++◌, Bool, true, false, Result, Ok, Err, take}
use Rattle.undo_stack.specs.History.{History, Open, Step, current}
use Rattle.undo_stack.specs.Nestings.{within_limit}
use Rattle.undo_stack.specs.Pushing.{IsPushed, without_last}
use Rattle.session.specs.declared.line.Line.{Line}
use Rattle.session.specs.declared.line.Line.TheVariants as lines
use Rattle.refusals.specs.declared.refusal.Refusal.{Refusal}
use Rattle.session.specs.declared.reply.Reply.TheVariants.{Refused}
use Rattle.document_lines.specs.Acts.{answer_of}
use Rattle.document_lines.specs.Rules.{Edits, Rule}
use Rattle.document_lines.specs.declared.planned.Planned.{Planned}
use Rattle.document_lines.specs.declared.planned.Planned.TheVariants as planned

-- ---- of a history with these open levels
-- begin: with no level open the steps past the position go, and an open macro is added
abbrev pub macros_begun : List Open → ℕ → List Bool → List Bool
macros_begun [] position ks = take position ks ++ true ∷ []
macros_begun (l ∷ ls) position ks = ks

-- end: the outermost macro ends, and is a step like the others, within the limit
abbrev pub macros_ended : List Open → ℕ → List Bool → List Bool
macros_ended [] limit ks = ks
macros_ended (l ∷ []) limit ks = within_limit limit ks
macros_ended (l ∷ m ∷ ls) limit ks = ks

-- what an edit, merged or not, and gone or not, makes of a list that was cut
abbrev pub macros_next : Bool → Bool → ℕ → List Bool → List Bool
macros_next true true limit ks = without_last ks
macros_next true false limit ks = ks
macros_next false true limit ks = ks
macros_next false false limit ks = within_limit limit (ks ++ false ∷ [])

-- with no level open the steps past the position go first; an open macro takes the edit in
abbrev pub macros_edited : List Open → Bool → Bool → ℕ → ℕ → List Bool → List Bool
macros_edited [] merged gone limit position ks = macros_next merged gone limit (take position ks)
macros_edited (l ∷ ls) merged gone limit position ks = ks

-- pushing the edit s onto h gives n, and its list, ks, becomes ns
pub record PushesKind (h : History) (s : Step) (n : History) (ks ns : List Bool) : Type 0 where
  pub pushed : IsPushed h s n
  pub edited : ns ≡ macros_edited h.levels pushed.merged pushed.gone h.limit h.position ks

-- an edit with this answer
abbrev pub EditsKinds : Result Step Refusal → History → History → List Bool → List Bool → Type 0
EditsKinds (Ok s) h n ks ns = PushesKind h s n ks ns
EditsKinds (Err refusal) h n ks ns = ns ≡ ks

-- any other line about the active document
abbrev pub macros_after : Line → History → List Bool → List Bool
macros_after (lines.Begin text action) h ks = macros_begun h.levels h.position ks
macros_after lines.End h ks = macros_ended h.levels h.limit ks
macros_after lines.Clear h ks = []
macros_after line h ks = ks

-- a line of this rule, where the history h becomes n
abbrev pub RuleKinds : Line → Rule → History → History → List Bool → List Bool → Type 0
RuleKinds line (Edits names edit) h n ks ns = EditsKinds (answer_of names (edit (current h))) h n ks ns
RuleKinds line rule h n ks ns = ns ≡ macros_after line h ks

-- ---- plans
-- of a line that is done, and of any line by its rule
abbrev pub DoneKinds : Line → History → Planned → List Bool → List Bool → Type 0
DoneKinds line h (planned.Reply (Refused refusal)) ks ns = ns ≡ ks
DoneKinds line h (planned.Reply reply) ks ns = ns ≡ macros_after line h ks
DoneKinds line h plan ks ns = ns ≡ ks

abbrev pub DocumentKinds : Line → Rule → History → Planned → List Bool → List Bool → Type 0
DocumentKinds line (Edits names edit) h plan ks ns = ns ≡ ks
DocumentKinds line rule h plan ks ns = DoneKinds line h plan ks ns
