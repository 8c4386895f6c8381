-- How often a store is asked for a line, and for what; and what it keeps of a map that is said to be saved.
use Rattle.std.specs.Prelude.{◌≡◌, ◌⊎◌, ℕ, List, ◌∷◌, Option, None, Some, Ok, Err, ⊤}
use Rattle.map_json.specs.Trees.{text_of}
use Rattle.map_store.specs.Asking.{Asked, loading, storing}
use Rattle.undo_stack.specs.History.{History, current}
use Rattle.undo_stack.specs.Moving.{Answer, clean_answer}
use Rattle.undo_group.specs.Groups.{history_named}
use Rattle.session.specs.declared.line.Line.{Line}
use Rattle.session.specs.declared.line.Line.TheVariants.{Open, Save}
use Rattle.refusals.specs.declared.refusal.Refusal.TheVariants.{NoMemory}
use Rattle.session.specs.declared.reply.Reply.{Reply}
use Rattle.session.specs.declared.reply.Reply.TheVariants.{Refused, Saved}
use Rattle.document_lines.specs.declared.planned.Planned.{Planned}
use Rattle.document_lines.specs.declared.planned.Planned.TheVariants as planned
use Rattle.document_lines.specs.Machine.{Machine, active_of}

-- a file is opened: the store is asked once, where the name is free, and else not at all
abbrev pub asked_to_open : List ℕ → Option History → List Asked → List Asked
asked_to_open file None asked = loading file ∷ asked
asked_to_open file (Some h) asked = asked

-- whether a store keeps these bytes under this name, wherever the machine stops from now on
abbrev pub Keeps : Type 1
Keeps = List ℕ → List ℕ → Type 0

-- a file is saved: the store is asked once; or, where memory ran out, once or not at all
abbrev pub AsksOnce : List ℕ → Reply → List Asked → List Asked → Type 0
AsksOnce file (Refused NoMemory) old new = (new ≡ storing file ∷ old) ⊎ (new ≡ old)
AsksOnce file reply old new = new ≡ storing file ∷ old

-- the map is said to be saved only where the store keeps its text under the file's name
abbrev pub KeepsSaved : List ℕ → History → Keeps → Reply → Type 0
KeepsSaved file h keeps (Saved name size) = keeps file (text_of (current h).map)
KeepsSaved file h keeps reply = ⊤

-- while a macro is open it is not asked
abbrev pub AsksOutside : List ℕ → Answer → Reply → List Asked → List Asked → Type 0
AsksOutside file (Ok done) reply old new = AsksOnce file reply old new
AsksOutside file (Err fault) reply old new = new ≡ old

-- nor where no document is active
abbrev pub AsksToSave : List ℕ → Option History → Keeps → Reply → List Asked → List Asked → Type 0
AsksToSave file None keeps reply old new = new ≡ old
AsksToSave file (Some h) keeps reply old new = AsksOutside file (clean_answer h) reply old new × KeepsSaved file h keeps reply

-- for a line with this reply the store is asked so; for any other line than `open` and `save` it is not asked
abbrev pub Asks : Line → Machine → Keeps → Reply → List Asked → List Asked → Type 0
Asks (Open name file) m keeps reply old new = new ≡ asked_to_open file (history_named name m.group.documents) old
Asks (Save file) m keeps reply old new = AsksToSave file (active_of m) keeps reply old new
Asks line m keeps reply old new = new ≡ old

-- and of a plan
abbrev pub PlanAsks : Line → Machine → Keeps → Planned → List Asked → List Asked → Type 0
PlanAsks line m keeps (planned.Reply reply) old new = Asks line m keeps reply old new
PlanAsks line m keeps plan old new = new ≡ old
