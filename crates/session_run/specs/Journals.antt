-- Journals: what leads to the documents of a run once more.
--
-- A journal has the lines of a run that were accepted and are not quiet, in their order. A `save` is replayed as `clean`, and an `open` over files of which
-- the one that it names has the bytes that it had then.
use Rattle.std.specs.Prelude.{◌≡◌, ◌≢◌, ℕ, List, [], ◌∷◌, ◌++◌, All, IsTrue, Option, None, Some, Result, Ok, true, ⊤, codes}
use Rattle.std.specs.FinMap.{get}
use Rattle.refusals.specs.declared.line_fault.LineFault.{LineFault}
use Rattle.refusals.specs.declared.refusal.Refusal.TheVariants.{NoMemory}
use Rattle.refusals.specs.Layers.{store_failed}
use Rattle.session.specs.declared.line.Line.{Line}
use Rattle.session.specs.declared.line.Line.TheVariants.{Open, Save}
use Rattle.session.specs.declared.reply.Reply.{Reply}
use Rattle.session.specs.declared.reply.Reply.TheVariants.{Refused, Saved}
use Rattle.session.specs.Grammar.{line_of}
use Rattle.map_store.specs.Files.{Files, StoreParts}
use Rattle.document_lines.specs.Machine.{Machine, Workspace, started_machine, workspace}
use Rattle.document_lines.specs.Rules.{MachineStepIn}
use Rattle.session_run.specs.Runs.{Run}

-- a line that is replayed, and the files that it is replayed over
pub record Entry : Type 0 where
  pub line : List ℕ
  pub files : Files

-- ---- the journal of a run
-- how an accepted line is noted, which was done over these files
abbrev pub IsNotedAs : Result Line LineFault → List ℕ → StoreParts → Entry → Type 0
IsNotedAs (Ok (Open name file)) line stored entry = (entry.line ≡ line) × (IsTrue stored.honest → get entry.files file ≡ get stored.files file)
IsNotedAs (Ok (Save file)) line stored entry = entry.line ≡ codes "clean"
IsNotedAs read line stored entry = entry.line ≡ line

-- a line that has a reply is noted, unless it was refused
abbrev pub Notes : List ℕ → StoreParts → Option Reply → List Entry → Type 0
Notes line stored None entries = entries ≡ []
Notes line stored (Some (Refused refusal)) entries = entries ≡ []
Notes line stored (Some reply) entries = (entry : Entry) × IsNotedAs (line_of line) line stored entry × (entries ≡ entry ∷ [])

abbrev pub IsJournal : (old : Workspace) (lines : List (List ℕ)) (replies : List Reply) (new : Workspace) → Run MachineStepIn old lines replies new
    → List Entry → Type 0
IsJournal old [] replies new run entries = entries ≡ []
IsJournal old (line ∷ lines) replies new run entries = (first : List Entry) × (rest : List Entry)
    × Notes line old.stored run.1 first × IsJournal run.0 lines run.2 new run.4 rest × (entries ≡ first ++ rest)

-- ---- how it is replayed
-- an honest store that has these files
abbrev pub having : Files → StoreParts
having files = record { files = files; failures = 0; honest = true }

-- what may be replied to the entries of a journal, one after another, and where they lead
abbrev pub Replays : Machine → List Entry → List Reply → Machine → Type 0
Replays old [] replies new = (replies ≡ []) × (new ≡ old)
Replays old (entry ∷ entries) replies new = (mid : Machine) × (after : StoreParts) × (reply : Reply) × (rest : List Reply)
    × MachineStepIn entry.line (workspace old (having entry.files)) (Some reply) (workspace mid after) × Replays mid entries rest new × (replies ≡ reply ∷ rest)

-- how the reply to an accepted line is replayed: a `clean` has its own
abbrev pub IsReplayedAs : Reply → Reply → Type 0
IsReplayedAs (Saved file size) replayed = ⊤
IsReplayedAs reply replayed = replayed ≡ reply

-- the replies of a run that are no refusals, replayed
abbrev pub AreReplayed : List Reply → List Reply → Type 0
AreReplayed [] replayed = replayed ≡ []
AreReplayed (Refused refusal ∷ replies) replayed = AreReplayed replies replayed
AreReplayed (reply ∷ replies) replayed = (first : Reply) × (rest : List Reply) × IsReplayedAs reply first × AreReplayed replies rest × (replayed ≡ first ∷ rest)

-- neither for want of memory, nor of a store that failed
abbrev pub IsSure : Reply → Type 0
IsSure reply = (reply ≢ Refused NoMemory) × (reply ≢ Refused store_failed)

abbrev pub AreSure : List Reply → Type 0
AreSure replies = All IsSure replies

-- ---- laws
-- a run has a journal, and that can be replayed; each way to replay it is this one, if memory lasts and no store fails
abbrev pub HaveJournals : Type 0
HaveJournals = (limit : ℕ) (stored : StoreParts) (lines : List (List ℕ)) (replies : List Reply) (new : Workspace)
    → (run : Run MachineStepIn (workspace (started_machine limit) stored) lines replies new)
    → (entries : List Entry) × (replayed : List Reply) × IsJournal (workspace (started_machine limit) stored) lines replies new run entries
    × Replays (started_machine limit) entries replayed new.machine × AreReplayed replies replayed
    × ((others : List Reply) (there : Machine) → Replays (started_machine limit) entries others there → AreSure others
    → (others ≡ replayed) × (there ≡ new.machine))

-- over an honest store, each journal of a run leads to its machine, however it is replayed, if memory lasts and no store fails
abbrev pub JournalsLead : Type 0
JournalsLead = (limit : ℕ) (stored : StoreParts) (lines : List (List ℕ)) (replies : List Reply) (new : Workspace) → IsTrue stored.honest
    → (run : Run MachineStepIn (workspace (started_machine limit) stored) lines replies new) (entries : List Entry)
    → IsJournal (workspace (started_machine limit) stored) lines replies new run entries → (replayed : List Reply) (there : Machine)
    → Replays (started_machine limit) entries replayed there → AreSure replayed → (there ≡ new.machine) × AreReplayed replies replayed

-- over an honest store, there is one run of some lines in which memory lasts and the store never fails
abbrev pub RunsAreOne : Type 0
RunsAreOne = (limit : ℕ) (stored : StoreParts) (lines : List (List ℕ)) (replies others : List Reply) (new end : Workspace) → IsTrue stored.honest
    → Run MachineStepIn (workspace (started_machine limit) stored) lines replies new
    → Run MachineStepIn (workspace (started_machine limit) stored) lines others end → AreSure replies → AreSure others
    → (replies ≡ others) × (new.machine ≡ end.machine) × (new.stored.files ≡ end.stored.files)
