-- Journals of runs.
use Rattle.std.proofs.Common.{◌≡◌, ℕ, List, [], ◌∷◌, ◌++◌, IsTrue, Option, Some, None, refl, sym, ap, ap₂, subst, subst₂, ◌∙◌}
use Rattle.std.specs.Prelude.{option_to_list}
use Rattle.std.proofs.lemmas.List.Elements.{All-cons, All-head, All-nil, All-tail}
use Rattle.refusals.specs.declared.refusal.Refusal.{Refusal}
use Rattle.map_store.specs.Files.{StoreParts}
use Rattle.session.specs.declared.reply.Reply.{Reply}
use Rattle.session.specs.declared.reply.Reply.TheVariants.{Refused}
use Rattle.session.specs.Grammar.{line_of}
use Rattle.document_lines.specs.Machine.{Machine, Workspace, started_machine, workspace}
use Rattle.document_lines.specs.Rules.{MachineStepIn}
use Rattle.session_run.specs.Runs.{IsAccepted, Run}
use Rattle.session_run.specs.Journals.{AreReplayed, AreSure, Entry, HaveJournals, Replays, IsReplayedAs, IsJournal, IsNotedAs, IsSure, JournalsLead, Notes}
use Rattle.session_run.specs.Journals.{RunsAreOne, having}
use Rattle.session_run.proofs.Acts.{AllSure, AreAlike}
use Rattle.session_run.proofs.Again.{CanBeReplayed, line-replayed}
use Rattle.editor.proofs.Histories.{none-have}
use Rattle.session_run.proofs.Lines.{IsTameMachine, step-once}
use Rattle.session_run.proofs.Stays.{IsNoNews, step-stays}
use Rattle.session_run.proofs.Tame.{IsTame}
use Rattle.session_run.proofs.Tamed.{step-keeps}

started-tame : (limit : ℕ) → IsTameMachine (started_machine limit)
started-tame limit = none-have IsTame

-- ---- a reply is a refusal, or accepted
by_reply : (P : Reply → Type 0) → ((refusal : Refusal) → P (Refused refusal)) → ((reply : Reply) → IsAccepted reply → P reply) → (reply : Reply) → P reply
by_reply P refused accepted (Refused refusal) = refused refusal
by_reply P refused accepted reply = accepted reply refl

-- one that is accepted is sure
accepted-sure : (reply : Reply) → IsAccepted reply → IsSure reply
accepted-sure reply accepted = (λ is. let none = subst IsAccepted is accepted in absurd cc, λ is. let none = subst IsAccepted is accepted in absurd cc)

some-same : (one other : Reply) → Some one ≡ Some other → one ≡ other
some-same one other same = cc

-- an accepted reply, replayed
replayed-more : (reply first : Reply) (replies rest : List Reply) → IsAccepted reply → IsReplayedAs reply first → AreReplayed replies rest
    → AreReplayed (reply ∷ replies) (first ∷ rest)
replayed-more (Refused refusal) first replies rest accepted one more = absurd cc
replayed-more reply first replies rest accepted one more = (first, rest, one, more, refl)

noted-entry : (line : List ℕ) (stored : StoreParts) (reply : Reply) (entry : Entry) → IsAccepted reply → IsNotedAs (line_of line) line stored entry
    → Notes line stored (Some reply) (entry ∷ [])
noted-entry line stored (Refused refusal) entry accepted noted = absurd cc
noted-entry line stored reply entry accepted noted = (entry, noted, refl)

-- ---- what a line leaves to be replayed
-- the entries of a line, and that they lead on: each way to replay the rest is one of all
pub record LeadsOn (old mid : Machine) (reply : Option Reply) (first : List Entry) : Type 0 where
  pub on : (rest : List Entry) (replies replayed : List Reply) (new : Machine) → Replays mid rest replayed new → AreReplayed replies replayed → AreSure replayed
      → (all : List Reply) × Replays old (first ++ rest) all new × AreReplayed (option_to_list reply ++ replies) all × AreSure all

nothing-leads : (old mid : Machine) (reply : Option Reply) → mid ≡ old → IsNoNews reply → LeadsOn old mid reply []
nothing-leads old mid None same none = record {
  on = λ rest replies replayed new replays are sure. (replayed, subst (λ m. Replays m rest replayed new) same replays, are, sure);
}
nothing-leads old mid (Some (Refused refusal)) same none = record {
  on = λ rest replies replayed new replays are sure. (replayed, subst (λ m. Replays m rest replayed new) same replays, are, sure);
}
nothing-leads old mid (Some reply) same none = absurd none

entry-leads : (old mid : Machine) (reply : Reply) (entry : Entry) → IsAccepted reply → CanBeReplayed old reply mid entry
    → LeadsOn old mid (Some reply) (entry ∷ [])
entry-leads old mid reply entry accepted can = record {
  on = λ rest replies replayed new replays are sure. (
    can.0 ∷ replayed,
    (mid, can.1, can.0, replayed, can.2, replays, refl),
    replayed-more reply can.0 replies replayed accepted can.3 are,
    All-cons IsSure can.0 replayed (accepted-sure can.0 can.4) sure,
  );
}

line-leads : (line : List ℕ) (old mid : Workspace) (reply : Option Reply) → MachineStepIn line old reply mid
    → (first : List Entry) × Notes line old.stored reply first × LeadsOn old.machine mid.machine reply first
line-leads line old mid None step = ([], refl, nothing-leads old.machine mid.machine None (step-stays line old mid None tt step) tt)
line-leads line old mid (Some reply) step = by_reply Leads of_refusal of_accepted reply step
  where
    Leads : Reply → Type 0
    Leads r = MachineStepIn line old (Some r) mid → (first : List Entry) × Notes line old.stored (Some r) first × LeadsOn old.machine mid.machine (Some r) first

    of_refusal : (refusal : Refusal) → Leads (Refused refusal)
    of_refusal refusal s = ([], refl, nothing-leads old.machine mid.machine (Some (Refused refusal)) (step-stays line old mid (Some (Refused refusal)) tt s) tt)

    of_accepted : (r : Reply) → IsAccepted r → Leads r
    of_accepted r accepted s =
        let noted = (line-replayed line old mid r accepted s).noted in
        (noted.0 ∷ [], noted-entry line old.stored r noted.0 accepted noted.1, entry-leads old.machine mid.machine r noted.0 accepted noted.2)

-- ---- each run has a journal
run-replayed : (lines : List (List ℕ)) (old new : Workspace) (replies : List Reply) (run : Run MachineStepIn old lines replies new)
    → (entries : List Entry) × (replayed : List Reply) × IsJournal old lines replies new run entries × Replays old.machine entries replayed new.machine
    × AreReplayed replies replayed × AreSure replayed
run-replayed [] old new replies run =
    ([], [], refl, (refl, ap (λ w. w.machine) run.1), subst (λ rs. AreReplayed rs []) (sym run.0) refl, All-nil IsSure)
run-replayed (line ∷ lines) old new replies run =
    let rest = run-replayed lines run.0 new run.2 run.4 in
    let first = line-leads line old run.0 run.1 run.3 in
    let all = first.2.on rest.0 run.2 rest.1 new.machine rest.3 rest.4 rest.5 in (
      first.0 ++ rest.0,
      all.0,
      (first.0, rest.0, first.1, rest.2, refl),
      all.1,
      subst (λ rs. AreReplayed rs all.0) (sym run.5) all.2,
      all.3,
    )

-- and that is replayed in one way
replays-once : (entries : List Entry) (old new there : Machine) (replayed others : List Reply) → IsTameMachine old → Replays old entries replayed new
    → Replays old entries others there → AreSure replayed → AreSure others → (others ≡ replayed) × (there ≡ new)
replays-once [] old new there replayed others tame one other sure also = (other.0 ∙ sym one.0, other.1 ∙ sym one.1)
replays-once (entry ∷ entries) old new there replayed others tame one other sure also =
    let stored = having entry.files in
    let alike : AreAlike stored stored = record { files = refl; honest = refl; also = refl } in
    let all : AreSure (one.2 ∷ one.3) = subst AreSure one.6 sure in
    let too : AreSure (other.2 ∷ other.3) = subst AreSure other.6 also in
    let step = step-once entry.line old stored stored (workspace other.0 other.1) (workspace one.0 one.1) (Some other.2) (Some one.2) tame alike
    (All-head IsSure other.2 other.3 too) (All-head IsSure one.2 one.3 all) other.4 one.4 in
    let keeps = step-keeps entry.line (workspace old stored) (workspace one.0 one.1) (Some one.2) tame one.4 in
    let rest = replays-once entries one.0 new there one.3 other.3 keeps.0 one.5 (subst (λ m. Replays m entries other.3 there) step.1 other.5)
    (All-tail IsSure one.2 one.3 all) (All-tail IsSure other.2 other.3 too) in
    (other.6 ∙ ap₂ (λ r rs. r ∷ rs) (some-same other.2 one.2 step.0) rest.0 ∙ sym one.6, rest.1)

pub have_journals : HaveJournals
have_journals limit stored lines replies new run =
    let found = run-replayed lines (workspace (started_machine limit) stored) new replies run in (
      found.0,
      found.1,
      found.2,
      found.3,
      found.4,
      λ others there replays sure.
          replays-once found.0 (started_machine limit) new.machine there found.1 others (started-tame limit) found.3 replays found.5 sure,
    )

-- ---- and each that it has leads to its machine
-- how the entries of a line are replayed: they lead to the line's machine, and there the rest is replayed
pub record LedOn (mid : Machine) (reply : Option Reply) (rest : List Entry) (replayed : List Reply) (there : Machine) : Type 0 where
  pub more : List Reply
  pub replays : Replays mid rest more there
  pub sure : AreSure more
  pub are : (replies : List Reply) → AreReplayed replies more → AreReplayed (option_to_list reply ++ replies) replayed

nothing-led : (old mid : Machine) (reply : Option Reply) (first rest : List Entry) (replayed : List Reply) (there : Machine) → mid ≡ old → IsNoNews reply
    → first ≡ [] → Replays old (first ++ rest) replayed there → AreSure replayed → LedOn mid reply rest replayed there
nothing-led old mid None first rest replayed there same none is replays sure = record {
  more = replayed;
  replays = subst₂ (λ m es. Replays m (es ++ rest) replayed there) (sym same) is replays;
  sure = sure;
  are = λ replies are. are;
}
nothing-led old mid (Some (Refused refusal)) first rest replayed there same none is replays sure = record {
  more = replayed;
  replays = subst₂ (λ m es. Replays m (es ++ rest) replayed there) (sym same) is replays;
  sure = sure;
  are = λ replies are. are;
}
nothing-led old mid (Some reply) first rest replayed there same none is replays sure = absurd none

entry-led : (old mid : Machine) (reply : Reply) (entry : Entry) (rest : List Entry) (replayed : List Reply) (there : Machine) → IsTameMachine old
    → IsAccepted reply → CanBeReplayed old reply mid entry → Replays old (entry ∷ rest) replayed there → AreSure replayed
    → LedOn mid (Some reply) rest replayed there
entry-led old mid reply entry rest replayed there tame accepted can replays sure =
    let all : AreSure (replays.2 ∷ replays.3) = subst AreSure replays.6 sure in
    let first = All-head IsSure replays.2 replays.3 all in
    let stored = having entry.files in
    let alike : AreAlike stored stored = record { files = refl; honest = refl; also = refl } in
    let one = step-once entry.line old stored stored (workspace mid can.1) (workspace replays.0 replays.1) (Some can.0) (Some replays.2) tame alike
    (accepted-sure can.0 can.4) first can.2 replays.4 in
    let said : can.0 ≡ replays.2 = some-same can.0 replays.2 one.0 in
    record {
      more = replays.3;
      replays = subst (λ m. Replays m rest replays.3 there) (sym one.1) replays.5;
      sure = All-tail IsSure replays.2 replays.3 all;
      are = λ replies are. subst (λ hs. AreReplayed (reply ∷ replies) hs) (sym replays.6)
          (replayed-more reply replays.2 replies replays.3 accepted (subst (IsReplayedAs reply) said can.3) are);
    }

entry-noted : (line : List ℕ) (stored : StoreParts) (reply : Reply) (first : List Entry) → IsAccepted reply → Notes line stored (Some reply) first
    → (entry : Entry) × IsNotedAs (line_of line) line stored entry × (first ≡ entry ∷ [])
entry-noted line stored (Refused refusal) first accepted notes = absurd cc
entry-noted line stored reply first accepted notes = notes

line-led : (line : List ℕ) (old mid : Workspace) (reply : Option Reply) (first rest : List Entry) (replayed : List Reply) (there : Machine)
    → IsTameMachine old.machine → IsTrue old.stored.honest → MachineStepIn line old reply mid → Notes line old.stored reply first
    → Replays old.machine (first ++ rest) replayed there → AreSure replayed → LedOn mid.machine reply rest replayed there
line-led line old mid None first rest replayed there tame honest step notes replays sure =
    nothing-led old.machine mid.machine None first rest replayed there (step-stays line old mid None tt step) tt notes replays sure
line-led line old mid (Some reply) first rest replayed there tame honest step notes replays sure = by_reply Led of_refusal of_accepted reply step notes
  where
    Led : Reply → Type 0
    Led r = MachineStepIn line old (Some r) mid → Notes line old.stored (Some r) first → LedOn mid.machine (Some r) rest replayed there

    of_refusal : (refusal : Refusal) → Led (Refused refusal)
    of_refusal refusal s n =
        let same = step-stays line old mid (Some (Refused refusal)) tt s in
        nothing-led old.machine mid.machine (Some (Refused refusal)) first rest replayed there same tt n replays sure

    of_accepted : (r : Reply) → IsAccepted r → Led r
    of_accepted r accepted s n =
        let noted = entry-noted line old.stored r first accepted n in
        let can = (line-replayed line old mid r accepted s).each honest noted.0 noted.1 in
        let own = subst (λ es. Replays old.machine (es ++ rest) replayed there) noted.2 replays in
        entry-led old.machine mid.machine r noted.0 rest replayed there tame accepted can own sure

run-led : (lines : List (List ℕ)) (old new : Workspace) (replies : List Reply) (run : Run MachineStepIn old lines replies new)
    (entries : List Entry) (replayed : List Reply) (there : Machine) → IsTameMachine old.machine → IsTrue old.stored.honest
    → IsJournal old lines replies new run entries → Replays old.machine entries replayed there → AreSure replayed
    → (there ≡ new.machine) × AreReplayed replies replayed
run-led [] old new replies run entries replayed there tame honest journal replays sure =
    let ended : (replayed ≡ []) × (there ≡ old.machine) = subst (λ es. Replays old.machine es replayed there) journal replays in
    (ended.1 ∙ sym (ap (λ w. w.machine) run.1), subst₂ AreReplayed (sym run.0) (sym ended.0) refl)
run-led (line ∷ lines) old new replies run entries replayed there tame honest journal replays sure =
    let begun = subst (λ es. Replays old.machine es replayed there) journal.4 replays in
    let led = line-led line old run.0 run.1 journal.0 journal.1 replayed there tame honest run.3 journal.2 begun sure in
    let keeps = step-keeps line old run.0 run.1 tame run.3 in
    let more = run-led lines run.0 new run.2 run.4 journal.1 led.more there keeps.0 (keeps.1 honest) journal.3 led.replays led.sure in
    (more.0, subst (λ rs. AreReplayed rs replayed) (sym run.5) (led.are run.2 more.1))

pub journals_lead : JournalsLead
journals_lead limit stored lines replies new honest run entries journal replayed there replays sure =
    run-led lines (workspace (started_machine limit) stored) new replies run entries replayed there (started-tame limit) honest journal replays sure

-- ---- and there is one run
-- the replies of a line and those after it
sure-line : (reply : Option Reply) (rest : List Reply) → AreSure (option_to_list reply ++ rest) → AllSure reply × AreSure rest
sure-line None rest sure = (tt, sure)
sure-line (Some reply) rest sure = (All-head IsSure reply rest sure, All-tail IsSure reply rest sure)

runs-once : (lines : List (List ℕ)) (old : Machine) (before since : StoreParts) (new end : Workspace) (replies others : List Reply) → IsTameMachine old
    → AreAlike before since → Run MachineStepIn (workspace old before) lines replies new → Run MachineStepIn (workspace old since) lines others end
    → AreSure replies → AreSure others → (replies ≡ others) × (new.machine ≡ end.machine) × (new.stored.files ≡ end.stored.files)
runs-once [] old before since new end replies others tame alike run also sure sure_also = (
  run.0 ∙ sym also.0,
  ap (λ w. w.machine) run.1 ∙ sym (ap (λ w. w.machine) also.1),
  ap (λ w. w.stored.files) run.1 ∙ alike.files ∙ sym (ap (λ w. w.stored.files) also.1),
)
runs-once (line ∷ lines) old before since new end replies others tame alike run also sure sure_also =
    let one = sure-line run.1 run.2 (subst AreSure run.5 sure) in
    let other = sure-line also.1 also.2 (subst AreSure also.5 sure_also) in
    let step = step-once line old before since run.0 also.0 run.1 also.1 tame alike one.0 other.0 run.3 also.3 in
    let keeps = step-keeps line (workspace old before) run.0 run.1 tame run.3 in
    let honest = (step-keeps line (workspace old since) also.0 also.1 tame also.3).1 alike.also in
    let after : AreAlike run.0.stored also.0.stored = record { files = step.2; honest = keeps.1 alike.honest; also = honest } in
    let rest = runs-once lines run.0.machine run.0.stored also.0.stored new end run.2 also.2 keeps.0 after run.4
    (subst (λ m. Run MachineStepIn (workspace m also.0.stored) lines also.2 end) (sym step.1) also.4) one.1 other.1 in
    (run.5 ∙ ap₂ (λ r rs. option_to_list r ++ rs) step.0 rest.0 ∙ sym also.5, rest.1, rest.2)

pub runs_are_one : RunsAreOne
runs_are_one limit stored lines replies others new end honest run also sure sure_also =
    let alike : AreAlike stored stored = record { files = refl; honest = honest; also = honest } in
    runs-once lines (started_machine limit) stored stored new end replies others (started-tame limit) alike run also sure sure_also
