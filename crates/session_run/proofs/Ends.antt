-- From how lines end to how runs end.
use Rattle.std.proofs.Common.{◌≡◌, ℕ, Bool, true, IsTrue, List, [], ◌∷◌, Option, Some, None, Err, refl, ap, subst, inl, inr, ◌⊎◌}
use Rattle.std.specs.Prelude.{IfSome, IsErrOf}
use Rattle.std.specs.Io.KnownBytes.{Keeps}
use Rattle.refusals.specs.declared.refusal.Refusal.{Refusal}
use Rattle.undo_group.specs.Groups.{GroupParts}
use Rattle.session.specs.declared.reply.Reply.TheVariants.{Refused}
use Rattle.map_store.specs.Files.{StoreParts}
use Rattle.document_lines.specs.Acts.{Act}
use Rattle.document_lines.specs.Machine.{Machine, Workspace, workspace}
use Rattle.session_run.specs.Runs.{reply_line}
use Rattle.session_run.specs.StrictRuns.{RefusedLine, RunsClean, RunsStrictlyToUnread, RunsStrictlyToWrite, RunsToRefused, Tells, TellsRefused}
use Rattle.session_run.specs.StrictRuns.{Told, refused_text}
use Rattle.session_run.specs.WithinRuns.{EndsAll, EndsAs, EndsInWrite, EndsOver, Going, StopsInWrite, StopsRefused, StopsUnread}
use Rattle.session_run.specs.declared.running.RunFault.{RunFault}
use Rattle.session_run.specs.declared.strict.End.{End}
use Rattle.session_run.specs.declared.strict.End.TheVariants as end
use Rattle.session_run.specs.declared.strict.StrictFault.TheVariants.{Run}
use Rattle.session_run.proofs.Progress.{keeps_appends}

-- ---- of lines
module _ (StepIn : List ℕ → Act Workspace) where
  -- the reply to a refused line is shown
  abbrev pub shown_refused : (start : Workspace) (input : List ℕ) (before mid after : Option (List ℕ)) (stored : StoreParts)
      → RunsToRefused StepIn start input before mid stored → Keeps mid after
      → RunsToRefused StepIn start input before after stored
  shown_refused start input before mid after stored r k = record {
    mid = r.mid;
    line = r.line;
    left = r.left;
    written = r.written;
    lines = r.lines;
    replied = r.replied;
    progress = r.progress;
    accepted = r.accepted;
    refusal = r.refusal;
    now = r.now;
    step = r.step;
    reply = keeps_appends r.written mid after (reply_line (Refused r.refusal)) r.reply k;
  }

  ends_all : (strict : Bool) (start : Workspace) (input : List ℕ) (end : End) (now : Workspace) (before after : Option (List ℕ)) (n k : ℕ)
      (old new : Option (List Told))
      → Going StepIn strict start input [] now before after n k → EndsOver end strict now.machine.group.documents old new
      → EndsAs StepIn end strict start input before after now.stored n k old new
  ends_all strict start input end.Input now before after n k old new g e =
      record { runs = record { now = now.machine; progress = g.progress }; accepted = g.accepted; clean = e.0 }
  ends_all strict start input end.Refused now before after n k old new g e = absurd e
  ends_all strict start input end.Unsaved now before after n k old new g e = (
    e.0,
    record {
      runs = record { lines = n; replied = k; runs = record { now = now.machine; progress = g.progress }; accepted = g.accepted e.0; unsaved = e.1 };
      told = e.2;
    },
  )

  ends_refused : (start : Workspace) (input : List ℕ) (refusal : Refusal) (stored : StoreParts) (line : List ℕ) (before mid after : Option (List ℕ)) (n : ℕ)
      (old new : Option (List Told))
      → StopsRefused StepIn start input refusal stored line before mid n → Keeps mid after
      → Tells old new (RefusedLine n (refused_text line refusal) refusal ∷ []) → TellsRefused StepIn start input before after stored old new
  ends_refused start input refusal stored line before mid after n old new s k t = record {
    runs = shown_refused start input before mid after stored s.runs k;
    told = rw (s.refused, s.text, ← s.counted) t;
  }

-- ---- errors
-- a result of another type has the same error
pub same_error : {T U E : Type 0} (error other : E) → IsErrOf {T = T} (Err error) other → IsErrOf {T = U} (Err error) other
same_error error other e =
    let is : error ≡ other = cc e in
    ap Err is

-- and so has a strict run that ends as each run may
pub same_fault : {T U : Type 0} (fault other : RunFault) → IsErrOf {T = T} (Err (Run fault)) (Run other) → IsErrOf {T = U} (Err fault) other
same_fault fault other e =
    let is : fault ≡ other = cc e in
    ap Err is

-- ---- of known input
-- a run whose machine was one that equals the started one
module _ (StepIn : List ℕ → Act Workspace) (strict : Bool) (known : Option (List ℕ)) (first started : Machine) (files : StoreParts) (is : first ≡ started) where
  -- all lines were handled
  pub known_all : (end : End) (now : Workspace) (group : GroupParts) (before after : Option (List ℕ)) (n k : ℕ) (old new : Option (List Told))
      → IfSome known (λ input. Going StepIn strict (workspace first files) input [] now before after n k) → group ≡ now.machine.group
      → EndsOver end strict group.documents old new
      → IfSome known (λ input. EndsAs StepIn end strict (workspace started files) input before after now.stored n k old new)
  known_all end now group before after n k old new s same e =
      let P : Machine → Type 0 = λ m. IfSome known (λ input. Going StepIn strict (workspace m files) input [] now before after n k) in
      let Q : GroupParts → Type 0 = λ g. EndsOver end strict g.documents old new in
      go known (subst P is s) (subst Q same e)
    where
      go : (known : Option (List ℕ)) → IfSome known (λ input. Going StepIn strict (workspace started files) input [] now before after n k)
          → EndsOver end strict now.machine.group.documents old new
          → IfSome known (λ input. EndsAs StepIn end strict (workspace started files) input before after now.stored n k old new)
      go None s e = tt
      go (Some input) s e = ends_all StepIn strict (workspace started files) input end now before after n k old new s e

  -- a refused line was told
  pub known_refused : (refusal : Refusal) (stored : StoreParts) (line : List ℕ) (before mid after : Option (List ℕ)) (n : ℕ) (old new : Option (List Told))
      → IfSome known (λ input. IsTrue strict × StopsRefused StepIn (workspace first files) input refusal stored line before mid n) → Keeps mid after
      → Tells old new (RefusedLine n (refused_text line refusal) refusal ∷ [])
      → IfSome known (λ input. IsTrue strict × TellsRefused StepIn (workspace started files) input before after stored old new)
  known_refused refusal stored line before mid after n old new s keeps t =
      let P : Machine → Type 0 = λ m. IfSome known (λ input. IsTrue strict × StopsRefused StepIn (workspace m files) input refusal stored line before mid n) in
      go known (subst P is s)
    where
      go : (known : Option (List ℕ))
          → IfSome known (λ input. IsTrue strict × StopsRefused StepIn (workspace started files) input refusal stored line before mid n)
          → IfSome known (λ input. IsTrue strict × TellsRefused StepIn (workspace started files) input before after stored old new)
      go None s = tt
      go (Some input) s = (s.0, ends_refused StepIn (workspace started files) input refusal stored line before mid after n old new s.1 keeps t)

  -- the reply to a refused line could not be shown
  pub known_unshown : (refusal : Refusal) (stored : StoreParts) (line : List ℕ) (reader before mid after : Option (List ℕ)) (n : ℕ)
      → IfSome known (λ input. IsTrue strict × StopsRefused StepIn (workspace first files) input refusal stored line before mid n) → Keeps mid after
      → IfSome known (λ input. EndsInWrite StepIn strict (workspace started files) input reader before after stored)
  known_unshown refusal stored line reader before mid after n s keeps =
      let P : Machine → Type 0 = λ m. IfSome known (λ input. IsTrue strict × StopsRefused StepIn (workspace m files) input refusal stored line before mid n) in
      go known (subst P is s)
    where
      go : (known : Option (List ℕ))
          → IfSome known (λ input. IsTrue strict × StopsRefused StepIn (workspace started files) input refusal stored line before mid n)
          → IfSome known (λ input. EndsInWrite StepIn strict (workspace started files) input reader before after stored)
      go None s = tt
      go (Some input) s = inr (s.0, shown_refused StepIn (workspace started files) input before mid after stored s.1.runs keeps)

  pub known_unread : (reader before after : Option (List ℕ)) (stored : StoreParts)
      → IfSome known (λ input. StopsUnread StepIn strict (workspace first files) input reader before after stored)
      → IfSome known (λ input. StopsUnread StepIn strict (workspace started files) input reader before after stored)
  known_unread reader before after stored s =
      let P : Machine → Type 0 = λ m. IfSome known (λ input. StopsUnread StepIn strict (workspace m files) input reader before after stored) in
      subst P is s

  pub known_unwritten : (reader before after : Option (List ℕ)) (stored : StoreParts)
      → IfSome known (λ input. StopsInWrite StepIn strict (workspace first files) input reader before after stored)
      → IfSome known (λ input. EndsInWrite StepIn strict (workspace started files) input reader before after stored)
  known_unwritten reader before after stored s =
      let P : Machine → Type 0 = λ m. IfSome known (λ input. StopsInWrite StepIn strict (workspace m files) input reader before after stored) in
      go known (subst P is s)
    where
      go : (known : Option (List ℕ)) → IfSome known (λ input. StopsInWrite StepIn strict (workspace started files) input reader before after stored)
          → IfSome known (λ input. EndsInWrite StepIn strict (workspace started files) input reader before after stored)
      go None s = tt
      go (Some input) s = inl s

-- ---- of strict runs
module _ (StepIn : List ℕ → Act Workspace) (start : Workspace) where
  pub strict_all : (known before after : Option (List ℕ)) (stored : StoreParts) (n k : ℕ)
      → IfSome known (λ input. EndsAll StepIn true start input before after stored n k)
      → IfSome known (λ input. RunsClean StepIn start input before after stored n k)
  strict_all None before after stored n k e = tt
  strict_all (Some input) before after stored n k e = record { runs = e.runs; accepted = e.accepted refl; clean = e.clean refl }

  pub strict_unread : (known reader before after : Option (List ℕ)) (stored : StoreParts)
      → IfSome known (λ input. StopsUnread StepIn true start input reader before after stored)
      → IfSome known (λ input. RunsStrictlyToUnread StepIn start input reader before after stored)
  strict_unread None reader before after stored s = tt
  strict_unread (Some input) reader before after stored s = (s.0, s.1 refl)

  pub strict_unwritten : (known reader before after : Option (List ℕ)) (stored : StoreParts)
      → IfSome known (λ input. EndsInWrite StepIn true start input reader before after stored)
      → IfSome known (λ input. RunsStrictlyToUnread StepIn start input reader before after stored ⊎ RunsToRefused StepIn start input before after stored
      ⊎ RunsStrictlyToWrite StepIn start input before after stored)
  strict_unwritten None reader before after stored s = tt
  strict_unwritten (Some input) reader before after stored (inl (inl s)) = inl (s.0, s.1 refl)
  strict_unwritten (Some input) reader before after stored (inl (inr s)) = inr (inr (s.0, s.1 refl))
  strict_unwritten (Some input) reader before after stored (inr s) = inr (inl s.1)
