-- How a run goes on.
use Rattle.std.proofs.Common.{◌≡◌, ◌≢◌, ℕ, ◌+◌, ◌^◌, ◌≤◌, IsTrue, List, [], ◌∷◌, ◌++◌, length, Option, Some, None, refl, sym, ap, subst, ◌∙◌, inl, inr}
use Rattle.std.proofs.Common.{◌⊎◌, append_assoc, arith}
use Rattle.std.specs.Prelude.{option_to_list, All, Bool, IfSome}
use Rattle.std.specs.Io.KnownBytes.{Appends, Keeps, prepend_known}
use Rattle.std.proofs.lemmas.List.{append-nil, length-append}
use Rattle.std.proofs.lemmas.List.Elements.{All-append, All-nil, All-cons}
use Rattle.std.proofs.lemmas.Grind.{flat_map-append}
use Rattle.lines.specs.declared.reader.Found.{Found}
use Rattle.lines.specs.declared.reader.Found.TheVariants as found
use Rattle.lines.specs.Lines.{lines_of, HasNoNewline}
use Rattle.lines.specs.Reading.{FindsLine, Reading, StopsInLine, fresh, input_left}
use Rattle.refusals.specs.declared.line_fault.LineFault.TheVariants.{TooLong}
use Rattle.refusals.specs.declared.refusal.Refusal.{Refusal}
use Rattle.refusals.specs.declared.refusal.Refusal.TheVariants.{Line as LineRefusal}
use Rattle.session.specs.declared.reply.Reply.{Reply}
use Rattle.session.specs.declared.reply.Reply.TheVariants.{Refused}
use Rattle.session.specs.Replies.{refusal_of}
use Rattle.document_lines.specs.Acts.{Act}
use Rattle.document_lines.specs.Machine.{Workspace}
use Rattle.session_run.specs.Runs.{Run, TakesBeginning, IsAccepted, output, reply_line}
use Rattle.session_run.specs.StrictRuns.{refused_text}
use Rattle.session_run.specs.WithinRuns.{Going, Goes, StepFound, StopsInWrite, StopsRefused, StopsUnread, StopsUnwritten}
use Rattle.session_run.proofs.Appending.{appends_more, appends_nothing}

run_more : (StepIn : List ℕ → Act Workspace) (handled : List (List ℕ)) (line : List ℕ) (from now mid : Workspace) (replies : List Reply)
    (reply : Option Reply) → Run StepIn from handled replies now → StepIn line now reply mid
    → Run StepIn from (handled ++ line ∷ []) (replies ++ option_to_list reply) mid
run_more StepIn [] line from now mid replies reply r s =
    let P : Workspace → Type 0 = λ m. StepIn line m reply mid in
    (mid, reply, [], subst P r.1 s, (refl, refl), ap (λ rs. rs ++ option_to_list reply) r.0 ∙ sym (append-nil (option_to_list reply)))
run_more StepIn (l ∷ handled) line from now mid replies reply r s = (
  r.0,
  r.1,
  r.2 ++ option_to_list reply,
  r.3,
  run_more StepIn handled line r.0 now mid r.2 reply r.4 s,
  ap (λ rs. rs ++ option_to_list reply) r.5 ∙ append_assoc (option_to_list r.1) r.2 (option_to_list reply),
)

pub keeps_appends : (a b c : Option (List ℕ)) (xs : List ℕ) → Appends a b xs → Keeps b c → Appends a c xs
keeps_appends None b c xs h k = tt
keeps_appends (Some old) None c xs h k = absurd h
keeps_appends (Some old) (Some bs) None xs h k = k
keeps_appends (Some old) (Some bs) (Some cs) xs h k = k ∙ h

-- the refusal of a reply is the reply's own
pub refusal_of-Some : (reply : Reply) (refusal : Refusal) → refusal_of reply ≡ Some refusal → reply ≡ Refused refusal
refusal_of-Some reply refusal e = by_reply reply e
  where
    by_reply : (r : Reply) → refusal_of r ≡ Some refusal → r ≡ Refused refusal
    by_reply (Refused own) h = let same : own ≡ refusal = cc in ap Refused same
    by_reply r h = absurd cc

-- nothing of the next line is gone
stops_before : (left : Option (List ℕ)) → StopsInLine left left
stops_before None = tt
stops_before (Some xs) = ([], All-nil (λ b. b ≢ 10), refl)

-- a long line is refused as such
abbrev pub RefusesLong : (List ℕ → Act Workspace) → Type 0
RefusesLong StepIn = (long : List ℕ) (old new : Workspace) (refusal : Refusal) → 2 ^ 16 ≤ length long → StepIn long old (Some (Refused refusal)) new
    → refusal ≡ LineRefusal TooLong

-- a run that began at start
module _ (StepIn : List ℕ → Act Workspace) (strict : Bool) (start : Workspace) where
  going_more : (input line : List ℕ) (left : List (List ℕ)) (now mid : Workspace) (reply : Option Reply) (before after after' : Option (List ℕ)) (n k : ℕ)
      → Going StepIn strict start input (line ∷ left) now before after n k → StepIn line now reply mid → Appends after after' (output (option_to_list reply))
      → (IsTrue strict → All IsAccepted (option_to_list reply))
      → Going StepIn strict start input left mid before after' (n + 1) (k + length (option_to_list reply))
  going_more input line left now mid reply before after after' n k g s w a =
      let joined : output (g.progress.replies ++ option_to_list reply) ≡ output g.progress.replies ++ output (option_to_list reply) =
      flat_map-append reply_line g.progress.replies (option_to_list reply) in
      let P : List ℕ → Type 0 = λ bytes. Appends before after' bytes in
      record {
        progress = record {
          handled = g.progress.handled ++ line ∷ [];
          replies = g.progress.replies ++ option_to_list reply;
          split = g.progress.split ∙ sym (append_assoc g.progress.handled (line ∷ []) left);
          run = run_more StepIn g.progress.handled line start now mid g.progress.replies reply g.progress.run s;
          written = subst P (sym joined) (appends_more before after after' (output g.progress.replies) (output (option_to_list reply)) g.progress.written w);
          lines_counted = omega (arith, g.progress.lines_counted, length-append g.progress.handled (line ∷ []));
          replies_counted = omega (arith, g.progress.replies_counted, length-append g.progress.replies (option_to_list reply));
        };
        accepted = λ h. All-append IsAccepted g.progress.replies (option_to_list reply) (g.accepted h) (a h);
      }

  going_with_left : (input : List ℕ) (left left' : List (List ℕ)) (now : Workspace) (before after : Option (List ℕ)) (n k : ℕ) → left ≡ left'
      → Going StepIn strict start input left now before after n k
      → Going StepIn strict start input left' now before after n k
  going_with_left input left left' now before after n k e t =
      let P : List (List ℕ) → Type 0 = λ ls. Going StepIn strict start input ls now before after n k in
      subst P e t

  -- nothing was read yet
  pub goes_none : (known : Option (List ℕ)) (lines : Reading) (before : Option (List ℕ)) → lines ≡ fresh
      → Goes StepIn strict start known (input_left lines known) start before before 0 0
  goes_none None lines before e = tt
  goes_none (Some input) lines before e =
      let P : Reading → Type 0 = λ r. Goes StepIn strict start (Some input) (input_left r (Some input)) start before before 0 0 in
      let at : P fresh = record {
        progress = record {
          handled = [];
          replies = [];
          split = refl;
          run = (refl, refl);
          written = appends_nothing before;
          lines_counted = refl;
          replies_counted = refl;
        };
        accepted = λ h. All-nil IsAccepted;
      } in
      subst P (sym e) at

  goes_more : (known left left' : Option (List ℕ)) (f : Found) (line : List ℕ) (now mid : Workspace) (reply : Option Reply)
      (before after after' : Option (List ℕ)) (n k : ℕ)
      → Goes StepIn strict start known left now before after n k → FindsLine left left' (Some f) line → StepFound StepIn f line now reply mid
      → Appends after after' (output (option_to_list reply)) → (IsTrue strict → All IsAccepted (option_to_list reply))
      → Goes StepIn strict start known left' mid before after' (n + 1) (k + length (option_to_list reply))
  goes_more None left left' f line now mid reply before after after' n k g l s w a = tt
  goes_more (Some input) None left' f line now mid reply before after after' n k g l s w a = absurd g
  goes_more (Some input) (Some xs) None f line now mid reply before after after' n k g l s w a = l
  goes_more (Some input) (Some xs) (Some ys) found.Line line now mid reply before after after' n k g l s w a =
      going_more input line (lines_of ys) now mid reply before after after' n k (going_with_left input _ _ now before after n k l.0 g) s w a
  goes_more (Some input) (Some xs) (Some ys) found.TooLong line now mid reply before after after' n k g l s w a =
      going_more input l.0 (lines_of ys) now mid reply before after after' n k (going_with_left input _ _ now before after n k l.1 g) (s l.0 l.2) w a

  pub goes_quiet : (known left left' : Option (List ℕ)) (f : Found) (line : List ℕ) (now mid : Workspace) (before after : Option (List ℕ)) (n k : ℕ)
      → Goes StepIn strict start known left now before after n k → FindsLine left left' (Some f) line → StepFound StepIn f line now None mid
      → Goes StepIn strict start known left' mid before after (n + 1) k
  goes_quiet known left left' f line now mid before after n k g l s =
      let P : ℕ → Type 0 = λ m. Goes StepIn strict start known left' mid before after (n + 1) m in
      let same : k + 0 ≡ k = omega arith in
      subst P same (goes_more known left left' f line now mid None before after after n k g l s (appends_nothing after) (λ h. All-nil IsAccepted))

  -- a reply was written
  pub goes_replied : (known left left' : Option (List ℕ)) (f : Found) (line : List ℕ) (now mid : Workspace) (reply : Reply)
      (before after after' : Option (List ℕ)) (n k : ℕ)
      → Goes StepIn strict start known left now before after n k → FindsLine left left' (Some f) line → StepFound StepIn f line now (Some reply) mid
      → Appends after after' (reply_line reply) → (IsTrue strict → IsAccepted reply)
      → Goes StepIn strict start known left' mid before after' (n + 1) (k + 1)
  goes_replied known left left' f line now mid reply before after after' n k g l s w a =
      let P : List ℕ → Type 0 = λ bytes. Appends after after' bytes in
      goes_more known left left' f line now mid (Some reply) before after after' n k g l s (subst P (sym (append-nil (reply_line reply))) w)
      (λ h. All-cons IsAccepted reply [] (a h) (All-nil IsAccepted))

  -- all lines were handled
  pub goes_all : (known left left' : Option (List ℕ)) (line : List ℕ) (now : Workspace) (before after : Option (List ℕ)) (n k : ℕ)
      → Goes StepIn strict start known left now before after n k
      → FindsLine left left' None line → IfSome known (λ input. Going StepIn strict start input [] now before after n k)
  goes_all None left left' line now before after n k g l = tt
  goes_all (Some input) None left' line now before after n k g l = absurd g
  goes_all (Some input) (Some xs) None line now before after n k g l = absurd l
  goes_all (Some input) (Some xs) (Some ys) line now before after n k g l = going_with_left input _ _ now before after n k l.0 g

  -- the beginning of a line had come, and the reader has the rest
  pub goes_unread : (known left left' reader : Option (List ℕ)) (pending : List ℕ) (now : Workspace) (before after : Option (List ℕ)) (n k : ℕ)
      → Goes StepIn strict start known left now before after n k
      → StopsInLine left left' → left' ≡ prepend_known pending reader → HasNoNewline pending
      → IfSome known (λ input. StopsUnread StepIn strict start input reader before after now.stored)
  goes_unread None left left' reader pending now before after n k g l e h = tt
  goes_unread (Some input) None left' reader pending now before after n k g l e h = absurd g
  goes_unread (Some input) (Some xs) None reader pending now before after n k g l e h = absurd l
  goes_unread (Some input) (Some xs) (Some ys) None pending now before after n k g l e h = absurd cc
  goes_unread (Some input) (Some xs) (Some ys) (Some rest) pending now before after n k g l e h =
      let same : ys ≡ pending ++ rest = cc in
      let whole : xs ≡ (l.0 ++ pending) ++ rest = l.2 ∙ ap (λ zs. l.0 ++ zs) same ∙ sym (append_assoc l.0 pending rest) in
      let went : Going StepIn strict start input (lines_of ((l.0 ++ pending) ++ rest)) now before after n k =
      going_with_left input _ _ now before after n k (ap lines_of whole) g in (
        record {
          beginning = l.0 ++ pending;
          rest = rest;
          unfinished = All-append (λ b. b ≢ 10) l.0 pending l.1 h;
          unread = refl;
          now = now.machine;
          lines = n;
          replied = k;
          progress = went.progress;
        },
        went.accepted,
      )

  going_unwritten : (input line : List ℕ) (left : List (List ℕ)) (mid now : Workspace) (reply : Reply) (before after after' : Option (List ℕ)) (n k : ℕ)
      → Going StepIn strict start input (line ∷ left) mid before after n k → StepIn line mid (Some reply) now → TakesBeginning (reply_line reply) after after'
      → StopsUnwritten StepIn strict start input before after' now.stored
  going_unwritten input line left mid now reply before after after' n k g s w = (
    record {
      mid = mid;
      line = line;
      left = left;
      written = after;
      lines = n;
      replied = k;
      progress = g.progress;
      reply = reply;
      now = now.machine;
      step = s;
      beginning = w;
    },
    g.accepted,
  )

  goes_write : (known left left' : Option (List ℕ)) (f : Found) (line : List ℕ) (mid now : Workspace) (reply : Reply) (before after after' : Option (List ℕ))
      (n k : ℕ)
      → Goes StepIn strict start known left mid before after n k → FindsLine left left' (Some f) line → StepFound StepIn f line mid (Some reply) now
      → TakesBeginning (reply_line reply) after after'
      → IfSome known (λ input. StopsUnwritten StepIn strict start input before after' now.stored)
  goes_write None left left' f line mid now reply before after after' n k g l s w = tt
  goes_write (Some input) None left' f line mid now reply before after after' n k g l s w = absurd g
  goes_write (Some input) (Some xs) None f line mid now reply before after after' n k g l s w = absurd l
  goes_write (Some input) (Some xs) (Some ys) found.Line line mid now reply before after after' n k g l s w =
      going_unwritten input line (lines_of ys) mid now reply before after after' n k (going_with_left input _ _ mid before after n k l.0 g) s w
  goes_write (Some input) (Some xs) (Some ys) found.TooLong line mid now reply before after after' n k g l s w =
      going_unwritten input l.0 (lines_of ys) mid now reply before after after' n k (going_with_left input _ _ mid before after n k l.1 g) (s l.0 l.2) w

  or_first : (P Q : List ℕ → Type 0) (known : Option (List ℕ)) → IfSome known P → IfSome known (λ input. P input ⊎ Q input)
  or_first P Q None h = tt
  or_first P Q (Some input) h = inl h

  or_second : (P Q : List ℕ → Type 0) (known : Option (List ℕ)) → IfSome known Q → IfSome known (λ input. P input ⊎ Q input)
  or_second P Q None h = tt
  or_second P Q (Some input) h = inr h

  -- the replies could not be flushed before a read
  pub goes_unflushed : (known left reader : Option (List ℕ)) (pending : List ℕ) (now : Workspace) (before after : Option (List ℕ)) (n k : ℕ)
      → Goes StepIn strict start known left now before after n k
      → left ≡ prepend_known pending reader → HasNoNewline pending
      → IfSome known (λ input. StopsInWrite StepIn strict start input reader before after now.stored)
  goes_unflushed known left reader pending now before after n k g e h =
      or_first _ _ known (goes_unread known left left reader pending now before after n k g (stops_before left) e h)

  -- the reply to a line could not be written
  pub goes_unwritten : (known left left' reader : Option (List ℕ)) (f : Found) (line : List ℕ) (mid now : Workspace) (reply : Reply)
      (before after after' : Option (List ℕ)) (n k : ℕ)
      → Goes StepIn strict start known left mid before after n k → FindsLine left left' (Some f) line → StepFound StepIn f line mid (Some reply) now
      → TakesBeginning (reply_line reply) after after'
      → IfSome known (λ input. StopsInWrite StepIn strict start input reader before after' now.stored)
  goes_unwritten known left left' reader f line mid now reply before after after' n k g l s w =
      or_second _ _ known (goes_write known left left' f line mid now reply before after after' n k g l s w)

  -- a flush shows what was written
  pub goes_keeps : (known left : Option (List ℕ)) (now : Workspace) (before after after' : Option (List ℕ)) (n k : ℕ)
      → Goes StepIn strict start known left now before after n k → Keeps after after'
      → Goes StepIn strict start known left now before after' n k
  goes_keeps None left now before after after' n k g h = tt
  goes_keeps (Some input) None now before after after' n k g h = g
  goes_keeps (Some input) (Some xs) now before after after' n k g h = record {
    progress = record {
      handled = g.progress.handled;
      replies = g.progress.replies;
      split = g.progress.split;
      run = g.progress.run;
      written = keeps_appends before after after' (output g.progress.replies) g.progress.written h;
      lines_counted = g.progress.lines_counted;
      replies_counted = g.progress.replies_counted;
    };
    accepted = g.accepted;
  }

  going_refused : (input line shown : List ℕ) (left : List (List ℕ)) (mid now : Workspace) (refusal : Refusal) (before after after' : Option (List ℕ)) (n k : ℕ)
      → Going StepIn strict start input (line ∷ left) mid before after n k → StepIn line mid (Some (Refused refusal)) now
      → Appends after after' (reply_line (Refused refusal)) → IsTrue strict
      → refused_text line refusal ≡ refused_text shown refusal → StopsRefused StepIn start input refusal now.stored shown before after' (n + 1)
  going_refused input line shown left mid now refusal before after after' n k g s w h e = record {
    runs = record {
      mid = mid;
      line = line;
      left = left;
      written = after;
      lines = n;
      replied = k;
      progress = g.progress;
      accepted = g.accepted h;
      refusal = refusal;
      now = now.machine;
      step = s;
      reply = w;
    };
    counted = refl;
    refused = refl;
    text = e;
  }

  -- a strict run stops at a refused line, whose reply is written whole
  pub goes_refused : (known left left' : Option (List ℕ)) (f : Found) (line : List ℕ) (mid now : Workspace) (refusal : Refusal)
      (before after after' : Option (List ℕ)) (n k : ℕ) → RefusesLong StepIn
      → Goes StepIn strict start known left mid before after n k → FindsLine left left' (Some f) line → StepFound StepIn f line mid (Some (Refused refusal)) now
      → Appends after after' (reply_line (Refused refusal)) → IsTrue strict
      → IfSome known (λ input. IsTrue strict × StopsRefused StepIn start input refusal now.stored line before after' (n + 1))
  goes_refused None left left' f line mid now refusal before after after' n k long g l s w h = tt
  goes_refused (Some input) None left' f line mid now refusal before after after' n k long g l s w h = absurd g
  goes_refused (Some input) (Some xs) None f line mid now refusal before after after' n k long g l s w h = absurd l
  goes_refused (Some input) (Some xs) (Some ys) found.Line line mid now refusal before after after' n k long g l s w h =
      (h, going_refused input line line (lines_of ys) mid now refusal before after after' n k (going_with_left input _ _ mid before after n k l.0 g) s w h refl)
  goes_refused (Some input) (Some xs) (Some ys) found.TooLong line mid now refusal before after after' n k long g l s w h =
      let same : refusal ≡ LineRefusal TooLong = long l.0 mid now refusal l.2 (s l.0 l.2) in (
        h,
        going_refused input l.0 line (lines_of ys) mid now refusal before after after' n k (going_with_left input _ _ mid before after n k l.1 g)
            (s l.0 l.2) w h (rw same refl),
      )
