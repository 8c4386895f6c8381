-- How a run of many lines goes on.
use Rattle.std.proofs.Common.{◌≡◌, ℕ, ◌+◌, ◌-◌, ◌<◌, ◌≤◌, IsTrue, Bool, true, false, List, [], ◌∷◌, ◌++◌, length, take, drop, Option, Some, None, refl, sym, ap}
use Rattle.std.proofs.Common.{subst, ◌∙◌, inl, inr, ◌⊎◌, append_assoc, arith}
use Rattle.std.specs.Prelude.{All, nat_le, is_some, option_to_list, if◌then◌else◌}
use Rattle.std.proofs.lemmas.Bool.{false≢true, le-leb, lt-leb, leb-true, leb-false}
use Rattle.std.proofs.lemmas.List.{append-nil, drop-drop, drop_all, drop_at, length-append, length-drop, take_all, take_at}
use borrow.Rule.Slice.PartMut.{put_mid}
use Rattle.std.proofs.lemmas.List.Elements.{All-append, All-nil, All-cons}
use Rattle.std.proofs.lemmas.Grind.{flat_map-append}
use Rattle.lines.specs.Lines.{lines_of}
use Rattle.session.specs.Replies.{refusal_of}
use Rattle.refusals.specs.declared.refusal.Refusal.{Refusal}
use Rattle.session.specs.declared.reply.Reply.{Reply}
use Rattle.session_run.specs.Runs.{IsAccepted, output, reply_line}
use Rattle.memory_editor.specs.Buffers.{size_within, written}
use Rattle.memory_editor.specs.Counts.{no_lines_done, with_line}
use Rattle.memory_editor.specs.ManyLines.{Ends, RunsLinesUpTo, LeadsTo, is_refusal, reply_bytes, told}
use Rattle.memory_editor.specs.Parts.{MemoryEditorParts, StepsTo}
use Rattle.memory_editor.specs.declared.lines_done.LinesDone.{LinesDone}
use Rattle.memory_editor.proofs.Pieces.{written-fits, written-larger}

-- no line was done yet, or some were
abbrev pub SoFar : Bool → List ℕ → List ℕ → MemoryEditorParts → LinesDone → MemoryEditorParts → List ℕ → Type 0
SoFar stops bytes buffer start done now after =
    ((done ≡ no_lines_done) × (now ≡ start) × (after ≡ buffer)) ⊎ RunsLinesUpTo stops bytes buffer start done now after

-- lines were done, all their replies stand in the buffer, and a further line may follow
pub record GoesOn (stops : Bool) (bytes buffer : List ℕ) (start : MemoryEditorParts) (done : LinesDone) (now : MemoryEditorParts) (after : List ℕ)
    : Type 0 where
  pub lines : List (List ℕ)
  pub replies : List Reply
  pub cut : lines_of bytes ≡ lines ++ lines_of (drop done.bytes bytes)
  pub counted : done.lines ≡ length lines
  pub run : LeadsTo start lines replies now
  pub accepted : IsTrue stops → All IsAccepted replies
  pub fits : length (output replies) ≤ length buffer
  pub size : done.replies ≡ length (output replies)
  pub written : after ≡ output replies ++ drop (length (output replies)) buffer

-- ---- a run and a step more
run_more : (lines : List (List ℕ)) (line : List ℕ) (from now mid : MemoryEditorParts) (replies : List Reply) → LeadsTo from lines replies now
    → StepsTo line now mid
    → LeadsTo from (lines ++ line ∷ []) (replies ++ option_to_list mid.reply) mid
run_more [] line from now mid replies r s =
    let P : MemoryEditorParts → Type 0 = λ m. StepsTo line m mid in
    (mid, [], subst P r.1 s, (refl, refl), ap (λ (rs : List Reply). rs ++ option_to_list mid.reply) r.0 ∙ sym (append-nil (option_to_list mid.reply)))
run_more (l ∷ lines) line from now mid replies r s = (
  r.0,
  r.1 ++ option_to_list mid.reply,
  r.2,
  run_more lines line r.0 now mid r.1 r.3 s,
  ap (λ (rs : List Reply). rs ++ option_to_list mid.reply) r.4 ∙ append_assoc (option_to_list r.0.reply) r.1 (option_to_list mid.reply),
)

-- ---- replies
output-one : (reply : Option Reply) → output (option_to_list reply) ≡ reply_bytes reply
output-one None = refl
output-one (Some reply) = append-nil (reply_line reply)

output-more : (replies : List Reply) (reply : Option Reply) → output (replies ++ option_to_list reply) ≡ output replies ++ reply_bytes reply
output-more replies reply = flat_map-append reply_line replies (option_to_list reply) ∙ ap (λ (t : List ℕ). output replies ++ t) (output-one reply)

no_refusal : (o : Option Refusal) → is_some o ≡ false → o ≡ None
no_refusal None e = refl
no_refusal (Some refusal) e = absurd (let worse : ⊥ = cc in worse)

accepted-last : (reply : Option Reply) → is_refusal reply ≡ false → All IsAccepted (option_to_list reply)
accepted-last None e = All-nil IsAccepted
accepted-last (Some reply) e = All-cons IsAccepted reply [] (no_refusal (refusal_of reply) e) (All-nil IsAccepted)

-- ---- buffers
size_within-Some_at : (b : Bool) (n k : ℕ) → Some n ≡ (if b then Some k else None) → (b ≡ true) × (n ≡ k)
size_within-Some_at true n k e = (refl, cc)
size_within-Some_at false n k e = absurd (let worse : ⊥ = cc in worse)

size_within-Some : (values buffer : List ℕ) (n : ℕ) → Some n ≡ size_within values buffer → (length values ≤ length buffer) × (n ≡ length values)
size_within-Some values buffer n e =
    let both = size_within-Some_at (nat_le (length values) (length buffer)) n (length values) e in
    (leb-true (length values) (length buffer) both.0, both.1)

size_within-None_at : (b : Bool) (k : ℕ) → None ≡ (if b then Some k else None) → b ≡ false
size_within-None_at true k e = absurd (let worse : ⊥ = cc in worse)
size_within-None_at false k e = refl

size_within-None : (values buffer : List ℕ) → None ≡ size_within values buffer → length buffer < length values
size_within-None values buffer e = leb-false (length values) (length buffer) (size_within-None_at (nat_le (length values) (length buffer)) (length values) e)

-- ---- where no further line is done
pub none_done : (stops : Bool) (bytes buffer : List ℕ) (start : MemoryEditorParts) (done : LinesDone) (now : MemoryEditorParts) (after : List ℕ)
    → SoFar stops bytes buffer start done now after
    → bytes ≡ [] → (done ≡ no_lines_done) × (now ≡ start) × (after ≡ buffer)
none_done stops bytes buffer start done now after (inl h) e = h
none_done stops bytes buffer start done now after (inr h) e =
    let rest = h.line ∷ lines_of (drop done.bytes bytes) in
    let none : [] ≡ h.before ++ rest = sym (ap lines_of e) ∙ h.cut in
    absurd (omega (arith, ap length none, length-append h.before rest))

pub some_done : (stops : Bool) (bytes buffer : List ℕ) (start : MemoryEditorParts) (done : LinesDone) (now : MemoryEditorParts) (after : List ℕ)
    → SoFar stops bytes buffer start done now after
    → Ends stops bytes done → 0 < length bytes → RunsLinesUpTo stops bytes buffer start done now after
some_done stops bytes buffer start done now after (inr h) e lt = h
some_done stops bytes buffer start done now after (inl h) (inl at) lt = let none = ap (λ (x : LinesDone). x.bytes) h.0 in absurd (omega (arith, at, none, lt))
some_done stops bytes buffer start done now after (inl h) (inr (inl r)) lt = absurd (false≢true (sym (ap (λ (x : LinesDone). x.is_refused) h.0) ∙ r.1))
some_done stops bytes buffer start done now after (inl h) (inr (inr r)) lt = absurd (false≢true (sym r ∙ ap (λ (x : LinesDone). x.has_room) h.0))

-- ---- before a further line
told-true : (b : Bool) (replies : List Reply) (reply : Option Reply) → b ≡ true → told b replies reply ≡ replies ++ option_to_list reply
told-true b replies reply e = ap (λ (x : Bool). told x replies reply) e

pub goes_on : (stops : Bool) (bytes buffer : List ℕ) (start : MemoryEditorParts) (done : LinesDone) (now : MemoryEditorParts) (after : List ℕ)
    → SoFar stops bytes buffer start done now after
    → done.has_room ≡ true → (IsTrue stops → done.is_refused ≡ false) → GoesOn stops bytes buffer start done now after
goes_on stops bytes buffer start done now after (inl h) room accepted = record {
  lines = [];
  replies = [];
  cut = ap (λ (x : LinesDone). lines_of (drop x.bytes bytes)) (sym h.0);
  counted = ap (λ (x : LinesDone). x.lines) h.0;
  run = (refl, h.1);
  accepted = λ s. All-nil IsAccepted;
  fits = omega arith;
  size = ap (λ (x : LinesDone). x.replies) h.0;
  written = h.2;
}
goes_on stops bytes buffer start done now after (inr h) room accepted =
    let all = told-true done.has_room h.replies now.reply room in
    let fit : length (output (h.replies ++ option_to_list now.reply)) ≤ length buffer = leb-true _ _ (sym h.room ∙ room) in
    record {
      lines = h.before ++ h.line ∷ [];
      replies = h.replies ++ option_to_list now.reply;
      cut = h.cut ∙ sym (append_assoc h.before (h.line ∷ []) (lines_of (drop done.bytes bytes)));
      counted = h.lines ∙ sym (length-append h.before (h.line ∷ []));
      run = run_more h.before h.line start h.mid now h.replies h.run h.step;
      accepted = λ s. All-append IsAccepted h.replies (option_to_list now.reply) (h.accepted s) (accepted-last now.reply (sym h.refused ∙ accepted s));
      fits = fit;
      size = h.size ∙ ap (λ (rs : List Reply). length (output rs)) all;
      written = h.written ∙ ap (λ (rs : List Reply). written (output rs) buffer) all ∙ written-fits (output (h.replies ++ option_to_list now.reply)) buffer fit;
    }

-- ---- behind a further line
module _ (stops : Bool) (bytes buffer : List ℕ) (start : MemoryEditorParts) (done : LinesDone) (now : MemoryEditorParts) (after : List ℕ)
    (g : GoesOn stops bytes buffer start done now after)
    (line : List ℕ) (taken : ℕ) (cut : lines_of (drop done.bytes bytes) ≡ line ∷ lines_of (drop taken (drop done.bytes bytes)))
    (within : done.bytes + taken ≤ length bytes)
    (new : MemoryEditorParts) (step : StepsTo line now new) (refused : Bool) (is_refused : refused ≡ is_refusal new.reply) where
  abbrev told_before : List ℕ
  told_before = output g.replies

  abbrev reply : List ℕ
  reply = reply_bytes new.reply

  -- what is left of the buffer
  left : drop done.replies after ≡ drop (length told_before) buffer
  left = ap (λ n. drop n after) g.size ∙ ap (λ (t : List ℕ). drop (length told_before) t) g.written
      ∙ drop_at told_before (drop (length told_before) buffer) (length told_before) refl

  front : take done.replies after ≡ told_before
  front = ap (λ n. take n after) g.size ∙ ap (λ (t : List ℕ). take (length told_before) t) g.written
      ∙ take_at told_before (drop (length told_before) buffer) (length told_before) refl

  left_size : length (drop done.replies after) ≡ length buffer - length told_before
  left_size = ap length left ∙ length-drop (length told_before) buffer

  all_cut : lines_of bytes ≡ g.lines ++ line ∷ lines_of (drop (done.bytes + taken) bytes)
  all_cut = g.cut ∙ ap (λ (ls : List (List ℕ)). g.lines ++ ls) cut ∙ ap (λ (bs : List ℕ). g.lines ++ line ∷ lines_of bs) (drop-drop taken done.bytes bytes)

  both : output (g.replies ++ option_to_list new.reply) ≡ told_before ++ reply
  both = output-more g.replies new.reply

  both_size : length (output (g.replies ++ option_to_list new.reply)) ≡ length told_before + length reply
  both_size = ap length both ∙ length-append told_before reply

  pub more_done : (put : Option ℕ) (end : List ℕ) → put ≡ size_within reply (drop done.replies after)
      → end ≡ take done.replies after ++ written reply (drop done.replies after)
      → RunsLinesUpTo stops bytes buffer start (with_line taken refused put done) new end
  more_done (Some n) end e is =
      let fits = size_within-Some reply (drop done.replies after) n e in
      let room : length (output (g.replies ++ option_to_list new.reply)) ≤ length buffer = omega (arith, both_size, left_size, fits.0, g.fits) in
      let rest : drop (length reply) (drop done.replies after) ≡ drop (length (told_before ++ reply)) buffer =
      ap (λ (t : List ℕ). drop (length reply) t) left ∙ drop-drop (length reply) (length told_before) buffer
      ∙ ap (λ n. drop n buffer) (sym (length-append told_before reply)) in
      record {
        before = g.lines;
        line = line;
        replies = g.replies;
        mid = now;
        cut = all_cut;
        within = within;
        lines = ap (λ n. n + 1) g.counted;
        run = g.run;
        step = step;
        accepted = g.accepted;
        fits = g.fits;
        refused = is_refused;
        room = sym (le-leb _ _ room);
        size = omega (arith, g.size, fits.1, both_size);
        written =
            is ∙ ap (λ (t : List ℕ). t ++ written reply (drop done.replies after)) front
            ∙ ap (λ (t : List ℕ). told_before ++ t) (written-fits reply (drop done.replies after) fits.0 ∙ ap (λ (t : List ℕ). reply ++ t) rest)
            ∙ sym (append_assoc told_before reply (drop (length (told_before ++ reply)) buffer))
            ∙ ap (λ (t : List ℕ). t ++ drop (length t) buffer) (sym both)
            ∙ sym (written-fits (output (g.replies ++ option_to_list new.reply)) buffer room);
      }
  more_done None end e is =
      let larger = size_within-None reply (drop done.replies after) e in
      let much : length buffer < length (output (g.replies ++ option_to_list new.reply)) = omega (arith, both_size, left_size, larger, g.fits) in
      record {
        before = g.lines;
        line = line;
        replies = g.replies;
        mid = now;
        cut = all_cut;
        within = within;
        lines = ap (λ n. n + 1) g.counted;
        run = g.run;
        step = step;
        accepted = g.accepted;
        fits = g.fits;
        refused = is_refused;
        room = sym (lt-leb _ _ much);
        size = g.size;
        written =
            is ∙ ap (λ (t : List ℕ). t ++ written reply (drop done.replies after)) front
            ∙ ap (λ (t : List ℕ). told_before ++ t) (written-larger reply (drop done.replies after) larger ∙ left)
            ∙ sym (written-fits told_before buffer g.fits);
      }

-- ---- the counts
pub lines-with_line : (bytes : ℕ) (refused : Bool) (put : Option ℕ) (done : LinesDone) → (with_line bytes refused put done).lines ≡ done.lines + 1
lines-with_line bytes refused (Some n) done = refl
lines-with_line bytes refused None done = refl

pub bytes-with_line : (bytes : ℕ) (refused : Bool) (put : Option ℕ) (done : LinesDone) → (with_line bytes refused put done).bytes ≡ done.bytes + bytes
bytes-with_line bytes refused (Some n) done = refl
bytes-with_line bytes refused None done = refl

pub replies-with_line : (bytes : ℕ) (refused : Bool) (put : Option ℕ) (done : LinesDone) (reply left : List ℕ) → put ≡ size_within reply left
    → (with_line bytes refused put done).replies ≤ done.replies + length left
replies-with_line bytes refused (Some n) done reply left e = let fits = size_within-Some reply left n e in omega (arith, fits.0, fits.1)
replies-with_line bytes refused None done reply left e = omega arith

-- ---- the rest of a list, as a part that is handed on
pub rest_is : (i : ℕ) (xs : List ℕ) → take (length xs - i) (drop i xs) ≡ drop i xs
rest_is i xs = take_all (length xs - i) (drop i xs) (omega (arith, length-drop i xs))

pub put_rest : (i : ℕ) (xs ys : List ℕ) → put_mid i (length xs - i) xs ys ≡ take i xs ++ ys
put_rest i xs ys =
    ap (λ (t : List ℕ). take i xs ++ (ys ++ t)) (drop_all (length xs - i) (drop i xs) (omega (arith, length-drop i xs)))
    ∙ ap (λ (t : List ℕ). take i xs ++ t) (append-nil ys)

length-written_at : (b : Bool) (values buffer : List ℕ) → nat_le (length values) (length buffer) ≡ b → length (written values buffer) ≡ length buffer
length-written_at true values buffer e =
    let fits = leb-true (length values) (length buffer) e in
    rw (written-fits values buffer fits) (omega (arith, fits, length-append values (drop (length values) buffer), length-drop (length values) buffer))
length-written_at false values buffer e = ap length (written-larger values buffer (leb-false (length values) (length buffer) e))

pub length-written : (values buffer : List ℕ) → length (written values buffer) ≡ length buffer
length-written values buffer = length-written_at (nat_le (length values) (length buffer)) values buffer refl
