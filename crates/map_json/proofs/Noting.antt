-- Members of an object into which a line puts some, or from which it takes one, with their notes: they are fine where they were.
use Rattle.std.proofs.Common.{◌≡◌, ℕ, suc, List, Option, Some, None, option_and_then, Bool, true, false, ◌&&◌, bytes_eq, true≢false, refl, sym, ap, ◌∙◌, subst}
use Rattle.std.proofs.Common.{arith}
use Rattle.std.specs.Prelude.{IsUtf8, if◌then◌else◌, unwrap_or}
use Rattle.std.proofs.lemmas.Bool.{and_parts}
use Rattle.std.proofs.lemmas.Slice.Eq.{bytes_eq-Decides}
use Rattle.json.proofs.Printed.Utf8.{IsUtf8-are_ascii}
use Rattle.serde_json.specs.Data.{Data, null, boolean, number, string, array, object, Members, no_members, member, put}
use Rattle.serde_json.specs.Find.{as_object, get_member}
use Rattle.serde_json.proofs.Views.{get_member-put}
use Rattle.json_members.specs.Members.{put_all, without}
use Rattle.json_members.proofs.MembersLemmas.{skips}
use Rattle.fractions.specs.declared.lines.Fractions.{Fractions}
use Rattle.fractions.specs.declared.lines.Fractions.TheVariants.{Refused, SetAside}
use Rattle.fractions.specs.declared.lines.Moved.{Moved}
use Rattle.fractions.specs.declared.place.Place.{Place}
use Rattle.fractions.specs.declared.place.Place.TheVariants.{Elsewhere}
use Rattle.fractions.specs.Places.{below}
use Rattle.fractions.specs.Aside.{reserved_name, with_notes, members_aside}
use Rattle.fractions.specs.Lines.{has_noted, is_noted, members_said, moved_notes, notes_at, put_words, remove_word, renoted, unnoted, with_own_notes, without_named}
use Rattle.map_json.specs.Words.{all_named}
use Rattle.map_json.proofs.Fine.{IsFine, AreFineMembers}
use Rattle.map_json.proofs.FineLemmas.{AreFineMembers-read, AreFineMembers-without, AreReadableMembers-fine, IsFine-get_member, IsReadable-fine, depth-fine}
use Rattle.map_json.proofs.FineLemmas.{has_float-fine, members_depth-fine, members_have_float-fine}
use Rattle.map_json.proofs.HeadWords.{members_depth-put}
use Rattle.map_json.proofs.Orders.{AreReadableMembers-put}
use Rattle.map_json.proofs.Own.{put_whole, without-put}

-- ---- members put in and taken out
fine_put : (n : ℕ) (k : List ℕ) (d : Data) (ms : Members) → IsUtf8 k → IsFine n d → AreFineMembers n ms → AreFineMembers n (put k d ms)
fine_put n k d ms utf8 hd h =
    let deep = members_depth-put k d ms in
    let own = depth-fine n d hd in
    let rest = members_depth-fine n ms h in
    AreFineMembers-read n (put k d ms) (AreReadableMembers-put k d ms utf8 (IsReadable-fine n d hd) (AreReadableMembers-fine n ms h))
    (put_whole k d ms (has_float-fine n d hd) (members_have_float-fine n ms h)) (omega (arith, deep, own, rest))

pub fine_put_all : (n : ℕ) (words ms : Members) → AreFineMembers n words → AreFineMembers n ms → AreFineMembers n (put_all words ms)
fine_put_all n no_members ms h g = g
fine_put_all n (member k d words) ms h g = fine_put_all n words (put k d ms) h.3 (fine_put n k d ms h.0 h.2 g)

fine_without_named : (n : ℕ) (words ms : Members) → AreFineMembers n ms → AreFineMembers n (without_named words ms)
fine_without_named n no_members ms h = h
fine_without_named n (member k d words) ms h = fine_without_named n words (without k ms) (AreFineMembers-without n k ms h)

-- ---- notes
fine_notes : (n : ℕ) (o : Option Data) → ((d : Data) → o ≡ Some d → IsFine (suc n) d) → AreFineMembers n (unwrap_or (option_and_then as_object o) no_members)
fine_notes n None h = tt
fine_notes n (Some null) h = tt
fine_notes n (Some (boolean b)) h = tt
fine_notes n (Some (number x)) h = tt
fine_notes n (Some (string s)) h = tt
fine_notes n (Some (array ds)) h = tt
fine_notes n (Some (object ms)) h = h (object ms) refl

fine_notes_at : (n : ℕ) (ms : Members) → AreFineMembers (suc n) ms → AreFineMembers n (notes_at ms)
fine_notes_at n ms h = fine_notes n (get_member reserved_name ms) (λ d e. IsFine-get_member (suc n) reserved_name ms d h e)

fine_with_notes : (n : ℕ) (ns ms : Members) → AreFineMembers n ns → AreFineMembers (suc n) ms → AreFineMembers (suc n) (with_notes ns ms)
fine_with_notes n no_members ms h g = g
fine_with_notes n (member k d ns) ms h g = fine_put (suc n) reserved_name (object (member k d ns)) ms (IsUtf8-are_ascii reserved_name refl) h g

fine_with_own_notes : (n : ℕ) (ns ms : Members) → AreFineMembers n ns → AreFineMembers (suc n) ms → AreFineMembers (suc n) (with_own_notes ns ms)
fine_with_own_notes n ns ms h g = fine_with_notes n ns (without reserved_name ms) h (AreFineMembers-without (suc n) reserved_name ms g)

either : (b : Bool) (n : ℕ) (a c : Members) → AreFineMembers n a → AreFineMembers n c → AreFineMembers n (if b then a else c)
either true n a c h g = h
either false n a c h g = g

fine_renoted : (n : ℕ) (p : Place) (m : Moved) (words ms : Members) → AreFineMembers n (moved_notes m p words) → AreFineMembers (suc n) ms
    → AreFineMembers (suc n) (renoted p m words ms)
fine_renoted n p m words ms h g =
    either (has_noted p words) (suc n) (with_own_notes (put_all (moved_notes m p words) (without_named words (notes_at ms))) ms) ms
    (fine_with_own_notes n (put_all (moved_notes m p words) (without_named words (notes_at ms))) ms
    (fine_put_all n (moved_notes m p words) (without_named words (notes_at ms)) h (fine_without_named n words (notes_at ms) (fine_notes_at n ms g))) g) g

fine_unnoted : (n : ℕ) (p : Place) (k : List ℕ) (ms : Members) → AreFineMembers (suc n) ms → AreFineMembers (suc n) (unnoted p k ms)
fine_unnoted n p k ms g =
    either (is_noted (below p k)) (suc n) (with_own_notes (without k (notes_at ms)) ms) ms
    (fine_with_own_notes n (without k (notes_at ms)) ms (AreFineMembers-without n k (notes_at ms) (fine_notes_at n ms g)) g) g

-- ---- names
other_name : (b : Bool) (q k : List ℕ) → bytes_eq q k ≡ b → (q ≡ k → ⊥) → b ≡ false
other_name true q k e differ = absurd (differ ((bytes_eq-Decides q k).0 e))
other_name false q k e differ = refl

-- what members pass that all have another name
pub named_absent : (is_own : List ℕ → Bool) (q : List ℕ) → is_own q ≡ false → (ms : Members) → all_named is_own ms ≡ true → get_member q ms ≡ None
named_absent is_own q is_not no_members named = refl
named_absent is_own q is_not (member k d ms) named =
    let both = and_parts (is_own k) (all_named is_own ms) named in
    skips q k d ms (other_name (bytes_eq q k) q k refl (λ same. true≢false (sym both.0 ∙ (ap is_own (sym same) ∙ is_not))))
    ∙ named_absent is_own q is_not ms both.1

all_named-aside : (is_own : List ℕ → Bool) (p : Place) (ms : Members) → all_named is_own (members_aside p ms) ≡ all_named is_own ms
all_named-aside is_own p no_members = refl
all_named-aside is_own p (member k d ms) = ap (λ b. is_own k && b) (all_named-aside is_own p ms)

-- ---- members that a line says, with notes or without
said_parts : (n : ℕ) (ns ms : Members) → get_member reserved_name ms ≡ None → AreFineMembers (suc n) (with_notes ns ms)
    → AreFineMembers n ns × AreFineMembers (suc n) ms
said_parts n no_members ms absent h = (tt, h)
said_parts n (member k d ns) ms absent h =
    let note : Data = object (member k d ns) in (
      IsFine-get_member (suc n) reserved_name (put reserved_name note ms) note h (get_member-put reserved_name note ms),
      subst (AreFineMembers (suc n)) (without-put reserved_name note ms absent) (AreFineMembers-without (suc n) reserved_name (put reserved_name note ms) h),
    )

module _ (is_own : List ℕ → Bool) (reserved : is_own reserved_name ≡ false) (n : ℕ) (p : Place) (m : Moved) where
  pub fine_put_words : (f : Fractions) (words ms : Members) → AreFineMembers (suc n) (members_said f p m words) → all_named is_own words ≡ true
      → AreFineMembers (suc n) ms → AreFineMembers (suc n) (put_words f p m words ms)
  fine_put_words Refused words ms h named g = fine_put_all (suc n) words ms h g
  fine_put_words SetAside words ms h named g =
      let absent = named_absent is_own reserved_name reserved (members_aside p words) (all_named-aside is_own p words ∙ named) in
      let parts = said_parts n (moved_notes m p words) (members_aside p words) absent h in
      fine_put_all (suc n) (members_aside p words) (renoted p m words ms) parts.1 (fine_renoted n p m words ms parts.0 g)

pub fine_remove_word : (n : ℕ) (p : Place) (f : Fractions) (k : List ℕ) (ms : Members) → AreFineMembers (suc n) ms
    → AreFineMembers (suc n) (remove_word f p k ms)
fine_remove_word n p Refused k ms g = AreFineMembers-without (suc n) k ms g
fine_remove_word n p SetAside k ms g = AreFineMembers-without (suc n) k (unnoted p k ms) (fine_unnoted n p k ms g)

-- ---- an owner that has no notes
none_noted : (words : Members) → has_noted Elsewhere words ≡ false
none_noted no_members = refl
none_noted (member k d words) = none_noted words

pub put_words-elsewhere : (f : Fractions) (m : Moved) (words ms : Members)
    → put_words f Elsewhere m words ms ≡ put_all (members_said f Elsewhere m words) ms
put_words-elsewhere Refused m words ms = refl
put_words-elsewhere SetAside m words ms = rw (none_noted words) refl

pub all_named-elsewhere : (is_own : List ℕ → Bool) (f : Fractions) (m : Moved) (words : Members)
    → all_named is_own (members_said f Elsewhere m words) ≡ all_named is_own words
all_named-elsewhere is_own Refused m words = refl
all_named-elsewhere is_own SetAside m words = all_named-aside is_own Elsewhere words

pub remove_word-elsewhere : (f : Fractions) (k : List ℕ) (ms : Members) → remove_word f Elsewhere k ms ≡ without k ms
remove_word-elsewhere Refused k ms = refl
remove_word-elsewhere SetAside k ms = refl
