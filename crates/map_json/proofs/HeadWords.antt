-- What a head says with members of a line put in, or without one of its members: a file can say it, and it nests no deeper than it may.
use Rattle.std.proofs.Common.{◌≡◌, ◌≢◌, IsUtf8, ℕ, ◌+◌, ◌-◌, ◌≤◌, max, List, [], ◌∷◌, Bool, true, false, Option, Some, None}
use Rattle.std.proofs.Common.{Ordering, Less, Equal, Greater, nat_cmp, ℤ, pos, negsuc}
use Rattle.std.proofs.Common.{bytes_eq, true≢false, refl, sym, ap, ◌∙◌, arith}
use Rattle.std.specs.Prelude.{IfSome}
use Rattle.std.proofs.lemmas.Bool.{and_parts, or_parts}
use Rattle.std.specs.List.{list_any}
use Rattle.std.specs.Option.{option_map}
use Rattle.std.specs.Cmp.Lexicographic.{slice_cmp}
use Rattle.std.specs.Ordering.{match_ordering}
use Rattle.serde_json.specs.Data.{Data, boolean, number, string, object, Members, no_members, member, put, depth, members_depth}
use Rattle.serde_json.specs.Find.{get_member, of_integer}
use Rattle.serde_json.specs.Written.{has_float, members_have_float}
use Rattle.serde_json.proofs.Views.{get_member-put_other}
use Rattle.map_model.specs.declared.limits.TheConstants.{MAX_DEPTH}
use Rattle.map_model.specs.Keeping.{AreKept}
use Rattle.map_model.specs.Lists.{Each}
use Rattle.map_model.specs.Readable.{AreReadableMembers}
use Rattle.json_members.specs.Members.{put_all, put_some, without}
use Rattle.json_members.proofs.MembersLemmas.{stays_absent}
use Rattle.map_values.specs.Arrays.{whole_tree}
use Rattle.map_json.specs.Members.{Own, with_own}
use Rattle.map_json.specs.Words.{AreWords, IsWord, all_named}
use Rattle.map_json.specs.declared.word.TheConstants.{MAX_WORD_DEPTH}
use Rattle.map_json.proofs.Fine.{AreFineMembers}
use Rattle.map_json.proofs.FineLemmas.{AreFineMembers-read, AreFineMembers-without}
use Rattle.map_json.proofs.Lacking.{LacksAll}
use Rattle.map_json.proofs.Orders.{AreReadableMembers-put}
use Rattle.map_json.proofs.Own.{find_own-other, get_member-with_own, names, put_whole}
use Rattle.map_json.proofs.WrittenTrees.{AreReadableOwn, own_readable}

-- ---- a member put in nests as deep as it and the others do
depth_put_at : (o : Ordering) (k l : List ℕ) (d e : Data) (ms rest : Members) → members_depth rest ≤ max (depth d) (members_depth ms)
    → members_depth (match_ordering o (member k d (member l e ms)) (member l d ms) (member l e rest)) ≤ max (depth d) (max (depth e) (members_depth ms))
depth_put_at Less k l d e ms rest h = omega arith
depth_put_at Equal k l d e ms rest h = omega arith
depth_put_at Greater k l d e ms rest h = omega arith

pub members_depth-put : (k : List ℕ) (d : Data) (ms : Members) → members_depth (put k d ms) ≤ max (depth d) (members_depth ms)
members_depth-put k d no_members = omega arith
members_depth-put k d (member l e ms) = depth_put_at (slice_cmp nat_cmp k l) k l d e ms (put k d ms) (members_depth-put k d ms)

-- ---- members put in, one after another
put_all_readable : (words ms : Members) → AreReadableMembers words → AreReadableMembers ms → AreReadableMembers (put_all words ms)
put_all_readable no_members ms h g = g
put_all_readable (member k d words) ms h g = put_all_readable words (put k d ms) h.3 (AreReadableMembers-put k d ms h.0 h.2 g)

put_all_whole : (words ms : Members) → members_have_float words ≡ false → members_have_float ms ≡ false → members_have_float (put_all words ms) ≡ false
put_all_whole no_members ms h g = g
put_all_whole (member k d words) ms h g =
    let both = or_parts (has_float d) (members_have_float words) h in
    put_all_whole words (put k d ms) both.1 (put_whole k d ms both.0 g)

pub members_depth-put_all : (words ms : Members) → members_depth (put_all words ms) ≤ max (members_depth words) (members_depth ms)
members_depth-put_all no_members ms = omega arith
members_depth-put_all (member k d words) ms =
    let rest = members_depth-put_all words (put k d ms) in
    let one = members_depth-put k d ms in
    omega arith

-- a value that a line says, under a name
pub word-AreWords : (name : List ℕ) (d : Data) → IsUtf8 name → IsWord d → AreWords (member name d no_members)
word-AreWords name d utf8 is = record {
  readable = (utf8, tt, is.readable, tt);
  whole = rw is.whole refl;
  shallow = let s = is.shallow in omega arith;
}

-- the members that a line says
pub words-AreWords : (ms : Members) → IsWord (object ms) → AreWords ms
words-AreWords ms is = record { readable = is.readable; whole = is.whole; shallow = let s = is.shallow in omega arith }

-- own members that are numbers, texts and truth values: none has a fraction, and they nest no deeper
abbrev pub AreFlat : Own → Type 0
AreFlat [] = Unit {0}
AreFlat (p ∷ ps) = IfSome p.1 (λ d. (has_float d ≡ false) × (depth d ≡ 0)) × AreFlat ps

put_flat : (k : List ℕ) (o : Option Data) (ms : Members) → IfSome o (λ d. (has_float d ≡ false) × (depth d ≡ 0))
    → members_have_float ms ≡ false → (members_have_float (put_some k o ms) ≡ false) × (members_depth (put_some k o ms) ≤ members_depth ms)
put_flat k None ms h whole = (whole, omega arith)
put_flat k (Some d) ms h whole = let deep = members_depth-put k d ms in let flat = h.1 in (put_whole k d ms h.0 whole, omega arith)

own_flat : (t : Own) (ms : Members) → AreFlat t → members_have_float ms ≡ false
    → (members_have_float (with_own t ms) ≡ false) × (members_depth (with_own t ms) ≤ members_depth ms)
own_flat [] ms h whole = (whole, omega arith)
own_flat (p ∷ ps) ms h whole =
    let rest = own_flat ps ms h.1 whole in
    let more = put_flat p.0 p.1 (with_own ps ms) h.0 rest.0 in
    let a = more.1 in let b = rest.1 in (more.0, omega arith)

pub pixels_flat : (o : Option ℤ) → IfSome (option_map (λ z. number (of_integer z)) o) (λ d. (has_float d ≡ false) × (depth d ≡ 0))
pixels_flat None = tt
pixels_flat (Some (pos k)) = (refl, refl)
pixels_flat (Some (negsuc k)) = (refl, refl)

pub text_flat : (o : Option (List ℕ)) → IfSome (option_map string o) (λ d. (has_float d ≡ false) × (depth d ≡ 0))
text_flat None = tt
text_flat (Some s) = (refl, refl)

pub truth_flat : (o : Option Bool) → IfSome (option_map boolean o) (λ d. (has_float d ≡ false) × (depth d ≡ 0))
truth_flat None = tt
truth_flat (Some b) = (refl, refl)

pub gid_flat : (o : Option ℕ) → IfSome (option_map whole_tree o) (λ d. (has_float d ≡ false) × (depth d ≡ 0))
gid_flat None = tt
gid_flat (Some n) = (refl, refl)

-- ---- own members over kept ones
module _ {tier : ℕ} {unread : List (List ℕ)} (own : Own) (kept : Members) (are : AreKept tier unread kept) (readable : AreReadableOwn own)
    (flat : AreFlat own) where
  members_readable : AreReadableMembers (with_own own kept)
  members_readable = own_readable own kept readable are.readable

  -- with some put in that a line can say
  pub words_fine : (words : Members) → tier + MAX_WORD_DEPTH ≤ MAX_DEPTH → AreWords words
      → AreFineMembers (MAX_DEPTH - tier) (put_all words (with_own own kept))
  words_fine words room given =
      let plain = own_flat own kept flat are.whole in
      let own_deep = plain.1 in
      let kept_deep = are.shallow in
      let word_deep = given.shallow in
      let deep = members_depth-put_all words (with_own own kept) in
      AreFineMembers-read (MAX_DEPTH - tier) (put_all words (with_own own kept)) (put_all_readable words (with_own own kept) given.readable members_readable)
      (put_all_whole words (with_own own kept) given.whole plain.0) (omega arith)

  pub own_fine : AreFineMembers (MAX_DEPTH - tier) (with_own own kept)
  own_fine =
      let plain = own_flat own kept flat are.whole in
      let own_deep = plain.1 in
      let kept_deep = are.shallow in
      AreFineMembers-read (MAX_DEPTH - tier) (with_own own kept) members_readable plain.0 (omega arith)

  -- without one of them
  pub rest_fine : (name : List ℕ) → AreFineMembers (MAX_DEPTH - tier) (without name (with_own own kept))
  rest_fine name = AreFineMembers-without (MAX_DEPTH - tier) name (with_own own kept) own_fine

-- ---- names that members lack
-- members that a line names are none of these
pub put_all_lacks : (is_own : List ℕ → Bool) (q : List ℕ) → is_own q ≡ false → (words ms : Members) → all_named is_own words ≡ true
    → get_member q ms ≡ None → get_member q (put_all words ms) ≡ None
put_all_lacks is_own q is_not no_members ms named h = h
put_all_lacks is_own q is_not (member k d words) ms named h =
    let both = and_parts (is_own k) (all_named is_own words) named in
    let other : q ≢ k = λ same. true≢false (sym both.0 ∙ (ap is_own (sym same) ∙ is_not)) in
    put_all_lacks is_own q is_not words (put k d ms) both.1 (get_member-put_other q k d ms other ∙ h)

pub put_all_lacks_each : (is_own : List ℕ → Bool) (qs : List (List ℕ)) → Each (λ q. is_own q ≡ false) qs → (words ms : Members)
    → all_named is_own words ≡ true → LacksAll qs ms → LacksAll qs (put_all words ms)
put_all_lacks_each is_own [] is_not words ms named h = tt
put_all_lacks_each is_own (q ∷ qs) is_not words ms named h =
    (put_all_lacks is_own q is_not.0 words ms named h.0, put_all_lacks_each is_own qs is_not.1 words ms named h.1)

-- own members have other names
pub with_own_lacks_each : (own : Own) (qs : List (List ℕ)) → Each (λ q. list_any (bytes_eq q) (names own) ≡ false) qs → (kept : Members)
    → LacksAll qs kept → LacksAll qs (with_own own kept)
with_own_lacks_each own [] is_not kept h = tt
with_own_lacks_each own (q ∷ qs) is_not kept h =
    (get_member-with_own q own kept ∙ (find_own-other q own (get_member q kept) is_not.0 ∙ h.0), with_own_lacks_each own qs is_not.1 kept h.1)

pub without_lacks_each : (qs : List (List ℕ)) (name : List ℕ) (ms : Members) → LacksAll qs ms → LacksAll qs (without name ms)
without_lacks_each [] name ms h = tt
without_lacks_each (q ∷ qs) name ms h = (stays_absent q name ms h.0, without_lacks_each qs name ms h.1)
