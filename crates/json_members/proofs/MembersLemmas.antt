-- Members taken out of an object, beside the entries of the map that holds them.
use Rattle.std.proofs.Common.{◌≡◌, ℕ, List, [], ◌∷◌, Option, Some, None, option_map, Ordering, Less, Equal, Greater, string_bytes, nat_cmp, is_eq, cond, Bool}
use Rattle.std.proofs.Common.{true, false, bytes_eq, true≢false, refl, sym, ap, ◌∙◌}
use Rattle.std.proofs.lemmas.Map.Text.{is_eq-slice_cmp}
use Rattle.std.specs.Cmp.Lexicographic.{slice_cmp}
use Rattle.std.specs.Map.{remove_entry, lookup}
use Rattle.std.specs.Ordering.{match_ordering}
use Rattle.std.specs.BTreeMap.{is_at}
use Rattle.serde_json.specs.Data.{Data, Members, no_members, member}
use Rattle.serde_json.specs.Find.{get_member}
use Rattle.serde_json.specs.View.{view, members_view}
use Rattle.serde_json.proofs.Views.{Entry, view-lookup}
use Rattle.std.proofs.lemmas.Slice.Eq.{bytes_eq-Decides}
use Rattle.json_members.specs.Members.{without}

gone : (o : Ordering) (k : List ℕ) (e : Entry) (es rest : List Entry) → slice_cmp nat_cmp k (string_bytes e.0) ≡ o
    → without k (members_view rest) ≡ without k (members_view es)
    → without k (members_view (cond (is_eq o) es (e ∷ rest))) ≡ without k (members_view (e ∷ es))
gone Less k e es rest is h = rw (is, h) refl
gone Equal k e es rest is h = rw is refl
gone Greater k e es rest is h = rw (is, h) refl

-- what a removal left is the members but the one of that name
without-remove_entry : (name : List ℕ) (es : List Entry)
    → without name (members_view (remove_entry (is_at (λ k. slice_cmp nat_cmp name (string_bytes k))) es)) ≡ without name (members_view es)
without-remove_entry name [] = refl
without-remove_entry name (e ∷ es) = gone (slice_cmp nat_cmp name (string_bytes e.0)) name e es _ refl (without-remove_entry name es)

without-absent_at : (o : Ordering) (k l : List ℕ) (d : Data) (ms : Members) → slice_cmp nat_cmp k l ≡ o
    → match_ordering o (get_member k ms) (Some d) (get_member k ms) ≡ None → (get_member k ms ≡ None → without k ms ≡ ms)
    → match_ordering o (member l d (without k ms)) (without k ms) (member l d (without k ms)) ≡ member l d ms
without-absent_at Less k l d ms is e later = ap (member l d) (later e)
without-absent_at Equal k l d ms is e later = absurd cc
without-absent_at Greater k l d ms is e later = ap (member l d) (later e)

pub without-absent : (k : List ℕ) (ms : Members) → get_member k ms ≡ None → without k ms ≡ ms
without-absent k no_members e = refl
without-absent k (member l d ms) e = without-absent_at (slice_cmp nat_cmp k l) k l d ms refl e (without-absent k ms)

pub members_view-removed : (name : List ℕ) (old new : List Entry) → new ≡ remove_entry (is_at (λ k. slice_cmp nat_cmp name (string_bytes k))) old
    → lookup (is_at (λ k. slice_cmp nat_cmp name (string_bytes k))) new ≡ None → members_view new ≡ without name (members_view old)
members_view-removed name old new is absent =
    let none : get_member name (members_view new) ≡ None = sym (view-lookup name new) ∙ ap (option_map view) absent in
    sym (without-absent name (members_view new) none) ∙ (ap (λ es. without name (members_view es)) is ∙ without-remove_entry name old)

either : (o : Ordering) (a b : Option Data) → is_eq o ≡ false → match_ordering o a b a ≡ a
either Less a b e = refl
either Equal a b e = absurd (true≢false e)
either Greater a b e = refl

apart : (q k : List ℕ) → bytes_eq q k ≡ false → is_eq (slice_cmp nat_cmp q k) ≡ false
apart q k e = is_eq-slice_cmp q k ∙ e

pub skips : (q k : List ℕ) (d : Data) (ms : Members) → bytes_eq q k ≡ false → get_member q (member k d ms) ≡ get_member q ms
skips q k d ms e = either (slice_cmp nat_cmp q k) _ _ (apart q k e)

pub same_name : (k l : List ℕ) → slice_cmp nat_cmp k l ≡ Equal → k ≡ l
same_name k l e = (bytes_eq-Decides k l).0 (sym (is_eq-slice_cmp k l) ∙ ap is_eq e)

get_member-without_at : (o : Ordering) (q k l : List ℕ) (d : Data) (ms : Members) → slice_cmp nat_cmp k l ≡ o → bytes_eq q k ≡ false
    → get_member q (without k ms) ≡ get_member q ms
    → get_member q (match_ordering o (member l d (without k ms)) (without k ms) (member l d (without k ms))) ≡ get_member q (member l d ms)
get_member-without_at Less q k l d ms is e later = ap (λ r. match_ordering (slice_cmp nat_cmp q l) r (Some d) r) later
get_member-without_at Equal q k l d ms is e later = later ∙ sym (skips q l d ms (rw (← same_name k l is) e))
get_member-without_at Greater q k l d ms is e later = ap (λ r. match_ordering (slice_cmp nat_cmp q l) r (Some d) r) later

-- the others keep their values
pub get_member-without : (q k : List ℕ) (ms : Members) → bytes_eq q k ≡ false → get_member q (without k ms) ≡ get_member q ms
get_member-without q k no_members e = refl
get_member-without q k (member l d ms) e = get_member-without_at _ q k l d ms refl e (get_member-without q k ms e)

get_member-without_same_at : (o : Ordering) (k l : List ℕ) (d : Data) (ms : Members) → slice_cmp nat_cmp k l ≡ o → get_member k (without k ms) ≡ None
    → get_member k (match_ordering o (member l d (without k ms)) (without k ms) (member l d (without k ms))) ≡ None
get_member-without_same_at Less k l d ms is later = rw (is, later) refl
get_member-without_same_at Equal k l d ms is later = later
get_member-without_same_at Greater k l d ms is later = rw (is, later) refl

-- what was taken out is gone
pub get_member-without_same : (k : List ℕ) (ms : Members) → get_member k (without k ms) ≡ None
get_member-without_same k no_members = refl
get_member-without_same k (member l d ms) = get_member-without_same_at _ k l d ms refl (get_member-without_same k ms)

absent_at : (b : Bool) (q k : List ℕ) (ms : Members) → bytes_eq q k ≡ b → get_member q ms ≡ None → get_member q (without k ms) ≡ None
absent_at true q k ms e h = rw ((bytes_eq-Decides q k).0 e) (get_member-without_same k ms)
absent_at false q k ms e h = get_member-without q k ms e ∙ h

pub stays_absent : (q k : List ℕ) (ms : Members) → get_member q ms ≡ None → get_member q (without k ms) ≡ None
stays_absent q k ms h = absent_at (bytes_eq q k) q k ms refl h
