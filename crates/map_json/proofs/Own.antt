-- Own members put over kept members, and taken out again.
use Rattle.std.proofs.Common.{◌≡◌, ℕ, List, [], ◌∷◌, map, Option, Some, None, Ordering, Less, Equal, Greater, nat_cmp, is_eq, cond, Bool, true, false, bytes_eq}
use Rattle.std.proofs.Common.{◌||◌, true≢false, refl, sym, ap, ◌∙◌}
use Rattle.std.specs.List.{list_any}
use Rattle.std.specs.Cmp.Lexicographic.{slice_cmp}
use Rattle.std.specs.Ordering.{match_ordering}
use Rattle.std.proofs.lemmas.Slice.Eq.{bytes_eq-Decides}
use Rattle.std.proofs.lemmas.Map.Text.{is_eq-slice_cmp}
use Rattle.std.proofs.lemmas.Bool.{false≢true, or_parts}
use Rattle.serde_json.specs.Data.{Data, Members, no_members, member, put}
use Rattle.serde_json.specs.Find.{get_member}
use Rattle.serde_json.specs.Written.{has_float, members_have_float}
use Rattle.serde_json.proofs.Views.{get_member-put, get_member-put_other}
use Rattle.json_members.specs.Members.{without, without_all, put_some}
use Rattle.map_json.specs.Members.{with_own}
use Rattle.map_json.specs.Distinctness.{are_distinct}
use Rattle.json_members.proofs.MembersLemmas.{without-absent}
use Rattle.map_json.proofs.Lacking.{LacksAll}
use Rattle.map_json.proofs.Apart.{not_and}

apart : (q k : List ℕ) → bytes_eq q k ≡ false → q ≡ k → ⊥
apart q k e same = false≢true (sym e ∙ (bytes_eq-Decides q k).1 same)

-- ---- what is there after own members were put

abbrev pub or_else : Option Data → Option Data → Option Data
or_else None d = d
or_else (Some x) d = Some x

abbrev pub find_own : List ℕ → List (List ℕ × Option Data) → Option Data → Option Data
find_own q [] d = d
find_own q (p ∷ ps) d = cond (bytes_eq q p.0) (or_else p.1 (find_own q ps d)) (find_own q ps d)

get_put_some : (b : Bool) (q k : List ℕ) (o : Option Data) (ms : Members) → bytes_eq q k ≡ b
    → get_member q (put_some k o ms) ≡ cond b (or_else o (get_member q ms)) (get_member q ms)
get_put_some true q k None ms e = refl
get_put_some false q k None ms e = refl
get_put_some true q k (Some d) ms e = let same = (bytes_eq-Decides q k).0 e in rw same (get_member-put k d ms)
get_put_some false q k (Some d) ms e = get_member-put_other q k d ms (apart q k e)

pub get_member-with_own : (q : List ℕ) (t : List (List ℕ × Option Data)) (kept : Members) → get_member q (with_own t kept) ≡ find_own q t (get_member q kept)
get_member-with_own q [] kept = refl
get_member-with_own q (p ∷ ps) kept =
    get_put_some (bytes_eq q p.0) q p.0 p.1 (with_own ps kept) refl ∙ ap (λ d. cond (bytes_eq q p.0) (or_else p.1 d) d) (get_member-with_own q ps kept)

abbrev pub names : List (List ℕ × Option Data) → List (List ℕ)
names t = map (λ p. p.0) t

other_at : (b c : Bool) (o : Option Data) (r d : Option Data) → b || c ≡ false → (c ≡ false → r ≡ d) → cond b (or_else o r) r ≡ d
other_at true c o r d h later = absurd (true≢false h)
other_at false c o r d h later = later h

pub find_own-other : (q : List ℕ) (t : List (List ℕ × Option Data)) (d : Option Data) → list_any (bytes_eq q) (names t) ≡ false → find_own q t d ≡ d
find_own-other q [] d e = refl
find_own-other q (p ∷ ps) d e = other_at (bytes_eq q p.0) _ p.1 _ d e (find_own-other q ps d)

-- ---- taken out again

itself : (k : List ℕ) → is_eq (slice_cmp nat_cmp k k) ≡ true
itself k = is_eq-slice_cmp k k ∙ (bytes_eq-Decides k k).1 refl

here : (o : Ordering) (a b : Members) → is_eq o ≡ true → match_ordering o a b a ≡ b
here Less a b e = absurd (true≢false (sym e))
here Equal a b e = refl
here Greater a b e = absurd (true≢false (sym e))

without-put_at : (o : Ordering) (k l : List ℕ) (d e : Data) (ms : Members) → slice_cmp nat_cmp k l ≡ o
    → match_ordering o (get_member k ms) (Some e) (get_member k ms) ≡ None → (get_member k ms ≡ None → without k (put k d ms) ≡ ms)
    → without k (match_ordering o (member k d (member l e ms)) (member l d ms) (member l e (put k d ms))) ≡ member l e ms
without-put_at Less k l d e ms is absent later = here (slice_cmp nat_cmp k k) _ _ (itself k) ∙ without-absent k (member l e ms) (rw is absent)
without-put_at Equal k l d e ms is absent later = absurd cc
without-put_at Greater k l d e ms is absent later = rw is (ap (member l e) (later absent))

pub without-put : (k : List ℕ) (d : Data) (ms : Members) → get_member k ms ≡ None → without k (put k d ms) ≡ ms
without-put k d no_members e = here (slice_cmp nat_cmp k k) _ _ (itself k)
without-put k d (member l e ms) absent = without-put_at (slice_cmp nat_cmp k l) k l d e ms refl absent (without-put k d ms)

without-put_some : (k : List ℕ) (o : Option Data) (ms : Members) → get_member k ms ≡ None → without k (put_some k o ms) ≡ ms
without-put_some k None ms e = without-absent k ms e
without-put_some k (Some d) ms e = without-put k d ms e

pub without_all-with_own : (t : List (List ℕ × Option Data)) (kept : Members) → are_distinct bytes_eq (names t) ≡ true → LacksAll (names t) kept
    → without_all (names t) (with_own t kept) ≡ kept
without_all-with_own [] kept e lacks = refl
without_all-with_own (p ∷ ps) kept e lacks =
    let f = not_and (list_any (bytes_eq p.0) (names ps)) (are_distinct bytes_eq (names ps)) e in
    let absent : get_member p.0 (with_own ps kept) ≡ None = get_member-with_own p.0 ps kept ∙ (find_own-other p.0 ps (get_member p.0 kept) f.0 ∙ lacks.0) in
    ap (without_all (names ps)) (without-put_some p.0 p.1 (with_own ps kept) absent) ∙ without_all-with_own ps kept f.1 lacks.1

-- ---- whole numbers

put_whole_at : (o : Ordering) (k l : List ℕ) (d e : Data) (ms : Members) → has_float d ≡ false → has_float e ≡ false → members_have_float ms ≡ false
    → members_have_float (put k d ms) ≡ false
    → members_have_float (match_ordering o (member k d (member l e ms)) (member l d ms) (member l e (put k d ms))) ≡ false
put_whole_at Less k l d e ms hd he hms later = rw (hd, he) hms
put_whole_at Equal k l d e ms hd he hms later = rw hd hms
put_whole_at Greater k l d e ms hd he hms later = rw he later

pub put_whole : (k : List ℕ) (d : Data) (ms : Members) → has_float d ≡ false → members_have_float ms ≡ false → members_have_float (put k d ms) ≡ false
put_whole k d no_members hd hms = rw hd refl
put_whole k d (member l e ms) hd hms =
    let h = or_parts (has_float e) (members_have_float ms) hms in
    put_whole_at (slice_cmp nat_cmp k l) k l d e ms hd h.0 h.1 (put_whole k d ms hd h.1)
