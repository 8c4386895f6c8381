-- JSON of which the tree needs nothing set aside.
use Rattle.std.specs.Prelude.{unwrap_or, codes, is_some}
use Rattle.std.proofs.Common.{◌≡◌, ℕ, zero, suc, Bool, true, false, cond, ap, List, [], bytes_eq, Option, Some, None, option_map, Ordering, Less, Equal}
use Rattle.std.proofs.Common.{Greater, nat_cmp, refl, sym}
use Rattle.std.proofs.Common.{subst, option_and_then}
use Rattle.std.proofs.lemmas.Bool.{or_from}
use Rattle.std.proofs.lemmas.Slice.Eq.{bytes_eq-Decides}
use Rattle.std.specs.Cmp.Lexicographic.{slice_cmp}
use Rattle.std.specs.Ordering.{match_ordering}
use Rattle.json.specs.Json as json
use Rattle.serde_json.specs.Data.{Num, Data, null, boolean, number, string, array, object, Items, no_items, item, Members, no_members, member, put}
use Rattle.serde_json.specs.Find.{is_float, as_bool, as_str, as_array, get_member}
use Rattle.serde_json.specs.Read.{number_of, of_json, of_items, of_members}
use Rattle.infinite_maps.specs.Infinite.{is_true, is_infinite}
use Rattle.fractions.specs.declared.place.Place.{Place}
use Rattle.fractions.specs.declared.place.Place.TheVariants.{Map, Layer, Object, Coordinate, Version, Elsewhere}
use Rattle.fractions.specs.Places.{below, inside}
use Rattle.json_trees.specs.Names.{has_name, items_have_name, members_have_name}
use Rattle.fractions.specs.Fractions.{is_fraction, has_fraction, items_have_fraction, members_have_fraction}
use Rattle.fractions.specs.Aside.{reserved_name}
use Rattle.tiled_maps.specs.Look.{NeedsNothing}
use Rattle.deflate.specs.declared.frame.Frame.{Frame}
use Rattle.tiled_maps.specs.Sources.{has_text, layers_in, tiers}
use Rattle.tiled_maps.specs.Packed.{compression, note_name, frame_named, is_packed, object_or, any_in, any_below, any_packed}
use Rattle.tiled_maps.specs.Lexemes.{infinite, IsWhole, IsOwnName}
use Rattle.json_members.proofs.MembersLemmas.{same_name}

-- ---- of JSON
-- a value that a member of this name may have: `infinite` is not true, and `compression` no text but the empty one
abbrev pub Fits : List ℕ → json.Json → Type 0
Fits k json.null = Unit {0}
Fits k (json.boolean true) = k ≡ infinite → ⊥
Fits k (json.boolean false) = Unit {0}
Fits k (json.number s) = Unit {0}
Fits k (json.string s) = k ≡ compression → s ≡ []
Fits k (json.array js) = Unit {0}
Fits k (json.object ms) = Unit {0}

-- numbers are whole, no member has a name of notes, and each value fits its name
abbrev mutual
  pub IsPlain : json.Json → Type 0
  IsPlain json.null = Unit {0}
  IsPlain (json.boolean b) = Unit {0}
  IsPlain (json.number s) = IsWhole s
  IsPlain (json.string s) = Unit {0}
  IsPlain (json.array js) = ArePlainItems js
  IsPlain (json.object ms) = ArePlainMembers ms

  pub ArePlainItems : json.Items → Type 0
  ArePlainItems json.no_items = Unit {0}
  ArePlainItems (json.item j js) = IsPlain j × ArePlainItems js

  pub ArePlainMembers : json.Members → Type 0
  ArePlainMembers json.no_members = Unit {0}
  ArePlainMembers (json.member k j ms) = (IsOwnName k × Fits k j) × IsPlain j × ArePlainMembers ms

-- ---- of the tree
abbrev FitsTree : List ℕ → Data → Type 0
FitsTree k null = Unit {0}
FitsTree k (boolean true) = k ≡ infinite → ⊥
FitsTree k (boolean false) = Unit {0}
FitsTree k (number n) = Unit {0}
FitsTree k (string s) = k ≡ compression → s ≡ []
FitsTree k (array ds) = Unit {0}
FitsTree k (object ms) = Unit {0}

abbrev IsFreeName : List ℕ → Data → Type 0
IsFreeName k d = IsOwnName k × FitsTree k d

abbrev mutual
  IsFree : Data → Type 0
  IsFree null = Unit {0}
  IsFree (boolean b) = Unit {0}
  IsFree (number n) = is_float n ≡ false
  IsFree (string s) = Unit {0}
  IsFree (array ds) = AreFreeItems ds
  IsFree (object ms) = AreFreeMembers ms

  AreFreeItems : Items → Type 0
  AreFreeItems no_items = Unit {0}
  AreFreeItems (item d ds) = IsFree d × AreFreeItems ds

  AreFreeMembers : Members → Type 0
  AreFreeMembers no_members = Unit {0}
  AreFreeMembers (member k d ms) = IsFreeName k d × IsFree d × AreFreeMembers ms

abbrev If : {A : Type 0} → (A → Type 0) → Option A → Type 0
If P None = Unit {0}
If P (Some a) = P a

mapped : {A B : Type 0} (P : A → Type 0) (Q : B → Type 0) (f : A → B) → ((a : A) → P a → Q (f a)) → (o : Option A) → If P o → If Q (option_map f o)
mapped P Q f g None h = tt
mapped P Q f g (Some a) h = g a h

-- ---- a member put in
put_at : (o : Ordering) (k l : List ℕ) (d e : Data) (ms : Members) → slice_cmp nat_cmp k l ≡ o → IsFreeName k d → IsFree d → AreFreeMembers (member l e ms)
    → AreFreeMembers (put k d ms) → AreFreeMembers (match_ordering o (member k d (member l e ms)) (member l d ms) (member l e (put k d ms)))
put_at Less k l d e ms is n h all later = (n, h, all)
put_at Equal k l d e ms is n h all later = (subst (λ x. IsFreeName x d) (same_name k l is) n, h, all.2)
put_at Greater k l d e ms is n h all later = (all.0, all.1, later)

AreFreeMembers-put : (k : List ℕ) (d : Data) (ms : Members) → IsFreeName k d → IsFree d → AreFreeMembers ms → AreFreeMembers (put k d ms)
AreFreeMembers-put k d no_members n h all = (n, h, tt)
AreFreeMembers-put k d (member l e ms) n h all = put_at (slice_cmp nat_cmp k l) k l d e ms refl n h all (AreFreeMembers-put k d ms n h all.2)

-- ---- from JSON to the tree
number_free : (o : Option Num) → ((n : Num) → o ≡ Some n → is_float n ≡ false) → If IsFree (option_map number o)
number_free None h = tt
number_free (Some n) h = h n refl

fitting : (k : List ℕ) (j : json.Json) → Fits k j → If (FitsTree k) (of_json j)
fitting k json.null h = tt
fitting k (json.boolean true) h = h
fitting k (json.boolean false) h = tt
fitting k (json.number s) h = mapped (λ n. Unit {0}) (FitsTree k) number (λ n x. tt) (number_of s) (any (number_of s))
  where
    any : (o : Option Num) → If (λ n. Unit {0}) o
    any None = tt
    any (Some n) = tt
fitting k (json.string s) h = h
fitting k (json.array js) h = mapped (λ n. Unit {0}) (FitsTree k) array (λ n x. tt) (of_items js) (any (of_items js))
  where
    any : (o : Option Items) → If (λ n. Unit {0}) o
    any None = tt
    any (Some n) = tt
fitting k (json.object ms) h = mapped (λ n. Unit {0}) (FitsTree k) object (λ n x. tt) (of_members ms no_members) (any (of_members ms no_members))
  where
    any : (o : Option Members) → If (λ n. Unit {0}) o
    any None = tt
    any (Some n) = tt

joined : (o : Option Data) → If IsFree o → (p : Option Items) → If AreFreeItems p → If AreFreeItems (option_and_then (λ d. option_map (item d) p) o)
joined None h p k = tt
joined (Some d) h None k = tt
joined (Some d) h (Some ds) k = (h, k)

member_in : (o : Option Data) (k : List ℕ) (ms : json.Members) (found : Members) → IsOwnName k → If (FitsTree k) o → If IsFree o
    → AreFreeMembers found
    → ((f : Members) → AreFreeMembers f → If AreFreeMembers (of_members ms f)) → If AreFreeMembers (option_and_then (λ d. of_members ms (put k d found)) o)
member_in None k ms found n t h all later = tt
member_in (Some d) k ms found n t h all later = later (put k d found) (AreFreeMembers-put k d found (n, t) h all)

mutual
  free : (j : json.Json) → IsPlain j → If IsFree (of_json j)
  free json.null h = tt
  free (json.boolean b) h = tt
  free (json.number s) h = number_free (number_of s) h
  free (json.string s) h = tt
  free (json.array js) h = mapped AreFreeItems IsFree array (λ ds x. x) (of_items js) (free_items js h)
  free (json.object ms) h = mapped AreFreeMembers IsFree object (λ ds x. x) (of_members ms no_members) (free_members ms h no_members tt)

  free_items : (js : json.Items) → ArePlainItems js → If AreFreeItems (of_items js)
  free_items json.no_items h = tt
  free_items (json.item j js) h = joined (of_json j) (free j h.0) (of_items js) (free_items js h.1)

  free_members : (ms : json.Members) → ArePlainMembers ms → (found : Members) → AreFreeMembers found → If AreFreeMembers (of_members ms found)
  free_members json.no_members h found all = all
  free_members (json.member k j ms) h found all = member_in (of_json j) k ms found h.0.0 (fitting k j h.0.1) (free j h.1) all (free_members ms h.2)

-- ---- what such a tree has not
not_fraction : (p : Place) (n : Num) → is_float n ≡ false → is_fraction p n ≡ false
not_fraction Map n h = h
not_fraction Layer n h = h
not_fraction Object n h = h
not_fraction Coordinate n h = h
not_fraction Version n h = refl
not_fraction Elsewhere n h = h

mutual
  no_fraction : (p : Place) (d : Data) → IsFree d → has_fraction p d ≡ false
  no_fraction p null h = refl
  no_fraction p (boolean b) h = refl
  no_fraction p (number n) h = not_fraction p n h
  no_fraction p (string s) h = refl
  no_fraction p (array ds) h = items_no_fraction (inside p) ds h
  no_fraction p (object ms) h = members_no_fraction p ms h

  items_no_fraction : (p : Place) (ds : Items) → AreFreeItems ds → items_have_fraction p ds ≡ false
  items_no_fraction p no_items h = refl
  items_no_fraction p (item d ds) h = or_from _ _ (no_fraction p d h.0) (items_no_fraction p ds h.1)

  members_no_fraction : (p : Place) (ms : Members) → AreFreeMembers ms → members_have_fraction p ms ≡ false
  members_no_fraction p no_members h = refl
  members_no_fraction p (member k d ms) h = or_from _ _ (no_fraction (below p k) d h.1) (members_no_fraction p ms h.2)

other_name : (b : Bool) (k name : List ℕ) → (b ≡ true → k ≡ name) → (k ≡ name → ⊥) → b ≡ false
other_name true k name f n = absurd (n (f refl))
other_name false k name f n = refl

-- a name that none of the members has
module _ (name : List ℕ) (other : (k : List ℕ) → IsOwnName k → k ≡ name → ⊥) where
  mutual
    no_name : (d : Data) → IsFree d → has_name name d ≡ false
    no_name null h = refl
    no_name (boolean b) h = refl
    no_name (number n) h = refl
    no_name (string s) h = refl
    no_name (array ds) h = items_no_name ds h
    no_name (object ms) h = members_no_name ms h

    items_no_name : (ds : Items) → AreFreeItems ds → items_have_name name ds ≡ false
    items_no_name no_items h = refl
    items_no_name (item d ds) h = or_from _ _ (no_name d h.0) (items_no_name ds h.1)

    members_no_name : (ms : Members) → AreFreeMembers ms → members_have_name name ms ≡ false
    members_no_name no_members h = refl
    members_no_name (member k d ms) h =
        or_from _ _ (or_from _ _ (other_name (bytes_eq name k) k name (λ e. sym ((bytes_eq-Decides name k).0 e)) (other k h.0.0)) (no_name d h.1))
        (members_no_name ms h.2)

not_is_true : (d : Data) → FitsTree infinite d → is_true (as_bool d) ≡ false
not_is_true null h = refl
not_is_true (boolean true) h = absurd (h refl)
not_is_true (boolean false) h = refl
not_is_true (number n) h = refl
not_is_true (string s) h = refl
not_is_true (array ds) h = refl
not_is_true (object ms) h = refl

fits_of : (k l : List ℕ) (d : Data) → slice_cmp nat_cmp k l ≡ Equal → IsFreeName l d → FitsTree k d
fits_of k l d is n = subst (λ x. FitsTree x d) (sym (same_name k l is)) n.1

finite_at : (o : Ordering) (l : List ℕ) (d : Data) (ms : Members) → slice_cmp nat_cmp infinite l ≡ o → IsFreeName l d
    → is_true (option_and_then as_bool (get_member infinite ms)) ≡ false
    → is_true (option_and_then as_bool (match_ordering o (get_member infinite ms) (Some d) (get_member infinite ms))) ≡ false
finite_at Less l d ms is n later = later
finite_at Equal l d ms is n later = not_is_true d (fits_of infinite l d is n)
finite_at Greater l d ms is n later = later

members_finite : (ms : Members) → AreFreeMembers ms → is_true (option_and_then as_bool (get_member infinite ms)) ≡ false
members_finite no_members h = refl
members_finite (member l d ms) h = finite_at (slice_cmp nat_cmp infinite l) l d ms refl h.0 (members_finite ms h.2)

is_finite : (d : Data) → IsFree d → is_infinite d ≡ false
is_finite null h = refl
is_finite (boolean b) h = refl
is_finite (number n) h = refl
is_finite (string s) h = refl
is_finite (array ds) h = refl
is_finite (object ms) h = members_finite ms h

-- ---- no layer is packed
no_frame : (d : Data) → FitsTree compression d → option_and_then frame_named (as_str d) ≡ None
no_frame null h = refl
no_frame (boolean b) h = refl
no_frame (number n) h = refl
no_frame (string s) h = ap frame_named (h refl)
no_frame (array ds) h = refl
no_frame (object ms) h = refl

abbrev frame_in : Option Data → Option Frame
frame_in o = option_and_then frame_named (option_and_then as_str o)

frameless_at : (o : Ordering) (l : List ℕ) (d : Data) (ms : Members) → slice_cmp nat_cmp compression l ≡ o → IsFreeName l d
    → frame_in (get_member compression ms) ≡ None
    → frame_in (match_ordering o (get_member compression ms) (Some d) (get_member compression ms)) ≡ None
frameless_at Less l d ms is n later = later
frameless_at Equal l d ms is n later = no_frame d (fits_of compression l d is n)
frameless_at Greater l d ms is n later = later

frameless : (ms : Members) → AreFreeMembers ms → frame_in (get_member compression ms) ≡ None
frameless no_members h = refl
frameless (member l d ms) h = frameless_at (slice_cmp nat_cmp compression l) l d ms refl h.0 (frameless ms h.2)

no_frame_if : (b : Bool) (o : Option Frame) → o ≡ None → is_some (cond b o None) ≡ false
no_frame_if true o e = ap is_some e
no_frame_if false o e = refl

unpacked : (ms : Members) → AreFreeMembers ms → is_packed ms ≡ false
unpacked ms h = no_frame_if (has_text (codes "encoding") (codes "base64") ms) (frame_in (get_member compression ms)) (frameless ms h)

free_at : (o : Ordering) (k : List ℕ) (d : Data) (ms : Members) → IsFree d → If IsFree (get_member k ms)
    → If IsFree (match_ordering o (get_member k ms) (Some d) (get_member k ms))
free_at Less k d ms h later = later
free_at Equal k d ms h later = h
free_at Greater k d ms h later = later

get_member-free : (k : List ℕ) (ms : Members) → AreFreeMembers ms → If IsFree (get_member k ms)
get_member-free k no_members h = tt
get_member-free k (member l d ms) h = free_at (slice_cmp nat_cmp k l) k d ms h.1 (get_member-free k ms h.2)

items_free : (o : Option Data) → If IsFree o → If AreFreeItems (option_and_then as_array o)
items_free None h = tt
items_free (Some null) h = tt
items_free (Some (boolean b)) h = tt
items_free (Some (number n)) h = tt
items_free (Some (string s)) h = tt
items_free (Some (array ds)) h = h
items_free (Some (object ms)) h = tt

module _ (f : Members → Bool) (none : (ms : Members) → AreFreeMembers ms → f ms ≡ false) where
  none_at : (d : Data) → IsFree d → object_or f false d ≡ false
  none_at null h = refl
  none_at (boolean b) h = refl
  none_at (number n) h = refl
  none_at (string s) h = refl
  none_at (array ds) h = refl
  none_at (object ms) h = none ms h

  none_in : (ds : Items) → AreFreeItems ds → any_in f ds ≡ false
  none_in no_items h = refl
  none_in (item d ds) h = or_from _ _ (none_at d h.0) (none_in ds h.1)

  none_among : (o : Option Items) → If AreFreeItems o → unwrap_or (option_map (any_in f) o) false ≡ false
  none_among None h = refl
  none_among (Some ds) h = none_in ds h

  none_below : (ms : Members) → AreFreeMembers ms → any_below f ms ≡ false
  none_below ms h = none_among (layers_in ms) (items_free (get_member (codes "layers") ms) (get_member-free (codes "layers") ms h))

none_packed : (n : ℕ) (ms : Members) → AreFreeMembers ms → any_packed n ms ≡ false
unfolding any_packed
none_packed zero ms h = refl
none_packed (suc n) ms h = or_from _ _ (unpacked ms h) (none_below (λ own. any_packed n own) (λ own. none_packed n own) ms h)

pub IsPlain-NeedsNothing : (j : json.Json) (d : Data) → IsPlain j → of_json j ≡ Some d → NeedsNothing d
IsPlain-NeedsNothing j d h e =
    let f : IsFree d = subst (If IsFree) e (free j h) in
    record {
      whole = no_fraction Map d f;
      free = no_name reserved_name (λ k n. n.0) d f;
      unpacked = none_at (λ ms. any_packed tiers ms) (none_packed tiers) d f;
      unnoted = no_name note_name (λ k n. n.1) d f;
      finite = is_finite d f;
    }
