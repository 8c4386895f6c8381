-- What setting aside leaves: no fraction, and a tree without one as it is; and what putting back leaves.
use Rattle.std.proofs.Common.{◌≡◌, ℕ, suc, ◌≤◌, max, List, codes, ℤ, pos, negsuc, Option, Some, None, option_map, option_and_then, Ordering, Less, Equal}
use Rattle.std.proofs.Common.{Greater, nat_cmp, cond, Bool, true, false, ◌||◌, true≢false, Float, refl, sym, ap, ◌∙◌, arith}
use Rattle.std.specs.Prelude.{unwrap_or, if◌then◌else◌}
use Rattle.std.specs.Cmp.Lexicographic.{slice_cmp}
use Rattle.std.specs.Ordering.{match_ordering}
use Rattle.serde_json.specs.Data.{Num, unsigned, negative, float, Data, null, boolean, number, string, array, object, Items, no_items, item, Members}
use Rattle.serde_json.specs.Data.{no_members, member, put, depth, items_depth, members_depth}
use Rattle.serde_json.specs.Find.{get_member, is_float, of_integer, to_float}
use Rattle.fractions.specs.declared.place.Place.{Place}
use Rattle.fractions.specs.declared.place.Place.TheVariants.{Map, Layer, Object, Coordinate, Version, Elsewhere}
use Rattle.json_members.specs.Members.{without, put_some}
use Rattle.json_trees.specs.Names.{has_name, items_have_name, members_have_name}
use Rattle.fractions.specs.Places.{below, inside}
use Rattle.fractions.specs.Fractions.{is_fraction, has_fraction, items_have_fraction, members_have_fraction}
use Rattle.fractions.specs.Fractions.{fractions_in, fractions_in_items, fractions_in_members, HasFewFractions}
use Rattle.fractions.specs.Aside.{reserved_name, stand_in, whole_part, fraction_at, note_of, notes_of, with_notes, aside, items_aside, members_aside}
use Rattle.fractions.specs.Back.{restored, members_restored, number_in, notes_in, joined, back, items_back, members_back}
use Rattle.json_members.proofs.MembersLemmas.{same_name}
use Rattle.fractions.proofs.Law.{or_left, or_right, absent, joined_absent}

neither : (a b : Bool) → a ≡ false → b ≡ false → (a || b) ≡ false
neither true b e f = e
neither false b e f = f

-- ---- no fraction
has_fraction-stand_in : (p : Place) (x : Float) → has_fraction p (stand_in x) ≡ false
unfolding stand_in
has_fraction-stand_in Map x = refl
has_fraction-stand_in Layer x = refl
has_fraction-stand_in Object x = refl
has_fraction-stand_in Coordinate x = refl
has_fraction-stand_in Version x = refl
has_fraction-stand_in Elsewhere x = refl

integer_whole : (z : ℤ) → is_float (of_integer z) ≡ false
integer_whole (pos n) = refl
integer_whole (negsuc n) = refl

unsigned_whole : (p : Place) (n : ℕ) → is_fraction p (unsigned n) ≡ false
unsigned_whole Map n = refl
unsigned_whole Layer n = refl
unsigned_whole Object n = refl
unsigned_whole Coordinate n = refl
unsigned_whole Version n = refl
unsigned_whole Elsewhere n = refl

negative_whole : (p : Place) (z : ℤ) → is_fraction p (negative z) ≡ false
negative_whole Map z = refl
negative_whole Layer z = refl
negative_whole Object z = refl
negative_whole Coordinate z = refl
negative_whole Version z = refl
negative_whole Elsewhere z = refl

has_fraction-number : (p : Place) (x : Float) → has_fraction p (aside p (number (float x))) ≡ false
has_fraction-number Map x = has_fraction-stand_in Map x
has_fraction-number Layer x = has_fraction-stand_in Layer x
has_fraction-number Object x = has_fraction-stand_in Object x
has_fraction-number Coordinate x = integer_whole (whole_part x)
has_fraction-number Version x = refl
has_fraction-number Elsewhere x = has_fraction-stand_in Elsewhere x

members_have_fraction-put_at : (o : Ordering) (p : Place) (k l : List ℕ) (d e : Data) (ms : Members) → slice_cmp nat_cmp k l ≡ o
    → has_fraction (below p k) d ≡ false → has_fraction (below p l) e ≡ false → members_have_fraction p ms ≡ false
    → members_have_fraction p (put k d ms) ≡ false
    → members_have_fraction p (match_ordering o (member k d (member l e ms)) (member l d ms) (member l e (put k d ms))) ≡ false
members_have_fraction-put_at Less p k l d e ms is hd he h later = neither _ _ hd (neither _ _ he h)
members_have_fraction-put_at Equal p k l d e ms is hd he h later = neither _ _ (ap (λ n. has_fraction (below p n) d) (sym (same_name k l is)) ∙ hd) h
members_have_fraction-put_at Greater p k l d e ms is hd he h later = neither _ _ he later

members_have_fraction-put : (p : Place) (k : List ℕ) (d : Data) (ms : Members) → has_fraction (below p k) d ≡ false → members_have_fraction p ms ≡ false
    → members_have_fraction p (put k d ms) ≡ false
members_have_fraction-put p k d no_members hd h = neither _ _ hd refl
members_have_fraction-put p k d (member l e ms) hd h =
    let first : has_fraction (below p l) e ≡ false = or_left (has_fraction (below p l) e) (members_have_fraction p ms) h in
    let rest : members_have_fraction p ms ≡ false = or_right (has_fraction (below p l) e) (members_have_fraction p ms) h in
    members_have_fraction-put_at (slice_cmp nat_cmp k l) p k l d e ms refl hd first rest (members_have_fraction-put p k d ms hd rest)

members_have_fraction-put_some : (k : List ℕ) (o : Option Num) (ns : Members) → members_have_fraction Elsewhere ns ≡ false
    → members_have_fraction Elsewhere (put_some k (option_map (λ n. stand_in (to_float n)) o) ns) ≡ false
members_have_fraction-put_some k None ns h = h
members_have_fraction-put_some k (Some n) ns h =
    members_have_fraction-put Elsewhere k (stand_in (to_float n)) ns (has_fraction-stand_in Elsewhere (to_float n)) h

members_have_fraction-notes_of : (p : Place) (ms : Members) → members_have_fraction Elsewhere (notes_of p ms) ≡ false
members_have_fraction-notes_of Map ms = refl
members_have_fraction-notes_of Layer ms = refl
members_have_fraction-notes_of Object ms =
    members_have_fraction-put_some (codes "x") (option_and_then fraction_at (get_member (codes "x") ms)) _
    (members_have_fraction-put_some (codes "y") (option_and_then fraction_at (get_member (codes "y") ms)) _
    (members_have_fraction-put_some (codes "width") (option_and_then fraction_at (get_member (codes "width") ms)) _
    (members_have_fraction-put_some (codes "height") (option_and_then fraction_at (get_member (codes "height") ms)) no_members refl)))
members_have_fraction-notes_of Coordinate ms = refl
members_have_fraction-notes_of Version ms = refl
members_have_fraction-notes_of Elsewhere ms = refl

below-reserved_name : (p : Place) → below p reserved_name ≡ Elsewhere
below-reserved_name Map = refl
below-reserved_name Layer = refl
below-reserved_name Object = refl
below-reserved_name Coordinate = refl
below-reserved_name Version = refl
below-reserved_name Elsewhere = refl

members_have_fraction-with_notes : (p : Place) (ns ms : Members) → members_have_fraction Elsewhere ns ≡ false → members_have_fraction p ms ≡ false
    → members_have_fraction p (with_notes ns ms) ≡ false
members_have_fraction-with_notes p no_members ms hn h = h
members_have_fraction-with_notes p (member k d ns) ms hn h =
    members_have_fraction-put p reserved_name (object (member k d ns)) ms (ap (λ q. has_fraction q (object (member k d ns))) (below-reserved_name p) ∙ hn) h

mutual
  pub has_fraction-aside : (p : Place) (d : Data) → has_fraction p (aside p d) ≡ false
  has_fraction-aside p null = refl
  has_fraction-aside p (boolean b) = refl
  has_fraction-aside p (number (unsigned n)) = unsigned_whole p n
  has_fraction-aside p (number (negative z)) = negative_whole p z
  has_fraction-aside p (number (float x)) = has_fraction-number p x
  has_fraction-aside p (string s) = refl
  has_fraction-aside p (array ds) = items_have_fraction-items_aside (inside p) ds
  has_fraction-aside p (object ms) =
      members_have_fraction-with_notes p (notes_of p ms) (members_aside p ms) (members_have_fraction-notes_of p ms) (members_have_fraction-members_aside p ms)

  items_have_fraction-items_aside : (p : Place) (ds : Items) → items_have_fraction p (items_aside p ds) ≡ false
  items_have_fraction-items_aside p no_items = refl
  items_have_fraction-items_aside p (item d ds) = neither _ _ (has_fraction-aside p d) (items_have_fraction-items_aside p ds)

  pub members_have_fraction-members_aside : (p : Place) (ms : Members) → members_have_fraction p (members_aside p ms) ≡ false
  members_have_fraction-members_aside p no_members = refl
  members_have_fraction-members_aside p (member k d ms) = neither _ _ (has_fraction-aside (below p k) d) (members_have_fraction-members_aside p ms)

-- ---- where there is none, their number is 0
none_here : (b : Bool) → b ≡ false → ◌≡◌ {A = ℕ} (if b then 1 else 0) 0
none_here true e = absurd (true≢false e)
none_here false e = refl

mutual
  fractions_in-none : (p : Place) (d : Data) → has_fraction p d ≡ false → fractions_in p d ≡ 0
  fractions_in-none p null h = refl
  fractions_in-none p (boolean b) h = refl
  fractions_in-none p (number n) h = none_here (is_fraction p n) h
  fractions_in-none p (string s) h = refl
  fractions_in-none p (array ds) h = fractions_in_items-none (inside p) ds h
  fractions_in-none p (object ms) h = fractions_in_members-none p ms h

  fractions_in_items-none : (p : Place) (ds : Items) → items_have_fraction p ds ≡ false → fractions_in_items p ds ≡ 0
  fractions_in_items-none p no_items h = refl
  fractions_in_items-none p (item d ds) h =
      let first : fractions_in p d ≡ 0 = fractions_in-none p d (or_left (has_fraction p d) (items_have_fraction p ds) h) in
      let rest : fractions_in_items p ds ≡ 0 = fractions_in_items-none p ds (or_right (has_fraction p d) (items_have_fraction p ds) h) in
      rw (first, rest) refl

  fractions_in_members-none : (p : Place) (ms : Members) → members_have_fraction p ms ≡ false → fractions_in_members p ms ≡ 0
  fractions_in_members-none p no_members h = refl
  fractions_in_members-none p (member k d ms) h =
      let first : fractions_in (below p k) d ≡ 0
      = fractions_in-none (below p k) d (or_left (has_fraction (below p k) d) (members_have_fraction p ms) h) in
      let rest : fractions_in_members p ms ≡ 0
      = fractions_in_members-none p ms (or_right (has_fraction (below p k) d) (members_have_fraction p ms) h) in
      rw (first, rest) refl

pub HasFewFractions-none : (d : Data) → has_fraction Map d ≡ false → HasFewFractions d
HasFewFractions-none d h = let none : fractions_in Map d ≡ 0 = fractions_in-none Map d h in rw none (omega arith)

-- ---- what has no fraction is as it was
float_same : (p : Place) (x : Float) → is_fraction p (float x) ≡ false → aside p (number (float x)) ≡ number (float x)
float_same Map x e = absurd (true≢false e)
float_same Layer x e = absurd (true≢false e)
float_same Object x e = absurd (true≢false e)
float_same Coordinate x e = absurd (true≢false e)
float_same Version x e = refl
float_same Elsewhere x e = absurd (true≢false e)

no_fraction : (d : Data) → has_fraction Coordinate d ≡ false → fraction_at d ≡ None
no_fraction null e = refl
no_fraction (boolean b) e = refl
no_fraction (number (unsigned n)) e = refl
no_fraction (number (negative z)) e = refl
no_fraction (number (float x)) e = absurd (true≢false e)
no_fraction (string s) e = refl
no_fraction (array ds) e = refl
no_fraction (object ms) e = refl

none_at : (o : Ordering) (k l : List ℕ) (d : Data) (ms : Members) → slice_cmp nat_cmp k l ≡ o → below Object k ≡ Coordinate
    → has_fraction (below Object l) d ≡ false → option_and_then fraction_at (get_member k ms) ≡ None
    → option_and_then fraction_at (match_ordering o (get_member k ms) (Some d) (get_member k ms)) ≡ None
none_at Less k l d ms is c h later = later
none_at Equal k l d ms is c h later = no_fraction d (ap (λ q. has_fraction q d) (sym c ∙ ap (below Object) (same_name k l is)) ∙ h)
none_at Greater k l d ms is c h later = later

none_noted : (k : List ℕ) (ms : Members) → below Object k ≡ Coordinate → members_have_fraction Object ms ≡ false
    → option_and_then fraction_at (get_member k ms) ≡ None
none_noted k no_members c h = refl
none_noted k (member l d ms) c h =
    none_at (slice_cmp nat_cmp k l) k l d ms refl c (or_left (has_fraction (below Object l) d) (members_have_fraction Object ms) h)
    (none_noted k ms c (or_right (has_fraction (below Object l) d) (members_have_fraction Object ms) h))

no_note : (k : List ℕ) (ms ns : Members) → below Object k ≡ Coordinate → members_have_fraction Object ms ≡ false → put_some k (note_of k ms) ns ≡ ns
no_note k ms ns c h = ap (λ o. put_some k (option_map (λ n. stand_in (to_float n)) o) ns) (none_noted k ms c h)

no_notes : (p : Place) (ms : Members) → members_have_fraction p ms ≡ false → notes_of p ms ≡ no_members
no_notes Map ms h = refl
no_notes Layer ms h = refl
no_notes Object ms h = no_note (codes "x") ms _ refl h ∙ no_note (codes "y") ms _ refl h ∙ no_note (codes "width") ms _ refl h
    ∙ no_note (codes "height") ms no_members refl h
no_notes Coordinate ms h = refl
no_notes Version ms h = refl
no_notes Elsewhere ms h = refl

mutual
  pub aside-unchanged : (p : Place) (d : Data) → has_fraction p d ≡ false → aside p d ≡ d
  aside-unchanged p null e = refl
  aside-unchanged p (boolean b) e = refl
  aside-unchanged p (number (unsigned n)) e = refl
  aside-unchanged p (number (negative z)) e = refl
  aside-unchanged p (number (float x)) e = float_same p x e
  aside-unchanged p (string s) e = refl
  aside-unchanged p (array ds) e = ap array (items_aside-unchanged (inside p) ds e)
  aside-unchanged p (object ms) e = ap (λ ns. object (with_notes ns (members_aside p ms))) (no_notes p ms e) ∙ ap object (members_aside-unchanged p ms e)

  items_aside-unchanged : (p : Place) (ds : Items) → items_have_fraction p ds ≡ false → items_aside p ds ≡ ds
  items_aside-unchanged p no_items e = refl
  items_aside-unchanged p (item d ds) e =
      ap (λ x. item x (items_aside p ds)) (aside-unchanged p d (or_left (has_fraction p d) (items_have_fraction p ds) e))
      ∙ ap (item d) (items_aside-unchanged p ds (or_right (has_fraction p d) (items_have_fraction p ds) e))

  members_aside-unchanged : (p : Place) (ms : Members) → members_have_fraction p ms ≡ false → members_aside p ms ≡ ms
  members_aside-unchanged p no_members e = refl
  members_aside-unchanged p (member k d ms) e =
      ap (λ x. member k x (members_aside p ms)) (aside-unchanged (below p k) d (or_left (has_fraction (below p k) d) (members_have_fraction p ms) e))
      ∙ ap (member k d) (members_aside-unchanged p ms (or_right (has_fraction (below p k) d) (members_have_fraction p ms) e))

-- ---- what has no reserved name is as it was
mutual
  pub back-unchanged : (d : Data) → has_name reserved_name d ≡ false → back d ≡ d
  back-unchanged null e = refl
  back-unchanged (boolean b) e = refl
  back-unchanged (number n) e = refl
  back-unchanged (string s) e = refl
  back-unchanged (array ds) e = ap array (items_back-unchanged ds e)
  back-unchanged (object ms) e = ap joined (members_back-unchanged ms e) ∙ joined_absent ms (absent reserved_name ms e)

  items_back-unchanged : (ds : Items) → items_have_name reserved_name ds ≡ false → items_back ds ≡ ds
  items_back-unchanged no_items e = refl
  items_back-unchanged (item d ds) e =
      ap (λ x. item x (items_back ds)) (back-unchanged d (or_left (has_name reserved_name d) (items_have_name reserved_name ds) e))
      ∙ ap (item d) (items_back-unchanged ds (or_right (has_name reserved_name d) (items_have_name reserved_name ds) e))

  members_back-unchanged : (ms : Members) → members_have_name reserved_name ms ≡ false → members_back ms ≡ ms
  members_back-unchanged no_members e = refl
  members_back-unchanged (member k d ms) e =
      ap (λ x. member k x (members_back ms)) (back-unchanged d (or_right _ (has_name reserved_name d) (or_left _ (members_have_name reserved_name ms) e)))
      ∙ ap (member k d) (members_back-unchanged ms (or_right _ (members_have_name reserved_name ms) e))

-- ---- putting back makes nothing deeper
chosen_depth : (b : Bool) (n : Num) (d : Data) → depth (cond b (number n) d) ≤ depth d
chosen_depth true n d = omega arith
chosen_depth false n d = omega arith

depth-restored : (o : Option Num) (d : Data) → depth (restored o d) ≤ depth d
depth-restored None d = omega arith
depth-restored (Some n) d = chosen_depth _ n d

members_depth-members_restored : (ns ms : Members) → members_depth (members_restored ns ms) ≤ members_depth ms
members_depth-members_restored ns no_members = omega arith
members_depth-members_restored ns (member k d ms) =
    omega (arith, depth-restored (option_and_then fraction_at (get_member k ns)) d, members_depth-members_restored ns ms)

members_depth-without_at : (o : Ordering) (l : List ℕ) (d : Data) (rest ms : Members) → members_depth rest ≤ members_depth ms
    → members_depth (match_ordering o (member l d rest) rest (member l d rest)) ≤ max (depth d) (members_depth ms)
members_depth-without_at Less l d rest ms h = omega (arith, h)
members_depth-without_at Equal l d rest ms h = omega (arith, h)
members_depth-without_at Greater l d rest ms h = omega (arith, h)

members_depth-without : (k : List ℕ) (ms : Members) → members_depth (without k ms) ≤ members_depth ms
members_depth-without k no_members = omega arith
members_depth-without k (member l d ms) = members_depth-without_at (slice_cmp nat_cmp k l) l d (without k ms) ms (members_depth-without k ms)

depth-by_notes : (o : Option Members) (ms : Members)
    → depth (unwrap_or (option_map (λ ns. object (without reserved_name (members_restored ns ms))) o) (object ms)) ≤ suc (members_depth ms)
depth-by_notes None ms = omega arith
depth-by_notes (Some ns) ms = omega (arith, members_depth-without reserved_name (members_restored ns ms), members_depth-members_restored ns ms)

depth-number : (o : Option Num) (d : Data) (n : ℕ) → depth d ≤ n → depth (unwrap_or (option_map number o) d) ≤ n
depth-number None d n h = h
depth-number (Some m) d n h = omega arith

depth-joined : (ms : Members) → depth (joined ms) ≤ suc (members_depth ms)
depth-joined ms = depth-number (number_in ms) _ (suc (members_depth ms)) (depth-by_notes (notes_in ms) ms)

mutual
  pub depth-back : (d : Data) → depth (back d) ≤ depth d
  depth-back null = omega arith
  depth-back (boolean b) = omega arith
  depth-back (number n) = omega arith
  depth-back (string s) = omega arith
  depth-back (array ds) = omega (arith, items_depth-items_back ds)
  depth-back (object ms) = omega (arith, depth-joined (members_back ms), members_depth-members_back ms)

  items_depth-items_back : (ds : Items) → items_depth (items_back ds) ≤ items_depth ds
  items_depth-items_back no_items = omega arith
  items_depth-items_back (item d ds) = omega (arith, depth-back d, items_depth-items_back ds)

  members_depth-members_back : (ms : Members) → members_depth (members_back ms) ≤ members_depth ms
  members_depth-members_back no_members = omega arith
  members_depth-members_back (member k d ms) = omega (arith, depth-back d, members_depth-members_back ms)
