-- What a line says of a layer, with the notes of its objects where they are saved: a file can say it, no number is a float, and it
-- nests little deeper than the line.
use Rattle.std.proofs.Common.{◌≡◌, ℕ, ◌+◌, ◌≤◌, List, true, false, Float, refl, arith}
use Rattle.std.specs.Prelude.{Ok}
use Rattle.std.proofs.lemmas.Bool.{or_parts}
use Rattle.serde_json.specs.Data.{unsigned, negative, float, Data, null, boolean, number, string, array, object, Items, no_items, item, Members}
use Rattle.serde_json.specs.Data.{no_members, member, depth, items_depth, members_depth}
use Rattle.serde_json.specs.View.{view}
use Rattle.serde_json.specs.Written.{has_float, items_have_float, members_have_float}
use Rattle.serde_json.specs.declared.value.Value.{Value}
use Rattle.map_model.specs.Readable.{IsBefore, IsReadable, AreReadableItems, AreReadableMembers}
use Rattle.json_trees.specs.declared.names.TheConstants.{RESERVED_NAME}
use Rattle.json_trees.specs.Names.{has_name, items_have_name, members_have_name}
use Rattle.fractions.specs.declared.lines.Fractions.{Fractions}
use Rattle.fractions.specs.declared.lines.Fractions.TheVariants.{Refused, SetAside}
use Rattle.fractions.specs.declared.lines.Moved.{Moved}
use Rattle.fractions.specs.declared.place.Place.{Place}
use Rattle.fractions.specs.declared.place.Place.TheVariants.{Map, Layer, Object, Coordinate, Version, Elsewhere}
use Rattle.fractions.specs.Places.{below, inside, is_inner}
use Rattle.fractions.specs.Aside.{reserved_name, aside, items_aside, members_aside, notes_of}
use Rattle.fractions.specs.Lines.{items_moved, members_moved, moved_aside, moved_notes, said}
use Rattle.fractions.proofs.Law.{absent}
use Rattle.fractions.proofs.ReadTrees.{IsReadTree, AreReadItems, AreReadMembers, IsReadTree-read}
use Rattle.map_model.specs.declared.parts.MapParts.{MapParts}
use Rattle.map_json.specs.Given.{layer_said}
use Rattle.map_json.specs.Moves.{moved_in}
use Rattle.map_json.specs.Words.{IsWord, word_at}
use Rattle.map_json.specs.declared.word.TheConstants.{MAX_WORD_DEPTH}
use Rattle.map_json.proofs.Asides.{aside_lacks, float_readable, has_float-aside, inner_below, inner_inside, notes_depth, notes_readable, notes_whole}
use Rattle.map_json.proofs.Asides.{stand_in_depth, under_notes, unless, with_notes_depth, with_notes_readable, with_notes_whole, word_at-parts}
use Rattle.map_json.proofs.ReadTrees.{IsReadable-read}

-- ---- a file can say it
before_moved : (m : Moved) (p : Place) (j : List ℕ) (ms : Members) → IsBefore j ms → IsBefore j (members_moved m p ms)
before_moved m p j no_members h = tt
before_moved m p j (member k d ms) h = (h.0, before_moved m p j ms h.1)

mutual
  moved_readable : (m : Moved) (p : Place) (d : Data) → IsReadable d → IsReadTree d → IsReadable (moved_aside m p d)
  moved_readable m p null h r = tt
  moved_readable m p (boolean b) h r = tt
  moved_readable m p (number (unsigned n)) h r = h
  moved_readable m p (number (negative z)) h r = h
  moved_readable m p (number (float x)) h r = float_readable p x r.0
  moved_readable m p (string s) h r = h
  moved_readable m p (array ds) h r = moved_items_readable m (inside p) ds h r
  moved_readable m p (object ms) h r =
      with_notes_readable (moved_notes m p ms) (members_moved m p ms) (notes_readable m p ms r) (moved_members_readable m p ms h r)

  moved_items_readable : (m : Moved) (p : Place) (ds : Items) → AreReadableItems ds → AreReadItems ds → AreReadableItems (items_moved m p ds)
  moved_items_readable m p no_items h r = tt
  moved_items_readable m p (item d ds) h r = (moved_readable m p d h.0 r.0, moved_items_readable m p ds h.1 r.1)

  moved_members_readable : (m : Moved) (p : Place) (ms : Members) → AreReadableMembers ms → AreReadMembers ms → AreReadableMembers (members_moved m p ms)
  moved_members_readable m p no_members h r = tt
  moved_members_readable m p (member k d ms) h r =
      (h.0, before_moved m p k ms h.1, moved_readable m (below p k) d h.2 r.0, moved_members_readable m p ms h.3 r.2)

-- ---- no number is a float
mutual
  moved_whole : (m : Moved) (p : Place) (d : Data) → is_inner p ≡ true → has_float (moved_aside m p d) ≡ false
  moved_whole m p null h = refl
  moved_whole m p (boolean b) h = refl
  moved_whole m p (number n) h = has_float-aside p (number n) h
  moved_whole m p (string s) h = refl
  moved_whole m p (array ds) h = moved_items_whole m (inside p) ds (inner_inside p h)
  moved_whole m p (object ms) h =
      with_notes_whole (moved_notes m p ms) (members_moved m p ms) (notes_whole m p ms) (moved_members_whole m p ms h)

  moved_items_whole : (m : Moved) (p : Place) (ds : Items) → is_inner p ≡ true → items_have_float (items_moved m p ds) ≡ false
  moved_items_whole m p no_items h = refl
  moved_items_whole m p (item d ds) h = rw (moved_whole m p d h) (moved_items_whole m p ds h)

  moved_members_whole : (m : Moved) (p : Place) (ms : Members) → is_inner p ≡ true → members_have_float (members_moved m p ms) ≡ false
  moved_members_whole m p no_members h = refl
  moved_members_whole m p (member k d ms) h = rw (moved_whole m (below p k) d (inner_below p k h)) (moved_members_whole m p ms h)

-- ---- it nests little deeper
float_depth : (p : Place) (x : Float) → depth (aside p (number (float x))) ≤ 2
float_depth Map x = stand_in_depth x
float_depth Layer x = stand_in_depth x
float_depth Object x = stand_in_depth x
float_depth Coordinate x = omega arith
float_depth Version x = omega arith
float_depth Elsewhere x = stand_in_depth x

mutual
  moved_depth : (m : Moved) (p : Place) (d : Data) → depth (moved_aside m p d) ≤ depth d + 3
  moved_depth m p null = omega arith
  moved_depth m p (boolean b) = omega arith
  moved_depth m p (number (unsigned n)) = omega arith
  moved_depth m p (number (negative z)) = omega arith
  moved_depth m p (number (float x)) = let e = float_depth p x in omega (arith, e)
  moved_depth m p (string s) = omega arith
  moved_depth m p (array ds) = let e = moved_items_depth m (inside p) ds in omega (arith, e)
  moved_depth m p (object ms) =
      let deep = with_notes_depth (moved_notes m p ms) (members_moved m p ms) in
      let low = notes_depth m p ms in
      let e = moved_members_depth m p ms in
      omega (arith, deep, low, e)

  moved_items_depth : (m : Moved) (p : Place) (ds : Items) → items_depth (items_moved m p ds) ≤ items_depth ds + 3
  moved_items_depth m p no_items = omega arith
  moved_items_depth m p (item d ds) = let e = moved_depth m p d in let f = moved_items_depth m p ds in omega (arith, e, f)

  moved_members_depth : (m : Moved) (p : Place) (ms : Members) → members_depth (members_moved m p ms) ≤ members_depth ms + 3
  moved_members_depth m p no_members = omega arith
  moved_members_depth m p (member k d ms) = let e = moved_depth m (below p k) d in let f = moved_members_depth m p ms in omega (arith, e, f)

-- what has no notes yet nests no deeper than with its fractions set aside
mutual
  own_depth : (p : Place) (d : Data) → has_name reserved_name d ≡ false → depth d ≤ depth (aside p d)
  own_depth p null h = omega arith
  own_depth p (boolean b) h = omega arith
  own_depth p (number n) h = omega arith
  own_depth p (string s) h = omega arith
  own_depth p (array ds) h = let e = own_items_depth (inside p) ds h in omega (arith, e)
  own_depth p (object ms) h =
      let under = under_notes (notes_of p ms) (members_aside p ms) (aside_lacks p reserved_name ms (absent reserved_name ms h)) in
      let e = own_members_depth p ms h in
      omega (arith, under, e)

  own_items_depth : (p : Place) (ds : Items) → items_have_name reserved_name ds ≡ false → items_depth ds ≤ items_depth (items_aside p ds)
  own_items_depth p no_items h = omega arith
  own_items_depth p (item d ds) h =
      let f = or_parts (has_name reserved_name d) (items_have_name reserved_name ds) h in
      let a = own_depth p d f.0 in
      let b = own_items_depth p ds f.1 in
      omega (arith, a, b)

  own_members_depth : (p : Place) (ms : Members) → members_have_name reserved_name ms ≡ false → members_depth ms ≤ members_depth (members_aside p ms)
  own_members_depth p no_members h = omega arith
  own_members_depth p (member k d ms) h =
      let f = or_parts _ (members_have_name reserved_name ms) h in
      let g = or_parts _ (has_name reserved_name d) f.0 in
      let a = own_depth (below p k) d g.1 in
      let b = own_members_depth p ms f.1 in
      omega (arith, a, b)

-- ---- a layer that a line says
module _ (f : Fractions) (m : MapParts) (text : List ℕ) (v : Value) (e : word_at f Layer text ≡ Ok (view v)) (word : IsWord (said f Layer (view v))) where
  pub said_readable : IsReadable (layer_said f m (view v))
  said_readable = by_fractions f e word
    where
      by_fractions : (f : Fractions) → word_at f Layer text ≡ Ok (view v) → IsWord (said f Layer (view v)) → IsReadable (layer_said f m (view v))
      by_fractions Refused q is = is.readable
      by_fractions SetAside q is =
          let parts = word_at-parts SetAside Layer text (view v) q in
          moved_readable (moved_in SetAside m) Layer (view v) (IsReadable-read text v parts.0) (IsReadTree-read text (view v) parts.0)

  pub said_whole : has_float (layer_said f m (view v)) ≡ false
  said_whole = by_fractions f word
    where
      by_fractions : (f : Fractions) → IsWord (said f Layer (view v)) → has_float (layer_said f m (view v)) ≡ false
      by_fractions Refused is = is.whole
      by_fractions SetAside is = moved_whole (moved_in SetAside m) Layer (view v) refl

  pub said_shallow : depth (layer_said f m (view v)) ≤ MAX_WORD_DEPTH + 3
  said_shallow = by_fractions f e word
    where
      by_fractions : (f : Fractions) → word_at f Layer text ≡ Ok (view v) → IsWord (said f Layer (view v)) → depth (layer_said f m (view v)) ≤ MAX_WORD_DEPTH + 3
      by_fractions Refused q is = let shallow = is.shallow in omega (arith, shallow)
      by_fractions SetAside q is =
          let parts = word_at-parts SetAside Layer text (view v) q in
          let own = own_depth Layer (view v) (unless (has_name RESERVED_NAME.now (view v)) parts.1) in
          let moved = moved_depth (moved_in SetAside m) Layer (view v) in
          let shallow = is.shallow in
          omega (arith, own, moved, shallow)
