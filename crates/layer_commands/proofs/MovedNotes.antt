-- What a map and its layers keep, with notes moved, is what they may keep.
use Rattle.std.proofs.Common.{◌≡◌, IsUtf8, ℕ, ◌≤◌, ℤ, pos, negsuc, List, [], ◌∷◌, codes, bytes_eq, Bool, true, false, ◌||◌, Ordering, Less, Equal, Greater}
use Rattle.std.proofs.Common.{nat_cmp, Option, Some, None, option_map, refl, ◌∙◌, arith, rules}
use Rattle.std.specs.Cmp.Lexicographic.{slice_cmp}
use Rattle.std.specs.Int.{w64, int_wrapping_sub}
use Rattle.std.specs.Ordering.{match_ordering}
use Rattle.std.proofs.Math.Facts.{sfits_to_z}
use Rattle.std.proofs.lemmas.Int.{ints}
use Rattle.std.specs.Str.{chars, is_utf8}
use lib.Utf8.{encode}
use mir.Val.{SFits}
use Rattle.json_members.specs.Members.{put_some}
use Rattle.serde_json.specs.Data.{Data, number, array, object, Items, no_items, item, Members, no_members, member, depth, items_depth, members_depth}
use Rattle.serde_json.specs.Find.{get_member, of_integer}
use Rattle.serde_json.specs.Written.{has_float, items_have_float, members_have_float}
use Rattle.infinite_maps.specs.declared.margin.Margin.{Margin}
use Rattle.infinite_maps.specs.Finite.{with_whole}
use Rattle.infinite_maps.specs.Margins.{chunks_with, corner_with, each_item, edge_with, layer_with, less, map_with, note_with, notes_with, rectangle_moved, side_in}
use Rattle.infinite_maps.specs.Margins.{with_corner, with_edge, with_items, with_members, with_part}
use Rattle.infinite_maps.specs.Notes.{integer, mark}
use Rattle.infinite_maps.specs.Survey.{lost}
use Rattle.infinite_maps.proofs.Keeps.{put_some_keeps}
use Rattle.map_model.specs.declared.parts.Body.{Body}
use Rattle.map_model.specs.declared.parts.Body.TheVariants.{Tiles, Objects, Other, Group'}
use Rattle.map_model.specs.Format.{layer_names, map_names}
use Rattle.map_model.specs.Keeping.{AreKept}
use Rattle.map_model.specs.Lists.{Each}
use Rattle.map_model.specs.Readable.{IsReadable, IsReadableNumber, AreReadableItems, AreReadableMembers}
use Rattle.map_model.proofs.NewMaps.{utf8-test}
use Rattle.map_json.proofs.HeadWords.{members_depth-put}
use Rattle.map_json.proofs.Orders.{AreReadableMembers-put}
use Rattle.map_json.proofs.Own.{put_whole}

-- ---- changes of values and of members that keep what a file can say, and nest no deeper
pub record IsMild (f : Data → Data) : Type 0 where
  pub whole : (d : Data) → has_float d ≡ false → has_float (f d) ≡ false
  pub shallow : (d : Data) → depth (f d) ≤ depth d
  pub readable : (d : Data) → IsReadable d → IsReadable (f d)

pub record AreMild (g : Members → Members) : Type 0 where
  pub whole : (ms : Members) → members_have_float ms ≡ false → members_have_float (g ms) ≡ false
  pub shallow : (ms : Members) → members_depth (g ms) ≤ members_depth ms
  pub readable : (ms : Members) → AreReadableMembers ms → AreReadableMembers (g ms)

-- what all members have, the one with a name has
record IsPart (ms : Members) (d : Data) : Type 0 where
  whole : members_have_float ms ≡ false → has_float d ≡ false
  shallow : depth d ≤ members_depth ms
  readable : AreReadableMembers ms → IsReadable d

first-false : (a b : Bool) → (a || b) ≡ false → a ≡ false
first-false false b e = refl
first-false true b e = cc

rest-false : (a b : Bool) → (a || b) ≡ false → b ≡ false
rest-false false b e = e
rest-false true b e = cc

found-IsPart : (k : List ℕ) (ms : Members) (d : Data) → get_member k ms ≡ Some d → IsPart ms d
found-IsPart k no_members d e = cc
found-IsPart k (member l x ms) d e = by_order (slice_cmp nat_cmp k l) e (λ q. later (found-IsPart k ms d q))
  where
    later : IsPart ms d → IsPart (member l x ms) d
    later p = record {
      whole = λ h. p.whole (rest-false (has_float x) (members_have_float ms) h);
      shallow = let low = p.shallow in omega arith;
      readable = λ h. p.readable h.3;
    }

    here : x ≡ d → IsPart (member l x ms) d
    here is = rw (← is) (record {
      whole = first-false (has_float x) (members_have_float ms);
      shallow = omega arith;
      readable = λ h. h.2;
    })

    by_order : (o : Ordering) → match_ordering o (get_member k ms) (Some x) (get_member k ms) ≡ Some d → (get_member k ms ≡ Some d → IsPart (member l x ms) d)
        → IsPart (member l x ms) d
    by_order Less q more = more q
    by_order Equal q more = here cc
    by_order Greater q more = more q

-- ---- f of a part
module _ (k : List ℕ) (f : Data → Data) (utf8 : IsUtf8 k) (mild : IsMild f) where
  pub part-AreMild : AreMild (with_part k f)
  part-AreMild = record {
    whole = λ ms h. by_whole ms (get_member k ms) refl h;
    shallow = λ ms. by_shallow ms (get_member k ms) refl;
    readable = λ ms h. by_readable ms (get_member k ms) refl h;
  }
    where
      by_whole : (ms : Members) (o : Option Data) → get_member k ms ≡ o → members_have_float ms ≡ false
          → members_have_float (put_some k (option_map f o) ms) ≡ false
      by_whole ms None e h = h
      by_whole ms (Some d) e h = put_whole k (f d) ms (mild.whole d ((found-IsPart k ms d e).whole h)) h

      by_shallow : (ms : Members) (o : Option Data) → get_member k ms ≡ o → members_depth (put_some k (option_map f o) ms) ≤ members_depth ms
      by_shallow ms None e = omega arith
      by_shallow ms (Some d) e =
          let one = members_depth-put k (f d) ms in
          let low = mild.shallow d in
          let own = (found-IsPart k ms d e).shallow in
          omega arith

      by_readable : (ms : Members) (o : Option Data) → get_member k ms ≡ o → AreReadableMembers ms → AreReadableMembers (put_some k (option_map f o) ms)
      by_readable ms None e h = h
      by_readable ms (Some d) e h = AreReadableMembers-put k (f d) ms utf8 (mild.readable d ((found-IsPart k ms d e).readable h)) h

pub members-IsMild : (g : Members → Members) → AreMild g → IsMild (with_members g)
members-IsMild g mild = record { whole = whole; shallow = shallow; readable = readable }
  where
    whole : (d : Data) → has_float d ≡ false → has_float (with_members g d) ≡ false
    whole (object ms) h = mild.whole ms h
    whole d h = h

    shallow : (d : Data) → depth (with_members g d) ≤ depth d
    shallow (object ms) = let low = mild.shallow ms in omega arith
    shallow d = omega arith

    readable : (d : Data) → IsReadable d → IsReadable (with_members g d)
    readable (object ms) h = mild.readable ms h
    readable d h = h

pub items-IsMild : (f : Data → Data) → IsMild f → IsMild (with_items f)
items-IsMild f mild = record { whole = whole; shallow = shallow; readable = readable }
  where
    each-whole : (ds : Items) → items_have_float ds ≡ false → items_have_float (each_item f ds) ≡ false
    each-whole no_items h = h
    each-whole (item d ds) h =
        rw (mild.whole d (first-false (has_float d) (items_have_float ds) h)) (each-whole ds (rest-false (has_float d) (items_have_float ds) h))

    each-shallow : (ds : Items) → items_depth (each_item f ds) ≤ items_depth ds
    each-shallow no_items = omega arith
    each-shallow (item d ds) = let low = mild.shallow d in let later = each-shallow ds in omega arith

    each-readable : (ds : Items) → AreReadableItems ds → AreReadableItems (each_item f ds)
    each-readable no_items h = h
    each-readable (item d ds) h = (mild.readable d h.0, each-readable ds h.1)

    whole : (d : Data) → has_float d ≡ false → has_float (with_items f d) ≡ false
    whole (array ds) h = each-whole ds h
    whole d h = h

    shallow : (d : Data) → depth (with_items f d) ≤ depth d
    shallow (array ds) = let low = each-shallow ds in omega arith
    shallow d = omega arith

    readable : (d : Data) → IsReadable d → IsReadable (with_items f d)
    readable (array ds) h = each-readable ds h
    readable d h = h

-- ---- whole numbers
whole_at : (z : ℤ) → has_float (number (of_integer z)) ≡ false
whole_at (pos n) = refl
whole_at (negsuc n) = refl

wrapped-IsReadable : (a b : ℤ) → IsReadable (number (of_integer (int_wrapping_sub w64 a b)))
wrapped-IsReadable a b = by_sign (int_wrapping_sub w64 a b) (sfits_to_z (search rules))
  where
    by_sign : (z : ℤ) → SFits w64 z → IsReadableNumber (of_integer z)
    by_sign (pos n) h = omega (arith, ints, h)
    by_sign (negsuc n) h = (omega (arith, ints, h), omega (arith, ints))

natural-IsReadable : (n : ℕ) → n ≤ 4096 → IsReadable (number (of_integer (pos n)))
natural-IsReadable n h = omega (arith, h)

number-AreMild : (k : List ℕ) (z : ℤ) → IsUtf8 k → IsReadable (number (of_integer z)) → AreMild (with_whole k z)
number-AreMild k z utf8 readable = record {
  whole = λ ms h. put_whole k (number (of_integer z)) ms (whole_at z) h;
  shallow = λ ms. let one = members_depth-put k (number (of_integer z)) ms in omega arith;
  readable = λ ms h. AreReadableMembers-put k (number (of_integer z)) ms utf8 readable h;
}

both-AreMild : (f g : Members → Members) → AreMild f → AreMild g → AreMild (λ ms. f (g ms))
both-AreMild f g a b = record {
  whole = λ ms h. a.whole (g ms) (b.whole ms h);
  shallow = λ ms. let low = a.shallow (g ms) in let next = b.shallow ms in omega arith;
  readable = λ ms h. a.readable (g ms) (b.readable ms h);
}

-- ---- the names of notes
pub record AreNames : Type 0 where
  pub mark : IsUtf8 mark
  pub infinite : IsUtf8 (codes "infinite")
  pub chunks : IsUtf8 (codes "chunks")
  pub x : IsUtf8 (codes "x")
  pub y : IsUtf8 (codes "y")
  pub lostx : IsUtf8 (codes "lostx")
  pub losty : IsUtf8 (codes "losty")
  pub movedx : IsUtf8 (codes "movedx")
  pub movedy : IsUtf8 (codes "movedy")

names : AreNames
unfolding is_utf8 chars encode
names = record {
  mark = utf8-test mark refl;
  infinite = utf8-test (codes "infinite") refl;
  chunks = utf8-test (codes "chunks") refl;
  x = utf8-test (codes "x") refl;
  y = utf8-test (codes "y") refl;
  lostx = utf8-test (codes "lostx") refl;
  losty = utf8-test (codes "losty") refl;
  movedx = utf8-test (codes "movedx") refl;
  movedy = utf8-test (codes "movedy") refl;
}

-- ---- the note of a map
lost-low : (z : ℤ) (side : ℕ) → lost z side ≤ 4096
lost-low z side = omega arith

-- one side
side-AreMild : (place chunk lost_name moved : List ℕ) (cells pixels : ℕ) (note : Members) → IsUtf8 place → IsUtf8 lost_name → IsUtf8 moved
    → AreMild (with_edge place lost_name moved (edge_with place chunk moved cells pixels note))
side-AreMild place chunk lost_name moved cells pixels note a b c =
    let e = edge_with place chunk moved cells pixels note in
    both-AreMild (with_whole moved e.moved) (λ ms. with_whole lost_name (pos e.lost) (with_whole place e.place ms))
    (number-AreMild moved e.moved c (wrapped-IsReadable (integer (get_member moved note)) (pos pixels)))
    (both-AreMild (with_whole lost_name (pos e.lost)) (with_whole place e.place)
    (number-AreMild lost_name (pos e.lost) b (natural-IsReadable e.lost (lost-low (less place cells note) (side_in chunk note))))
    (number-AreMild place e.place a (wrapped-IsReadable (integer (get_member place note)) (pos cells))))

module _ (by : Margin) where
  corner-AreMild : (note : Members) → AreMild (with_corner (corner_with by note))
  corner-AreMild note =
      let c = corner_with by note in
      both-AreMild (with_edge (codes "y") (codes "losty") (codes "movedy") c.top) (with_edge (codes "x") (codes "lostx") (codes "movedx") c.left)
      (side-AreMild (codes "y") (codes "chunkheight") (codes "losty") (codes "movedy") by.rows by.down note names.y names.losty names.movedy)
      (side-AreMild (codes "x") (codes "chunkwidth") (codes "lostx") (codes "movedx") by.columns by.right note names.x names.lostx names.movedx)

  note-AreMild : AreMild (note_with by)
  note-AreMild = record {
    whole = λ ms h. (corner-AreMild ms).whole ms h;
    shallow = λ ms. (corner-AreMild ms).shallow ms;
    readable = λ ms h. (corner-AreMild ms).readable ms h;
  }

  map-AreMild : AreMild (map_with by)
  map-AreMild =
      part-AreMild mark (notes_with by) names.mark
      (members-IsMild (with_part (codes "infinite") (with_members (note_with by)))
      (part-AreMild (codes "infinite") (with_members (note_with by)) names.infinite (members-IsMild (note_with by) note-AreMild)))

  -- ---- the note of a layer
  rectangle-IsMild : IsMild (rectangle_moved by)
  rectangle-IsMild = record { whole = whole; shallow = shallow; readable = readable }
    where
      whole : (d : Data) → has_float d ≡ false → has_float (rectangle_moved by d) ≡ false
      whole (array ds) h = refl
      whole d h = h

      shallow : (d : Data) → depth (rectangle_moved by d) ≤ depth d
      shallow (array ds) = omega arith
      shallow d = omega arith

      readable : (d : Data) → IsReadable d → IsReadable (rectangle_moved by d)
      readable (array ds) h = (omega arith, (omega arith, (omega arith, (omega arith, tt))))
      readable d h = h

  layer-AreMild : AreMild (layer_with by)
  layer-AreMild =
      part-AreMild mark (chunks_with by) names.mark
      (members-IsMild (with_part (codes "chunks") (with_items (rectangle_moved by)))
      (part-AreMild (codes "chunks") (with_items (rectangle_moved by)) names.chunks (items-IsMild (rectangle_moved by) rectangle-IsMild)))

-- ---- members that are kept
-- names that are not that of the notes
abbrev AreOther : List (List ℕ) → Type 0
AreOther ns = Each (λ n. bytes_eq n mark ≡ false) ns

unread : (f : Data → Data) (ns : List (List ℕ)) (ms : Members) → AreOther ns → Each (λ n. get_member n ms ≡ None) ns
    → Each (λ n. get_member n (with_part mark f ms) ≡ None) ns
unread f [] ms other h = tt
unread f (n ∷ ns) ms other h = (put_some_keeps n mark (option_map f (get_member mark ms)) ms other.0 ∙ h.0, unread f ns ms other.1 h.1)

part-AreKept : (f : Data → Data) → AreMild (with_part mark f) → (tier : ℕ) (ns : List (List ℕ)) (ms : Members) → AreOther ns → AreKept tier ns ms
    → AreKept tier ns (with_part mark f ms)
part-AreKept f mild tier ns ms other h = record {
  unread = unread f ns ms other h.unread;
  whole = mild.whole ms h.whole;
  shallow = let low = mild.shallow ms in let room = h.shallow in omega arith;
  readable = mild.readable ms h.readable;
}

layer_names-other : (b : Body) → AreOther (layer_names b)
layer_names-other (Tiles e cells) = (refl, (refl, (refl, (refl, (refl, (refl, (refl, (refl, (refl, (refl, tt))))))))))
layer_names-other (Objects os) = (refl, (refl, (refl, (refl, (refl, (refl, tt))))))
layer_names-other Other = (refl, (refl, (refl, (refl, (refl, tt)))))
layer_names-other (Group' s r) = (refl, (refl, (refl, (refl, (refl, (refl, tt))))))

pub map_with-AreKept : (by : Margin) (tier : ℕ) (ms : Members) → AreKept tier map_names ms → AreKept tier map_names (map_with by ms)
map_with-AreKept by tier ms h =
    part-AreKept (notes_with by) (map-AreMild by) tier map_names ms
    (refl, (refl, (refl, (refl, (refl, (refl, (refl, (refl, (refl, (refl, (refl, (refl, tt)))))))))))) h

pub layer_with-AreKept : (by : Margin) (tier : ℕ) (b : Body) (ms : Members) → AreKept tier (layer_names b) ms
    → AreKept tier (layer_names b) (layer_with by ms)
layer_with-AreKept by tier b ms h = part-AreKept (chunks_with by) (layer-AreMild by) tier (layer_names b) ms (layer_names-other b) h
