-- The facts about an answer, from what was seen of its tree.
use Rattle.std.proofs.Common.{◌≡◌, inl, inr, ℕ, zero, suc, ◌+◌, cond, option_map, ◌≤◌, ◌<◌, nat_le, leb-false, List, Bool, true, false, not, ◌||◌}
use Rattle.std.proofs.Common.{true≢false, Option, Some, None, is_some, Vec}
use Rattle.std.proofs.Common.{Global, Result, Ok, Err, refl, sym, ap, subst, ◌∙◌, arith}
use Rattle.std.proofs.lemmas.Bool.{or_right, leb-true}
use Rattle.std.specs.Prelude.{unwrap_or}
use Rattle.serde_json.specs.Data.{Data, null, boolean, number, string, array, object, Items, no_items, item, Members, depth}
use Rattle.serde_json.specs.Read.{max_depth}
use Rattle.infinite_maps.specs.Finite.{finite_of}
use Rattle.infinite_maps.specs.Infinite.{is_infinite}
use Rattle.infinite_maps.specs.Overlaps.{has_overlap}
use Rattle.infinite_maps.specs.Sound.{has_bad_chunk}
use Rattle.infinite_maps.specs.Survey.{is_too_large}
use Rattle.tiled_maps.specs.declared.fault.Fault.{Fault}
use Rattle.tiled_maps.specs.declared.fault.Fault.TheVariants.{Memory, NotJson, NameTaken, TooManyFractions, TooDeep, BadChunk, Overlap, TooLarge, Unlike}
use Rattle.fractions.specs.declared.place.Place.TheVariants.{Map}
use Rattle.json_trees.specs.Names.{has_name}
use Rattle.fractions.specs.Fractions.{has_fraction, fractions_in, most_fractions, HasFewFractions}
use Rattle.fractions.specs.Aside.{reserved_name, set_aside_of}
use Rattle.fractions.specs.Back.{back}
use Rattle.tiled_maps.specs.Trees.{put_back_of, HasNoFinite, IsFiniteOf, MakesFinite}
use Rattle.json_trees.specs.Texts.{IsTreeOf}
use Rattle.tiled_maps.specs.Texts.{IsSetAside, IsPutBack, IsNotFinite, SetsAside, SetsAsidePlain, SetsAsideUnpacked, IsUnpacked, IsNotUnpacked, text_or}
use Rattle.tiled_maps.specs.Packed.{note_name, has_packed, unpacked_layers, packed_cells, most_packed, cells_of, is_packed, object_or, any_in, sum_in, any_below}
use Rattle.tiled_maps.specs.Packed.{any_packed, own_cells, cells_in_chunks, all_cells}
use Rattle.tiled_maps.specs.Sources.{layers_in, tiers}
use Rattle.tiled_maps.specs.Packing.{MapPacked, IsPackedAs}
use Rattle.tiled_maps.proofs.Meeting.{is_infinite-set_aside_of, put_back_of-plain, put_back_of-spread, put_back_of-free}
use Rattle.fractions.proofs.Whole.{has_fraction-aside, HasFewFractions-none, aside-unchanged, back-unchanged, depth-back}
use Rattle.fractions.proofs.ReadTrees.{IsReadTree-read}

or_false : (a b : Bool) → b ≡ false → (a || b) ≡ a
or_false true b e = refl
or_false false b e = e

pub if_not : (b : Bool) → true ≡ not b → b ≡ false
if_not true e = absurd (true≢false e)
if_not false e = refl

-- what the count of fractions says
pub few_seen : (d : Data) → nat_le (fractions_in Map d) most_fractions ≡ true → HasFewFractions d
few_seen d e = leb-true (fractions_in Map d) most_fractions e

-- a map that is not infinite
IsSetAside-plain : (bytes : List ℕ) (text : Option (Vec ℕ Global)) (d : Data) → IsTreeOf bytes d → has_name reserved_name d ≡ false
    → HasFewFractions d → is_infinite d ≡ false → IsTreeOf (text_or bytes text) (set_aside_of d) → is_some text ≡ has_fraction Map d
    → IsSetAside bytes text d (set_aside_of d)
IsSetAside-plain bytes text d tree free few plain text_tree some = record {
  tree = tree;
  free = free;
  few = few;
  text_tree = text_tree;
  aside = record { plain = λ e. refl; spread = λ e. absurd (true≢false (sym e ∙ plain)) };
  put_back = put_back_of-plain d (IsReadTree-read bytes d tree.1) free;
  whole = has_fraction-aside Map d;
  finite = is_infinite-set_aside_of d ∙ plain;
  some = some ∙ sym (or_false (has_fraction Map d) (is_infinite d) plain);
}

-- a map that needs nothing
pub SetsAside-none : (bytes : List ℕ) (d : Data) → IsTreeOf bytes d → has_name reserved_name d ≡ false → has_fraction Map d ≡ false
    → is_infinite (set_aside_of d) ≡ false → IsSetAside bytes None d (set_aside_of d)
SetsAside-none bytes d tree free none plain =
    IsSetAside-plain bytes None d tree free (HasFewFractions-none d none) (sym (is_infinite-set_aside_of d) ∙ plain)
    (tree.0, tree.1 ∙ ap (λ t. Some t) (sym (aside-unchanged Map d none))) (sym none)

-- a map with a fraction
pub SetsAside-whole : (bytes : List ℕ) (text : Vec ℕ Global) (d : Data) → IsTreeOf bytes d → has_name reserved_name d ≡ false
    → HasFewFractions d → has_fraction Map d ≡ true → is_infinite (set_aside_of d) ≡ false → IsTreeOf text.items (set_aside_of d)
    → IsSetAside bytes (Some text) d (set_aside_of d)
SetsAside-whole bytes text d tree free few some plain text_tree =
    IsSetAside-plain bytes (Some text) d tree free few (sym (is_infinite-set_aside_of d) ∙ plain) text_tree (sym some)

-- an infinite map
pub SetsAside-finite : (bytes : List ℕ) (text : Vec ℕ Global) (d t : Data) → IsTreeOf bytes d → has_name reserved_name d ≡ false
    → HasFewFractions d → is_infinite (set_aside_of d) ≡ true → IsFiniteOf (set_aside_of d) t → IsTreeOf text.items t → IsSetAside bytes (Some text) d t
SetsAside-finite bytes text d t tree free few infinite finite text_tree =
    let is : is_infinite d ≡ true = sym (is_infinite-set_aside_of d) ∙ infinite in
    record {
      tree = tree;
      free = free;
      few = few;
      text_tree = text_tree;
      aside = record { plain = λ e. absurd (true≢false (sym is ∙ e)); spread = λ e. finite.spread };
      put_back = put_back_of-spread d t (IsReadTree-read bytes d tree.1) free finite.spread;
      whole = finite.whole;
      finite = finite.finite;
      some = sym (or_right (has_fraction Map d) (is_infinite d) is);
    }

-- ---- faults
infinite_fault : (bytes : List ℕ) (d a : Data) (IsSo : Data → Type 0) → IsTreeOf bytes d → HasFewFractions d → a ≡ set_aside_of d
    → (is_infinite a ≡ true) × IsSo a → IsNotFinite bytes IsSo
infinite_fault bytes d a IsSo tree few is h = (d, tree, few, sym (is_infinite-set_aside_of d) ∙ ap is_infinite (sym is) ∙ h.0, subst IsSo is h.1)

pub finite_fault : (bytes : List ℕ) (d a : Data) (fault : Fault) → IsTreeOf bytes d → HasFewFractions d → a ≡ set_aside_of d
    → MakesFinite a (Err fault) → SetsAsidePlain bytes (Err fault)
finite_fault bytes d a Memory tree few is h = tt
finite_fault bytes d a NotJson tree few is h = absurd h
finite_fault bytes d a NameTaken tree few is h = absurd h
finite_fault bytes d a TooManyFractions tree few is h = absurd h
finite_fault bytes d a TooDeep tree few is h = (d, tree, few, inr (subst (λ t. (is_infinite t ≡ true) × (max_depth < depth (finite_of t))) is h))
finite_fault bytes d a BadChunk tree few is h = infinite_fault bytes d a (λ t. has_bad_chunk t ≡ true) tree few is h
finite_fault bytes d a Overlap tree few is h = infinite_fault bytes d a (λ t. has_overlap t ≡ true) tree few is h
finite_fault bytes d a TooLarge tree few is h = infinite_fault bytes d a (λ t. is_too_large t ≡ true) tree few is h
finite_fault bytes d a Unlike tree few is h = infinite_fault bytes d a HasNoFinite tree few is h

-- ---- unpacked
pub unpacked-none : (d : Data) → has_packed d ≡ false → unpacked_layers d ≡ d
unpacked-none d e = rw e refl

same_text : (bytes plain : List ℕ) (own : Option (Vec ℕ Global)) → plain ≡ bytes → text_or bytes own ≡ text_or plain own
same_text bytes plain None e = sym e
same_text bytes plain (Some text) e = refl

-- bytes that are their own plain text
pub SetsAside-plain : (bytes : List ℕ) (d : Data) (r : Result (Option (Vec ℕ Global)) Fault) → IsUnpacked bytes bytes d → SetsAsidePlain bytes r
    → SetsAside bytes r
SetsAside-plain bytes d (Ok text) u s = (bytes, d, text, u, refl, s)
SetsAside-plain bytes d (Err fault) u s = inr (bytes, d, u, s)

-- bytes with another one
pub SetsAside-unpacked : (bytes : List ℕ) (d t : Data) (r : Result (Option (Vec ℕ Global)) Fault) → IsTreeOf bytes d → has_name note_name d ≡ false
    → packed_cells d ≤ most_packed → t ≡ unpacked_layers d → SetsAsideUnpacked t r → SetsAside bytes r
SetsAside-unpacked bytes d t (Ok text) tree free few e (plain, own, plain_tree, same, s) =
    (plain, d, own, record { tree = tree; free = free; few = few; plain_tree = subst (IsTreeOf plain) e plain_tree }, same bytes, s)
SetsAside-unpacked bytes d t (Err fault) tree free few e (inl memory) = inl (subst (IsNotUnpacked bytes) (sym memory) tt)
SetsAside-unpacked bytes d t (Err fault) tree free few e (inr (plain, plain_tree, s)) =
    inr (plain, d, record { tree = tree; free = free; few = few; plain_tree = subst (IsTreeOf plain) e plain_tree }, s)

-- ---- put back
pub neither : (a b : Bool) → (a || b) ≡ false → (a ≡ false) × (b ≡ false)
neither true b e = absurd (true≢false e)
neither false b e = (refl, e)

unnoted_packed : (u p : Data) → has_name note_name u ≡ false → p ≡ u → MapPacked (has_name note_name u) u p
unnoted_packed u p e is = rw e is

-- a tree without the names of notes
pub IsPutBack-none : (bytes : List ℕ) (d : Data) → IsTreeOf bytes d → has_name reserved_name d ≡ false → has_name note_name d ≡ false
    → IsPutBack bytes None d d
IsPutBack-none bytes d tree none unnoted = let same = put_back_of-free d none ∙ back-unchanged d none in record {
  tree = tree;
  packed = inr (unnoted_packed (put_back_of d) d (ap (has_name note_name) same ∙ unnoted) (sym same));
  text_tree = tree;
  some = rw (none, unnoted) refl;
}

-- a tree that is too deep only as it is put back was one of an infinite map
pub was_infinite : (o : Option Data) (d : Data) → depth d ≤ max_depth → max_depth < depth (back (unwrap_or o d)) → is_some o ≡ true
was_infinite None d within deep = absurd (omega (arith, depth-back d, within, deep))
was_infinite (Some t) d within deep = refl

pub deeper : (n : ℕ) → nat_le n 127 ≡ false → max_depth < n
deeper n e = leb-false n 127 e

-- a tree with one of the names
pub IsPutBack-some : (bytes : List ℕ) (text : Vec ℕ Global) (d p : Data) → IsTreeOf bytes d → (has_name reserved_name d || has_name note_name d) ≡ true
    → IsPackedAs None (put_back_of d) p → IsTreeOf text.items p → IsPutBack bytes (Some text) d p
IsPutBack-some bytes text d p tree some packed text_tree = record {
  tree = tree;
  packed = packed;
  text_tree = text_tree;
  some = sym some;
}

-- no packed layer has no packed cells
none_in : (f : Members → Bool) (g : Members → ℕ) → ((ms : Members) → f ms ≡ false → g ms ≡ 0) → (ds : Items) → any_in f ds ≡ false → sum_in g ds ≡ 0
none_in f g none no_items e = refl
none_in f g none (item d ds) e =
    let parts = neither (object_or f false d) (any_in f ds) e in
    omega (arith, none_at d parts.0, none_in f g none ds parts.1)
  where
    none_at : (d : Data) → object_or f false d ≡ false → object_or g 0 d ≡ 0
    none_at null e = refl
    none_at (boolean b) e = refl
    none_at (number n) e = refl
    none_at (string s) e = refl
    none_at (array ds) e = refl
    none_at (object ms) e = none ms e

none_among : (f : Members → Bool) (g : Members → ℕ) → ((ms : Members) → f ms ≡ false → g ms ≡ 0) → (o : Option Items)
    → unwrap_or (option_map (any_in f) o) false ≡ false → unwrap_or (option_map (sum_in g) o) 0 ≡ 0
none_among f g none None e = refl
none_among f g none (Some ds) e = none_in f g none ds e

none_of : (b : Bool) (n : ℕ) → b ≡ false → cond b n 0 ≡ 0
none_of true n e = absurd (true≢false e)
none_of false n e = refl

no_cells : (n cells : ℕ) (ms : Members) → any_packed n ms ≡ false → all_cells is_packed n cells ms ≡ 0
unfolding any_packed all_cells
no_cells zero cells ms e = refl
no_cells (suc n) cells ms e =
    let parts = neither (is_packed ms) (any_below (λ own. any_packed n own) ms) e in
    omega (
      arith,
      none_of (is_packed ms) (own_cells cells ms + cells_in_chunks ms) parts.0,
      none_among (λ own. any_packed n own) (λ own. all_cells is_packed n cells own) (no_cells n cells) (layers_in ms) parts.1,
    )

pub few_cells : (d : Data) → has_packed d ≡ false → packed_cells d ≤ most_packed
few_cells null e = omega arith
few_cells (boolean b) e = omega arith
few_cells (number n) e = omega arith
few_cells (string s) e = omega arith
few_cells (array ds) e = omega arith
few_cells (object ms) e = omega (arith, no_cells tiers (cells_of ms) ms e)
