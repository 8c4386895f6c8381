-- What is answered for bytes.
use Rattle.std.specs.Prelude.{◌≡◌, ◌⊎◌, ◌<◌, ◌≤◌, IsUtf8, ℕ, List, true, false, ◌||◌, Result, Ok, Err, Option, Some, None, is_some, Vec}
use Rattle.std.specs.Global.{Global}
use Rattle.serde_json.specs.Data.{Data, depth}
use Rattle.serde_json.specs.Read.{read, max_depth}
use Rattle.serde_json.specs.View.{view}
use Rattle.serde_json.specs.declared.value.Value.{Value}
use Rattle.json_trees.specs.Texts.{IsTreeOf}
use Rattle.infinite_maps.specs.Infinite.{is_infinite, infinite_of}
use Rattle.infinite_maps.specs.Overlaps.{has_overlap}
use Rattle.infinite_maps.specs.Sound.{has_bad_chunk}
use Rattle.infinite_maps.specs.Survey.{is_too_large}
use Rattle.tiled_maps.specs.declared.fault.Fault.{Fault}
use Rattle.tiled_maps.specs.declared.fault.Fault.TheVariants.{Memory, NotJson, NameTaken, TooManyFractions, TooDeep, BadChunk, Overlap, TooLarge, Unlike}
use Rattle.fractions.specs.declared.place.Place.TheVariants.{Map}
use Rattle.json_trees.specs.Names.{has_name}
use Rattle.fractions.specs.Fractions.{has_fraction, fractions_in, most_fractions, HasFewFractions}
use Rattle.fractions.specs.Aside.{reserved_name, set_aside_of}
use Rattle.tiled_maps.specs.Packed.{note_name, unpacked_layers, packed_cells, most_packed}
use Rattle.tiled_maps.specs.Packing.{IsPackedAs}
use Rattle.tiled_maps.specs.Trees.{HasNoFinite, IsAside, put_back_of, IsTooDeep}

-- the text that is answered for bytes: the bytes themselves if there is no other
abbrev pub text_or : List ℕ → Option (Vec ℕ Global) → List ℕ
text_or bytes None = bytes
text_or bytes (Some text) = text.items

-- The bytes have the tree d. No member in it has the reserved name, and it has few fractions. The text has the tree t, which is d
-- with its fractions set aside and made finite: put back, it is d again; it has no fraction, and is no infinite map. There is a
-- text of its own only if d has a fraction or is an infinite map.
pub record IsSetAside (bytes : List ℕ) (text : Option (Vec ℕ Global)) (d t : Data) : Type 0 where
  pub tree : IsTreeOf bytes d
  pub free : has_name reserved_name d ≡ false
  pub few : HasFewFractions d
  pub text_tree : IsTreeOf (text_or bytes text) t
  pub aside : IsAside d t
  pub put_back : put_back_of t ≡ d
  pub whole : has_fraction Map t ≡ false
  pub finite : is_infinite t ≡ false
  pub some : is_some text ≡ (has_fraction Map d || is_infinite d)

-- the bytes have the tree of an infinite map with few fractions, which is not made finite for what is so of it with these set aside
abbrev pub IsNotFinite : List ℕ → (Data → Type 0) → Type 0
IsNotFinite bytes IsSo = (d : Data) × IsTreeOf bytes d × HasFewFractions d × (is_infinite d ≡ true) × IsSo (set_aside_of d)

-- what is set aside of bytes without packed layers
abbrev pub SetsAsidePlain : List ℕ → Result (Option (Vec ℕ Global)) Fault → Type 0
SetsAsidePlain bytes (Ok text) = (d : Data) × (t : Data) × IsSetAside bytes text d t
SetsAsidePlain bytes (Err Memory) = Unit {0}
SetsAsidePlain bytes (Err NotJson) = IsUtf8 bytes → read bytes ≡ None
SetsAsidePlain bytes (Err NameTaken) = (d : Data) × IsTreeOf bytes d × (has_name reserved_name d ≡ true)
SetsAsidePlain bytes (Err TooManyFractions) = (d : Data) × IsTreeOf bytes d × (has_name reserved_name d ≡ false) × (most_fractions < fractions_in Map d)
SetsAsidePlain bytes (Err TooDeep) = (d : Data) × IsTreeOf bytes d × HasFewFractions d × IsTooDeep d
SetsAsidePlain bytes (Err BadChunk) = IsNotFinite bytes (λ a. has_bad_chunk a ≡ true)
SetsAsidePlain bytes (Err Overlap) = IsNotFinite bytes (λ a. has_overlap a ≡ true)
SetsAsidePlain bytes (Err TooLarge) = IsNotFinite bytes (λ a. is_too_large a ≡ true)
SetsAsidePlain bytes (Err Unlike) = IsNotFinite bytes HasNoFinite

-- The bytes have the tree d, in which no member has the name of a layer's note, and whose packed layers have few cells. The plain text
-- has the tree in which its packed layers are unpacked; it is that of the bytes, if that is d.
pub record IsUnpacked (bytes plain : List ℕ) (d : Data) : Type 0 where
  pub tree : IsTreeOf bytes d
  pub free : has_name note_name d ≡ false
  pub few : packed_cells d ≤ most_packed
  pub plain_tree : IsTreeOf plain (unpacked_layers d)

-- why bytes are not unpacked
abbrev pub IsNotUnpacked : List ℕ → Fault → Type 0
IsNotUnpacked bytes Memory = Unit {0}
IsNotUnpacked bytes NotJson = IsUtf8 bytes → read bytes ≡ None
IsNotUnpacked bytes NameTaken = (d : Data) × IsTreeOf bytes d × (has_name note_name d ≡ true)
IsNotUnpacked bytes TooManyFractions = ⊥
IsNotUnpacked bytes TooDeep = (d : Data) × IsTreeOf bytes d × (max_depth < depth (unpacked_layers d))
IsNotUnpacked bytes BadChunk = ⊥
IsNotUnpacked bytes Overlap = ⊥
IsNotUnpacked bytes TooLarge = (d : Data) × IsTreeOf bytes d × (most_packed < packed_cells d)
IsNotUnpacked bytes Unlike = ⊥

-- What `set_aside` answers: what is set aside of the plain text of the bytes, or that text, if it is not the bytes and nothing is.
abbrev pub SetsAside : List ℕ → Result (Option (Vec ℕ Global)) Fault → Type 0
SetsAside bytes (Ok text) = (plain : List ℕ) × (d : Data) × (own : Option (Vec ℕ Global)) × IsUnpacked bytes plain d
    × (text_or bytes text ≡ text_or plain own) × SetsAsidePlain plain (Ok own)
SetsAside bytes (Err fault) = IsNotUnpacked bytes fault ⊎ ((plain : List ℕ) × (d : Data) × IsUnpacked bytes plain d × SetsAsidePlain plain (Err fault))

-- The bytes have the tree d. The text has a tree p: the one in which what was set aside is put back, with those layers packed that
-- note how they were.
-- There is a text of its own only if a member of d has one of the names of notes.
pub record IsPutBack (bytes : List ℕ) (text : Option (Vec ℕ Global)) (d p : Data) : Type 0 where
  pub tree : IsTreeOf bytes d
  pub packed : IsPackedAs None (put_back_of d) p
  pub text_tree : IsTreeOf (text_or bytes text) p
  pub some : is_some text ≡ (has_name reserved_name d || has_name note_name d)

-- what `put_back` answers
abbrev pub PutsBack : List ℕ → Result (Option (Vec ℕ Global)) Fault → Type 0
PutsBack bytes (Ok text) = (d : Data) × (p : Data) × IsPutBack bytes text d p
PutsBack bytes (Err Memory) = Unit {0}
PutsBack bytes (Err NotJson) = IsUtf8 bytes → read bytes ≡ None
PutsBack bytes (Err NameTaken) = ⊥
PutsBack bytes (Err TooManyFractions) = ⊥
PutsBack bytes (Err TooDeep) = (d : Data) × IsTreeOf bytes d × (is_some (infinite_of d) ≡ true) × (max_depth < depth (put_back_of d))
PutsBack bytes (Err BadChunk) = ⊥
PutsBack bytes (Err Overlap) = ⊥
PutsBack bytes (Err TooLarge) = ⊥
PutsBack bytes (Err Unlike) = ⊥

-- ---- within both
-- the tree that the bytes have
abbrev pub Reads : List ℕ → Result Value Fault → Type 0
Reads bytes (Ok value) = IsTreeOf bytes (view value)
Reads bytes (Err Memory) = Unit {0}
Reads bytes (Err NotJson) = IsUtf8 bytes → read bytes ≡ None
Reads bytes (Err NameTaken) = ⊥
Reads bytes (Err TooManyFractions) = ⊥
Reads bytes (Err TooDeep) = ⊥
Reads bytes (Err BadChunk) = ⊥
Reads bytes (Err Overlap) = ⊥
Reads bytes (Err TooLarge) = ⊥
Reads bytes (Err Unlike) = ⊥

-- the same of a tree whose layers were unpacked
abbrev pub SetsAsideUnpacked : Data → Result (Option (Vec ℕ Global)) Fault → Type 0
SetsAsideUnpacked t (Ok text) = (plain : List ℕ) × (own : Option (Vec ℕ Global)) × IsTreeOf plain t
    × ((bytes : List ℕ) → text_or bytes text ≡ text_or plain own) × SetsAsidePlain plain (Ok own)
SetsAsideUnpacked t (Err fault) = (fault ≡ Memory) ⊎ ((plain : List ℕ) × IsTreeOf plain t × SetsAsidePlain plain (Err fault))
