-- What is answered for a text that is laid out as its source is.
use Rattle.std.specs.Prelude.{◌≡◌, ◌<◌, ◌≤◌, ◌⊎◌, IsUtf8, ℕ, List, true, false, if◌then◌else◌, Result, Ok, Err, Option, Some, None}
use Rattle.serde_json.specs.Data.{Data, depth}
use Rattle.serde_json.specs.Read.{read, max_depth}
use Rattle.serde_json.specs.View.{view}
use Rattle.serde_json.specs.declared.value.Value.{Value}
use Rattle.json_trees.specs.Texts.{IsTreeOf}
use Rattle.map_layout.specs.declared.text.LaidText.{LaidText}
use Rattle.tiled_maps.specs.declared.fault.Fault.{Fault}
use Rattle.tiled_maps.specs.declared.fault.Fault.TheVariants.{Memory, NotJson, NameTaken, TooManyFractions, TooDeep, BadChunk, Overlap, TooLarge, Unlike}
use Rattle.tiled_maps.specs.Packed.{note_name, unpacked_layers, packed_cells, most_packed}
use Rattle.tiled_maps.specs.Packing.{IsPackedAs, IsKept}
use Rattle.json_trees.specs.Names.{has_name}
use Rattle.tiled_maps.specs.Sources.{is_map}
use Rattle.tiled_maps.specs.Alike.{as_in}
use Rattle.tiled_maps.specs.Trees.{put_back_of}

-- the source is the text of this map, or of no map
abbrev pub IsSource : List ℕ → Option Data → Type 0
IsSource source (Some s) = IsTreeOf source s × (is_map s ≡ true)
IsSource source None = (IsUtf8 source → read source ≡ None) ⊎ ((s : Data) × IsTreeOf source s × (is_map s ≡ false))

-- The bytes have the tree d, and the source the tree s, if it is a map. The text has a tree p, which is the one in which what was set
-- aside is put back, as the source has it, with its layers packed. Where p is the source's tree, or the source unpacks to that map, the
-- text is the source.
pub record IsPutBackLike (bytes source text : List ℕ) (d : Data) (s : Option Data) (p : Data) : Type 0 where
  pub tree : IsTreeOf bytes d
  pub source_tree : IsSource source s
  pub packed : IsPackedAs s (as_in s (put_back_of d)) p
  pub text_tree : IsTreeOf text p
  pub kept : s ≡ Some p → text ≡ source
  pub unpacked : (o : Data) → s ≡ Some o → packed_cells o ≤ most_packed → has_name note_name (as_in s (put_back_of d)) ≡ true
      → unpacked_layers o ≡ as_in s (put_back_of d) → text ≡ source

-- the text that would be answered nests too deep
abbrev pub IsTooDeepLike : List ℕ → List ℕ → Type 0
IsTooDeepLike bytes source =
    (d : Data) × (s : Option Data) × IsTreeOf bytes d × IsSource source s × (max_depth < depth (as_in s (put_back_of d)))

-- what `put_back_like` answers
abbrev pub PutsBackLike : List ℕ → List ℕ → Result LaidText Fault → Type 0
PutsBackLike bytes source (Ok laid) = (d : Data) × (s : Option Data) × (p : Data) × IsPutBackLike bytes source laid.text.items d s p
PutsBackLike bytes source (Err Memory) = Unit {0}
PutsBackLike bytes source (Err NotJson) = IsUtf8 bytes → read bytes ≡ None
PutsBackLike bytes source (Err NameTaken) = ⊥
PutsBackLike bytes source (Err TooManyFractions) = ⊥
PutsBackLike bytes source (Err TooDeep) = IsTooDeepLike bytes source
PutsBackLike bytes source (Err BadChunk) = ⊥
PutsBackLike bytes source (Err Overlap) = ⊥
PutsBackLike bytes source (Err TooLarge) = ⊥
PutsBackLike bytes source (Err Unlike) = ⊥

-- ---- by the tree of a source
-- a source, if it is a map
abbrev pub if_map : Option Data → Option Data
if_map None = None
if_map (Some s) = if is_map s then Some s else None

-- The bytes have the tree d. The tree p is the one in which what was set aside is put back, as the map s of a source has it, with its
-- layers packed. Where s unpacks to that map, p is s.
pub record IsPutBackBy (bytes : List ℕ) (d : Data) (s : Option Data) (p : Data) : Type 0 where
  pub tree : IsTreeOf bytes d
  pub packed : IsPackedAs s (as_in s (put_back_of d)) p
  pub kept : IsKept s (as_in s (put_back_of d)) p

-- what `put_back_by` answers
abbrev pub PutsBackBy : List ℕ → Option Data → Result Value Fault → Type 0
PutsBackBy bytes s (Ok value) = (d : Data) × IsPutBackBy bytes d s (view value)
PutsBackBy bytes s (Err Memory) = Unit {0}
PutsBackBy bytes s (Err NotJson) = IsUtf8 bytes → read bytes ≡ None
PutsBackBy bytes s (Err NameTaken) = ⊥
PutsBackBy bytes s (Err TooManyFractions) = ⊥
PutsBackBy bytes s (Err TooDeep) = (d : Data) × IsTreeOf bytes d × (max_depth < depth (as_in s (put_back_of d)))
PutsBackBy bytes s (Err BadChunk) = ⊥
PutsBackBy bytes s (Err Overlap) = ⊥
PutsBackBy bytes s (Err TooLarge) = ⊥
PutsBackBy bytes s (Err Unlike) = ⊥

-- ---- within both
-- the map e as the source s has it, with its layers packed
abbrev pub PutsLike : Option Data → Data → Result Value Fault → Type 0
PutsLike s e (Ok value) = IsPackedAs s (as_in s e) (view value) × IsKept s (as_in s e) (view value) × (depth (view value) ≤ max_depth)
PutsLike s e (Err Memory) = Unit {0}
PutsLike s e (Err NotJson) = ⊥
PutsLike s e (Err NameTaken) = ⊥
PutsLike s e (Err TooManyFractions) = ⊥
PutsLike s e (Err TooDeep) = max_depth < depth (as_in s e)
PutsLike s e (Err BadChunk) = ⊥
PutsLike s e (Err Overlap) = ⊥
PutsLike s e (Err TooLarge) = ⊥
PutsLike s e (Err Unlike) = ⊥

-- the tree in which what was set aside is put back
abbrev pub PutsTreeBack : List ℕ → Result Value Fault → Type 0
PutsTreeBack bytes (Ok value) = (d : Data) × IsTreeOf bytes d × (view value ≡ put_back_of d)
PutsTreeBack bytes (Err Memory) = Unit {0}
PutsTreeBack bytes (Err NotJson) = IsUtf8 bytes → read bytes ≡ None
PutsTreeBack bytes (Err NameTaken) = ⊥
PutsTreeBack bytes (Err TooManyFractions) = ⊥
PutsTreeBack bytes (Err TooDeep) = ⊥
PutsTreeBack bytes (Err BadChunk) = ⊥
PutsTreeBack bytes (Err Overlap) = ⊥
PutsTreeBack bytes (Err TooLarge) = ⊥
PutsTreeBack bytes (Err Unlike) = ⊥
