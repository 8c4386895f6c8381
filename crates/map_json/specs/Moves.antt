-- How much further than it stands an object of a map is saved: as the note tells by which an infinite map was made finite.
use Rattle.std.specs.Prelude.{ℤ, pos, codes, Option, option_and_then, unwrap_or}
use Rattle.serde_json.specs.Data.{Data, Members}
use Rattle.serde_json.specs.Find.{as_i64, as_number, get, get_member}
use Rattle.fractions.specs.declared.lines.Fractions.{Fractions}
use Rattle.fractions.specs.declared.lines.Fractions.TheVariants.{Refused, SetAside}
use Rattle.fractions.specs.declared.lines.Moved.{Moved}
use Rattle.fractions.specs.Lines.{unmoved}
use Rattle.json_trees.specs.declared.names.TheConstants.{RESERVED_NAME}
use Rattle.map_model.specs.declared.parts.MapParts.{MapParts}

-- the note, among the members that a map keeps
abbrev pub infinite_note : Members → Option Data
infinite_note ms = option_and_then (get (codes "infinite")) (get_member RESERVED_NAME.now ms)

-- a whole number of 64 bits that it has under a name, or 0
abbrev pub pixels : Option Data → ℤ
pixels o = unwrap_or (option_and_then as_i64 (option_and_then as_number o)) (pos 0)

-- how far objects are moved; a map has such a note only where fractions are set aside
abbrev pub moved_in : Fractions → MapParts → Moved
moved_in Refused m = unmoved
moved_in SetAside m = record {
  x = pixels (option_and_then (get (codes "movedx")) (infinite_note m.kept));
  y = pixels (option_and_then (get (codes "movedy")) (infinite_note m.kept));
}
