-- The document after an edit that gives a layer another group, or the map more room around it.
use Rattle.std.specs.Prelude.{ℕ, ◌+◌, suc, zero, pos, Option, None, Some, Result}
use Rattle.map_model.specs.Document.{DocumentParts}
use Rattle.edits.specs.Resizing.{after_resize}
use Rattle.fractions.specs.declared.lines.Fractions.{Fractions}
use Rattle.fractions.specs.declared.lines.Fractions.TheVariants.{Refused, SetAside}
use Rattle.layer_commands.specs.Extending.{after_margin}
use Rattle.refusals.specs.declared.edit_fault.EditFault.{EditFault}

-- the group that a line names by its id, or none by 0
abbrev pub parent_of : ℕ → Option ℕ
parent_of zero = None
parent_of (suc n) = Some (suc n)

-- the document after a resizing by which the map gets so many columns and rows at its left and top; where fractions are set aside, all of
-- a map that was infinite stays where it was on the plane
abbrev pub after_longer : Fractions → DocumentParts → ℕ → ℕ → ℕ → ℕ → Result DocumentParts EditFault
after_longer Refused d width height left top = after_resize d width height (pos left) (pos top)
after_longer SetAside d width height left top = after_margin d width height left top

-- the map gets so many columns more on its left and right, and so many rows more at its top and bottom
abbrev pub after_extend : Fractions → DocumentParts → ℕ → ℕ → ℕ → ℕ → Result DocumentParts EditFault
after_extend fractions d left top right bottom =
    after_longer fractions d (d.map.width + left + right) (d.map.height + top + bottom) left top
