-- Moves: exchanges of a thing that is taken out of one slot, and put into another.
use Rattle.std.specs.Prelude.{false, Option, Some, None}
use Rattle.map_model.specs.Document.{DocumentParts}
use Rattle.map_model.specs.Slot.{Slot}
use Rattle.map_model.specs.WellFormed.{IsWellFormed}
use Rattle.command_api.specs.Exchange.{Exchange}
use Rattle.command_api.specs.Names.{Names}

-- the document with a thing, where there is one, put into a slot
abbrev pub with_some : {X : Type 0} → Slot X → Option X → DocumentParts → DocumentParts
with_some s None d = d
with_some s (Some x) d = s.with_item x d

-- the document with the item of the slot s in the slot t
abbrev pub moved : {X : Type 0} → Slot X → Slot X → DocumentParts → DocumentParts
moved s t d = with_some t (s.item d) (s.without_item d)

-- the slot s is filled, and t is vacant once the item of s is out; the maps on the two sides are well formed
pub record FitsMove {X : Type 0} (s t : Slot X) (d : DocumentParts) : Type 0 where
  pub filled : s.is_filled d
  pub vacant : t.is_vacant (s.without_item d)
  pub before : IsWellFormed d.map
  pub after : IsWellFormed (moved s t d).map

-- the item of s goes into t; this is never obsolete
abbrev pub move : {X : Type 0} → Names → Slot X → Slot X → Exchange
move names s t = record { names = names; obsolete = false; made = None; exchanged = moved s t; fits = FitsMove s t }
