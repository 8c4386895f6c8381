-- Links: exchanges of a thing that is put in, and taken out.
use Rattle.std.specs.Prelude.{false, Option, Some, None}
use Rattle.map_model.specs.Document.{DocumentParts}
use Rattle.map_model.specs.Slot.{Slot}
use Rattle.map_model.specs.WellFormed.{IsWellFormed}
use Rattle.command_api.specs.Exchange.{Exchange}
use Rattle.command_api.specs.Names.{Names}

-- the document after a held link is put in, or, where none is held, the item is taken out
abbrev pub linked : {X : Type 0} → Slot X → Option (Option X) → DocumentParts → DocumentParts
linked s None d = s.without_item d
linked s (Some None) d = d
linked s (Some (Some x)) d = s.with_item x d

-- the slot is free for a held link, or filled where none is held
abbrev pub IsReady : {X : Type 0} → Slot X → Option (Option X) → DocumentParts → Type 0
IsReady s None d = s.is_filled d
IsReady s (Some None) d = ⊥
IsReady s (Some (Some x)) d = s.is_vacant d

-- the slot is ready for the turn, and the maps on its two sides are well formed
pub record FitsLink {X : Type 0} (s : Slot X) (held : Option (Option X)) (d : DocumentParts) : Type 0 where
  pub ready : IsReady s held d
  pub before : IsWellFormed d.map
  pub after : IsWellFormed (linked s held d).map

-- an item is held, or stands in its slot; this is never obsolete
abbrev pub link : {X : Type 0} → Names → Slot X → Option (Option X) → Exchange
link names s held = record { names = names; obsolete = false; made = None; exchanged = linked s held; fits = FitsLink s held }

-- what is held behind the turn: the item of the document, where nothing was held
abbrev pub turned_link : {X : Type 0} → Slot X → Option (Option X) → DocumentParts → Option (Option X)
turned_link s None d = Some (s.item d)
turned_link s (Some loose) d = None
