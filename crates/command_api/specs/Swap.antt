-- Swaps: exchanges of a part of the document and a value that is held.
use Rattle.std.specs.Prelude.{◌≡◌, Bool, true, false, Option, Some, None, IsSome}
use Rattle.map_model.specs.Document.{DocumentParts}
use Rattle.map_model.specs.Lens.{Lens, put}
use Rattle.map_model.specs.WellFormed.{IsWellFormed}
use Rattle.command_api.specs.Exchange.{Exchange}
use Rattle.command_api.specs.Names.{Names}

-- the held value is one that the document allows; it is put in, and the part's own is held
abbrev pub swap_where : {V : Type 0} → Names → Lens DocumentParts V → (DocumentParts → V → Type 0) → Bool → V → Exchange
swap_where names p Allows same held = record {
  names = names;
  obsolete = same;
  made = None;
  exchanged = put p held;
  fits = λ d. IsSome (p.get d) × Allows d held;
}

-- any held value is put in, and the part's own is held
abbrev pub swap : {V : Type 0} → Names → Lens DocumentParts V → Bool → V → Exchange
swap names p same held = record { names = names; obsolete = same; made = None; exchanged = put p held; fits = λ d. IsSome (p.get d) }

-- ---- swaps that show the value that they give
-- until it is made, a swap holds the value that it gives, and then its part has it
abbrev pub IsGiven : {V : Type 0} → Lens DocumentParts V → Bool → V → V → DocumentParts → Type 0
IsGiven p false after held d = IsSome (p.get d) × (held ≡ after)
IsGiven p true after held d = p.get d ≡ Some after

-- the held value is one that the document allows, and the maps on the two sides are well formed
pub record FitsShown {V : Type 0} (p : Lens DocumentParts V) (Allows : DocumentParts → V → Type 0) (made : Bool) (after held : V)
    (d : DocumentParts) : Type 0 where
  pub given : IsGiven p made after held d
  pub allowed : Allows d held
  pub here : IsWellFormed d.map
  pub there : IsWellFormed (put p held d).map

-- the held value is put in, and the part's own is held
abbrev pub swap_shown : {V : Type 0} → Names → Lens DocumentParts V → (DocumentParts → V → Type 0) → Bool → Bool → V → V → Exchange
swap_shown names p Allows same made after held = record {
  names = names;
  obsolete = same;
  made = Some made;
  exchanged = put p held;
  fits = FitsShown p Allows made after held;
}

-- ---- swaps that show the value from before alone
-- the well-formed document has the part, and is well formed with the value put back
pub record FitsBack {V : Type 0} (p : Lens DocumentParts V) (before : V) (d : DocumentParts) : Type 0 where
  pub well_formed : IsWellFormed d.map
  pub there : IsSome (p.get d)
  pub back : IsWellFormed (put p before d).map

-- the well-formed document has the part, and is with a value put in what the document from before is with it
pub record IsCovered {V : Type 0} (p : Lens DocumentParts V) (value : V) (before d : DocumentParts) : Type 0 where
  pub well_formed : IsWellFormed d.map
  pub there : IsSome (p.get d)
  pub same : put p value before ≡ put p value d

-- the document with the held value put in, where one is held
abbrev pub put_held : {V : Type 0} → Lens DocumentParts V → Option V → DocumentParts → DocumentParts
put_held p None d = d
put_held p (Some held) d = put p held d

-- a value is held, and fits
abbrev pub FitsHeld : {V : Type 0} → Lens DocumentParts V → Option V → DocumentParts → Type 0
FitsHeld p None d = ⊥
FitsHeld p (Some held) d = FitsBack p held d

-- the held value is put in, and the part's own is held
abbrev pub swap_held : {V : Type 0} → Names → Lens DocumentParts V → Bool → Bool → Option V → Exchange
swap_held names p same made held = record {
  names = names;
  obsolete = same;
  made = Some made;
  exchanged = put_held p held;
  fits = FitsHeld p held;
}
