-- What a store that is honest answers, and what its files are then.
use Rattle.std.specs.Prelude.{◌≡◌, ◌⊎◌, ℕ, List, None, Some, Result, Ok, Err, Vec}
use Rattle.std.specs.Global.{Global}
use Rattle.std.specs.FinMap.{get, insert}
use Rattle.map_store.specs.Files.{Files, SameOthers}
use Rattle.refusals.specs.declared.store_fault.StoreFault.{StoreFault}
use Rattle.refusals.specs.declared.store_fault.StoreFault.TheVariants.{Missing, Device, Memory}

-- loading: the file's bytes, or no such file is there; the files stay
abbrev pub Loads : List ℕ → Files → Result (Vec ℕ Global) StoreFault → Files → Type 0
Loads name old (Ok bytes) new = (get old name ≡ Some bytes.items) × (new ≡ old)
Loads name old (Err Missing) new = (get old name ≡ None) × (new ≡ old)
Loads name old (Err Device) new = new ≡ old
Loads name old (Err Memory) new = new ≡ old

-- storing: the name has these bytes; after a failure of the device that one file may hold anything or be absent
abbrev pub Stores : List ℕ → List ℕ → Files → Result (Unit {0}) StoreFault → Files → Type 0
Stores name bytes old (Ok done) new = new ≡ insert old name bytes
Stores name bytes old (Err Missing) new = ⊥
Stores name bytes old (Err Device) new = SameOthers name old new
Stores name bytes old (Err Memory) new = new ≡ old

-- under the name stands what stood there or these bytes, whole; every other file is as before
pub record IsOldOrNew (name bytes : List ℕ) (old new : Files) : Type 0 where
  pub whole : (get new name ≡ get old name) ⊎ (get new name ≡ Some bytes)
  pub others : SameOthers name old new
