-- What a store was asked.
use Rattle.std.specs.Prelude.{◌≡◌, ℕ, Bool, true, false, List, refl}
use Rattle.std.specs.Coded.{Coded, code_by, coded×, coded_ℕ, coded_bool, coded_list}
use Rattle.map_store.specs.declared.store_log.StoreCall.{StoreCall}
use Rattle.map_store.specs.declared.store_log.StoreCall.TheVariants.{Load, Store}

-- the file of this name was to be loaded, or stored
pub data Asked : Type 0 where
  loading : List ℕ → Asked
  storing : List ℕ → Asked

-- what a call asks
abbrev pub asked_of : StoreCall → Asked
asked_of (Load name) = loading name.now
asked_of (Store name) = storing name.now

-- ---- what was asked, as whether the file was to be stored, and its name
abbrev pub parts_of : Asked → Bool × List ℕ
parts_of (loading name) = (false, name)
parts_of (storing name) = (true, name)

abbrev pub asked_at : Bool → List ℕ → Asked
asked_at false name = loading name
asked_at true name = storing name

abbrev pub from_parts : Bool × List ℕ → Asked
from_parts p = asked_at p.0 p.1

pub from_parts_of : (asked : Asked) → from_parts (parts_of asked) ≡ asked
from_parts_of (loading name) = refl
from_parts_of (storing name) = refl

abbrev pub coded_asked : Coded Asked
coded_asked = code_by (Bool × List ℕ) (coded× coded_bool (coded_list coded_ℕ)) parts_of from_parts from_parts_of
