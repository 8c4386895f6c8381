-- Going through the members of an object that are not left out.
use Rattle.std.specs.Prelude.{◌≡◌, ℕ, List, Option, Some, None, String, string_bytes}
use Rattle.std.specs.Borrow.{Bor}
use Rattle.std.specs.Global.{Global}
use Rattle.serde_json.specs.Data.{no_members, member}
use Rattle.serde_json.specs.View.{view, members_view}
use Rattle.serde_json.specs.declared.value.Value.{Value}
use Rattle.tmx_maps.specs.declared.place.Place.{Place}
use Rattle.tmx_maps.specs.SameMap.{plain, plain_members, inner_place}

-- the members are told as the one that is found, and those behind it
abbrev pub IsNext : Place → List (String Global × Value) → Option (Bor (String Global) × Bor Value) → List (String Global × Value) → Type 0
IsNext p ms None left = plain_members p (members_view ms) ≡ no_members
IsNext p ms (Some found) left =
    plain_members p (members_view ms)
    ≡ member (string_bytes found.0.now) (plain (inner_place p (string_bytes found.0.now)) (view found.1.now)) (plain_members p (members_view left))
