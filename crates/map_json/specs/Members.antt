-- An owner's own members, beside the kept ones.
use Rattle.std.specs.Prelude.{ℕ, List, [], ◌∷◌, Option}
use Rattle.serde_json.specs.Data.{Data, Members}
use Rattle.json_members.specs.Members.{put_some}

-- an owner's own members: each name, and its value where the member is present
abbrev pub Own : Type 0
Own = List (List ℕ × Option Data)

-- the kept members, with the own ones that are present
abbrev pub with_own : Own → Members → Members
with_own [] kept = kept
with_own (p ∷ ps) kept = put_some p.0 p.1 (with_own ps kept)
