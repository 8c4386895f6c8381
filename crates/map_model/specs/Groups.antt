-- Groups: layers that stand in layers.
--
-- Each definition goes down through groups within groups: `groups` tells how many may still stand inside one another. Where
-- it is 0, nothing is looked at but the layer itself.
use Rattle.std.specs.Prelude.{ℕ, zero, suc, List, [], ◌∷◌, Bool, nat_eq, if◌then◌else◌, Option, Some, None, is_some}
use Rattle.std.specs.List.{flat_map}
use Rattle.map_model.specs.declared.limits.TheConstants.{MAX_GROUPS}
use Rattle.map_model.specs.declared.parts.Body.{Body}
use Rattle.map_model.specs.declared.parts.Body.TheVariants.{Group, Group'}
use Rattle.map_model.specs.declared.parts.Body.TheOpen as seen
use Rattle.map_model.specs.declared.parts.Body.TheViews.{out-Body}
use Rattle.map_model.specs.declared.parts.Layer.{Layer}
use Rattle.map_model.specs.Keeping.{layer_tier, inner_tier}
use Rattle.map_model.specs.Lists.{change_first, first_some, or_empty}

-- ---- the layers of a group
-- those of a body, as it is seen from outside
abbrev pub layers_by : seen.Body-F Body Layer → List Layer
layers_by (seen.Group ls) = ls
layers_by b = []

-- they; another layer has no list of them
abbrev pub group_in : Body → Option (List Layer)
group_in (Group' s r) = Some (layers_by (out-Body (Group' s r)))
group_in b = None

abbrev pub group_of : Layer → Option (List Layer)
group_of l = group_in l.body

-- the layers that stand in a layer: none, where it is no group
abbrev pub inside : Layer → List Layer
inside l = or_empty (group_of l)

-- a group with f of its layers; another layer as it is
abbrev pub body_with_layers : (List Layer → List Layer) → Body → Body
body_with_layers f (Group' s r) = Group (f (layers_by (out-Body (Group' s r))))
body_with_layers f b = b

abbrev pub layer_with_layers : (List Layer → List Layer) → Layer → Layer
layer_with_layers f l = record l { body = body_with_layers f l.body }

-- a layer without those that stand in it
abbrev pub bare : Layer → Layer
bare l = layer_with_layers (λ ls. []) l

-- ---- layers in drawing order
-- a layer at this tier, and behind it those that stand in it, each with its tier and without those in it
unfoldable pub tree : ℕ → ℕ → Layer → List (ℕ × Layer)
tree zero tier l = (tier, bare l) ∷ []
tree (suc groups) tier l = (tier, bare l) ∷ flat_map (tree groups (inner_tier tier)) (inside l)

-- the layers of a list at this tier, and behind each those that stand in it, each with its tier and without those in it
abbrev pub drawn : ℕ → ℕ → List Layer → List (ℕ × Layer)
drawn groups tier ls = flat_map (tree groups tier) ls

-- all layers that stand in a map's layers
abbrev pub all_drawn : List Layer → List (ℕ × Layer)
all_drawn ls = drawn MAX_GROUPS layer_tier ls

-- ---- the layer with an id
-- whether a layer has the id
abbrev pub has_id : ℕ → Layer → Bool
has_id id l = nat_eq l.id id

-- the first layer with the id, of a layer and those that stand in it
unfoldable pub find_one : ℕ → ℕ → Layer → Option Layer
find_one id zero l = if has_id id l then Some l else None
find_one id (suc groups) l = if has_id id l then Some l else first_some (find_one id groups) (inside l)

-- the first layer with the id, of the layers of a list and those that stand in them
abbrev pub layer_among : ℕ → ℕ → List Layer → Option Layer
layer_among id groups ls = first_some (find_one id groups) ls

-- whether a layer has the id, or one that stands in it
abbrev pub holds : ℕ → ℕ → Layer → Bool
holds id groups l = is_some (find_one id groups l)

-- a layer with f of the first layer with the id in its place
unfoldable pub change_one : ℕ → ℕ → (Layer → Layer) → Layer → Layer
change_one id zero f l = if has_id id l then f l else l
change_one id (suc groups) f l = if has_id id l then f l else layer_with_layers (change_first (holds id groups) (change_one id groups f)) l

-- the layers of a list with f of the first layer with the id, among them or in one of them, in its place
abbrev pub change_among : ℕ → ℕ → (Layer → Layer) → List Layer → List Layer
change_among id groups f ls = change_first (holds id groups) (change_one id groups f) ls
