-- Arrays of layers within one another: one step of reading them.
use Rattle.std.proofs.Common.{◌≡◌, ℕ, zero, suc, ◌+◌, ◌<◌, ◌≤◌, Bool, true, false, Some, None, Err, refl, arith}
use Rattle.std.specs.Prelude.{nat_le}
use Rattle.std.proofs.lemmas.Bool.{le-leb, leb-true}
use Rattle.serde_json.specs.Data.{Data, Items}
use Rattle.serde_json.specs.Events.{items_len}
use Rattle.serde_json.specs.Find.{as_array}
use Rattle.map_model.specs.declared.limits.TheConstants.{MAX_LAYERS}
use Rattle.refusals.specs.declared.map_refusal.MapRefusal.TheVariants.{MemberOfAnotherKind, OverLimit}
use Rattle.map_json.specs.declared.body.NoData.{NoData}
use Rattle.map_json.specs.Elements.{each_counted}
use Rattle.map_json.specs.Reading.{layer_by, layers_at}

module _ (no_data : NoData) (width height count : ℕ) (d : Data) where
  pub layers_at-no_array : (groups : ℕ) → as_array d ≡ None → layers_at no_data groups width height count d ≡ Err MemberOfAnotherKind
  unfolding layers_at
  layers_at-no_array zero e = rw e refl
  layers_at-no_array (suc groups) e = rw e refl

  pub layers_at-no_groups : (groups : ℕ) (ds : Items) → as_array d ≡ Some ds → groups ≡ 0 → layers_at no_data groups width height count d ≡ Err OverLimit
  unfolding layers_at
  layers_at-no_groups groups ds e none = rw (none, e) refl

  too_many : (b : Bool) (n : ℕ) → nat_le n MAX_LAYERS ≡ b → MAX_LAYERS < n → b ≡ false
  too_many true n e lt = let le = leb-true n MAX_LAYERS e in absurd (omega (arith, le, lt))
  too_many false n e lt = refl

  pub layers_at-many : (groups : ℕ) (ds : Items) → as_array d ≡ Some ds → MAX_LAYERS < count + items_len ds
      → layers_at no_data groups width height count d ≡ Err OverLimit
  unfolding layers_at
  layers_at-many zero ds e lt = rw e refl
  layers_at-many (suc groups) ds e lt = rw (e, too_many (nat_le (count + items_len ds) MAX_LAYERS) (count + items_len ds) refl lt) refl

  pub layers_at-each : (groups less : ℕ) (ds : Items) → groups ≡ suc less → as_array d ≡ Some ds → count + items_len ds ≤ MAX_LAYERS
      → layers_at no_data groups width height count d ≡ each_counted (layer_by no_data (layers_at no_data less width height) width height) (count + items_len ds) ds
  unfolding layers_at
  layers_at-each groups less ds more e le = rw (more, e, le-leb (count + items_len ds) MAX_LAYERS le) refl
