-- Commands of properties, as they are made and turned.
use Rattle.std.proofs.Common.{IsUtf8, ◌≡◌, ℕ, ◌<◌, ◌≤◌, List, length, Bool, false, Option, Some, None, IsSomeAnd, Result, Ok, Err, IfOk, option_map}
use Rattle.std.proofs.Common.{option_and_then, refl, sym, ap, ◌∙◌, subst, arith}
use Rattle.std.specs.Prelude.{◌↔◌, IsTrue}
use Rattle.std.specs.List.{slice_get}
use Rattle.std.specs.Option.{ok_or}
use Rattle.std.proofs.lemmas.Bool.{lt-ltb}
use Rattle.map_model.specs.declared.limits.TheConstants.{MAX_PROPERTIES}
use Rattle.map_model.specs.declared.owner.Owner.{Owner}
use Rattle.map_model.specs.declared.owner.Owner.TheVariants as owners
use Rattle.map_model.specs.declared.parts.MapParts.{MapParts}
use Rattle.map_model.specs.declared.parts.Property.{Property}
use Rattle.map_model.specs.declared.parts.PropValue.{PropValue}
use Rattle.map_model.specs.declared.place.OwnerPlace.{OwnerPlace}
use Rattle.map_model.specs.declared.place.OwnerPlace.TheVariants as places
use Rattle.map_model.specs.declared.setting.GivenSetting.{GivenSetting}
use Rattle.map_model.specs.declared.setting.Setting.{Setting}
use Rattle.map_model.specs.Document.{DocumentParts, with_map}
use Rattle.map_model.specs.Given.{given_setting}
use Rattle.map_model.specs.Properties.{new_property, owner_place, properties_of, property_at, property_place, property_with_setting, setting_of, setting_with}
use Rattle.map_model.specs.Properties.{with_property, IsSetting}
use Rattle.map_model.specs.PropertyLenses.{properties, setting_at, setting_place}
use Rattle.map_model.specs.WellFormed.{IsWellFormed}
use Rattle.map_model.proofs.LensLaws.{mapped}
use Rattle.map_model.proofs.PropertyKeeps.{new_property-IsProperty, with_property_at-keeps, with_setting-keeps}
use Rattle.map_model.proofs.PropertyLaws.{properties-laws}
use Rattle.map_model.proofs.StayPut.{setting_named-laws}
use Rattle.refusals.specs.declared.edit_fault.EditFault.{EditFault}
use Rattle.refusals.specs.declared.edit_fault.EditFault.TheVariants.{NoSuchLayer, NoSuchObject}
use Rattle.command_api.specs.Exchange.{change_of}
use Rattle.command_api.specs.Making.{Makes}
use Rattle.command_api.proofs.Links.{slot_in-differs}
use Rattle.command_api.proofs.Swaps.{shown_made}
use Rattle.edits.specs.PropertyEdits.{after_set_property, owner_or_fault}
use Rattle.property_commands.specs.declared.set.PropertySet.{PropertySet}
use Rattle.property_commands.specs.declared.set.SetKind.{SetKind}
use Rattle.property_commands.specs.declared.set.SetKind.TheVariants.{Replace, Add}
use Rattle.property_commands.specs.PropertyChanges.{AllowsSetting, property_set_change, set_kind_exchange}
use Rattle.property_commands.specs.Names.{set_property_names}
use Rattle.property_commands.proofs.Settings.{setting_named-get, setting-put}

-- the type and the value at a place, as a part reads them
pub setting_at-get : (d : DocumentParts) (owner : OwnerPlace) (at : ℕ) (s : Setting) → option_map setting_of (property_at d.map owner at) ≡ Some s
    → (setting_at owner at).get d ≡ Some s
setting_at-get d owner at s e = by_list (properties_of d.map owner) e
  where
    by_list : (o : Option (List Property)) → option_map setting_of (option_and_then (λ ps. slice_get ps at) o) ≡ Some s
        → option_and_then (λ ps. option_and_then (λ p. Some (setting_of p)) (slice_get ps at)) o ≡ Some s
    by_list None q = cc
    by_list (Some ps) q = mapped setting_of (slice_get ps at) s q

-- ---- a command that is made
-- what holds of the command that is wanted holds of the one that is made
pub made-as : (P : PropertySet → Type 0) (r : Result PropertySet EditFault) (c : PropertySet) → IfOk r (λ made. made ≡ c) → P c → IfOk r P
made-as P (Ok made) c e h = subst P (sym e) h
made-as P (Err fault) c e h = tt

given_place : (o : Option OwnerPlace) (fault : EditFault) (place : OwnerPlace) → ok_or o fault ≡ Ok place → o ≡ Some place
given_place None fault place e = cc
given_place (Some own) fault place e = let is : own ≡ place = cc in ap Some is

-- an owner that is no fault stands at its place
pub owner-there : (m : MapParts) (owner : Owner) (place : OwnerPlace) → owner_or_fault m owner ≡ Ok place → owner_place m owner ≡ Some place
owner-there m owners.Map place e = let is : places.Map ≡ place = cc in ap Some is
owner-there m (owners.Layer id) place e = given_place (owner_place m (owners.Layer id)) NoSuchLayer place e
owner-there m (owners.Object id) place e = given_place (owner_place m (owners.Object id)) NoSuchObject place e

module _ (d : DocumentParts) (owner : Owner) (name kind : List ℕ) (value : PropValue) (follows : Bool) (place : OwnerPlace)
    (found : owner_or_fault d.map owner ≡ Ok place) (h : IsWellFormed d.map) where
  -- what is shown is what is given
  made-shown : (at : ℕ) (how : SetKind) (shown : GivenSetting) → given_setting shown ≡ setting_with kind value
      → Makes (set_property_names owner name follows) d (after_set_property d owner name kind value)
      (change_of (set_kind_exchange (set_property_names owner name follows) owner name place at (setting_with kind value) how))
      → Makes (set_property_names owner name follows) d (after_set_property d owner name kind value)
      (property_set_change (record { owner = owner; name = name; follows = follows; place = place; at = at; shown = shown; kind = how }))
  made-shown at how shown is makes =
      subst
      (λ (s : Setting). Makes (set_property_names owner name follows) d (after_set_property d owner name kind value)
      (change_of (set_kind_exchange (set_property_names owner name follows) owner name place at s how)))
      (sym is) makes

  pub replace-made : (at : ℕ) (p : Property) (same : Bool) (setting : Setting) (shown : GivenSetting) → property_place d.map place name ≡ Some at
      → property_at d.map place at ≡ Some p
      → IsTrue same ↔ setting_of p ≡ setting_with kind value → setting ≡ setting_with kind value → given_setting shown ≡ setting_with kind value
      → IsSetting d.map place setting
      → Makes (set_property_names owner name follows) d (after_set_property d owner name kind value)
      (property_set_change (record { owner = owner; name = name; follows = follows; place = place; at = at; shown = shown; kind = Replace setting false same }))
  replace-made at p same setting shown there has told is shows allowed =
      let s = setting_with kind value in
      let stands : setting_place owner name d ≡ Some (place, at) = rw (owner-there d.map owner place found, there) refl in
      let own : option_map setting_of (property_at d.map place at) ≡ Some (setting_of p) = rw has refl in
      let given = setting_named-get owner name place at d stands ∙ setting_at-get d place at (setting_of p) own in
      let put_in = setting-put owner name place at d stands s in
      let may : IsSetting d.map place s = rw is at allowed in
      let leads : after_set_property d owner name kind value ≡ Ok (with_map (with_property place at (property_with_setting s)) d) = rw (found, there) refl in
      let stays = with_setting-keeps place at s d.map (rw has refl) may h in
      made-shown at (Replace setting false same) shown shows (
      rw is (
      shown_made (AllowsSetting owner name place at) (setting_named-laws owner name) refl (setting_of p) given told.0 told.1
      (record { stands = stands; setting = may }) h
      (subst (λ (e : DocumentParts). IsWellFormed e.map) put_in stays) (leads ∙ ap Ok put_in)
      )
      )

  pub add-made : (ps : List Property) (at : ℕ) (loose : Option Property) (shown : GivenSetting) → IsUtf8 name → at ≡ length ps
      → property_place d.map place name ≡ None → properties_of d.map place ≡ Some ps
      → length ps < MAX_PROPERTIES → loose ≡ Some (new_property name (setting_with kind value)) → given_setting shown ≡ setting_with kind value
      → IsSetting d.map place (setting_with kind value)
      → Makes (set_property_names owner name follows) d (after_set_property d owner name kind value)
      (property_set_change (record { owner = owner; name = name; follows = follows; place = place; at = at; shown = shown; kind = Add (Some loose) }))
  add-made ps at loose shown utf8 last none are few is shows allowed =
      let p = new_property name (setting_with kind value) in
      let behind : length ps ≤ length ps = omega arith in
      let free : IsSomeAnd (properties_of d.map place) (λ qs. length ps ≤ length qs) = rw are behind in
      let count : IsSomeAnd (properties_of d.map place) (λ qs. length qs ≡ length ps) = rw are refl in
      let new = rw are at none in
      made-shown at (Add (Some loose)) shown shows (
      rw (last, is) (record {
        fits = (
          λ e. cc,
          record {
            fits = record {
              link = record {
                ready = free;
                before = h;
                after = with_property_at-keeps place (length ps) p ps d.map are few
                    (new_property-IsProperty d.map place name (setting_with kind value) utf8 allowed) new h;
              };
              new = (refl, record { stands = owner-there d.map owner place found; new = none; last = count });
            };
            settled = (λ e. cc, λ e. absurd (slot_in-differs (properties place) (properties-laws place) (length ps) p d free e));
          },
        );
        document = rw (found, none, are, lt-ltb (length ps) MAX_PROPERTIES few) refl;
        names = refl;
      })
      )
