-- Settings of properties, as they are turned, offered and merged.
use Rattle.std.proofs.Common.{◌≡◌, ℕ, ◌+◌, ◌≤◌, List, length, Bool, true, false, Bor, Option, Some, None, IsSome, IsSomeAnd, option_and_then, refl, sym, ap}
use Rattle.std.proofs.Common.{◌∙◌, subst, arith}
use Rattle.std.specs.List.{slice_get, insert, position}
use Rattle.std.specs.Option.{option_copied}
use Rattle.map_model.specs.declared.owner.Owner.{Owner}
use Rattle.map_model.specs.declared.parts.Property.{Property}
use Rattle.map_model.specs.declared.place.OwnerPlace.{OwnerPlace}
use Rattle.map_model.specs.declared.setting.GivenSetting.{GivenSetting}
use Rattle.map_model.specs.declared.setting.Scalar.{Scalar}
use Rattle.map_model.specs.declared.setting.Setting.{Setting}
use Rattle.map_model.specs.Document.{DocumentParts, with_map}
use Rattle.map_model.specs.Given.{given_setting}
use Rattle.map_model.specs.Keeping.{property_tier}
use Rattle.map_model.specs.Lens.{put, update_found}
use Rattle.map_model.specs.Properties.{has_name, new_property, owner_tier, properties_of, property_at, scalar_value, setting_of, setting_with}
use Rattle.map_model.specs.Properties.{property_with_setting, with_property, with_property_at, without_property_at, IsSetting}
use Rattle.map_model.specs.PropertyLenses.{properties, property_slot, setting_at, setting_named, setting_place, without_setting}
use Rattle.map_model.specs.WellFormed.{IsValue, IsWellFormed}
use Rattle.map_model.proofs.Changes.{length-insert, slice_get-insert}
use Rattle.map_model.proofs.FoundLaws.{found-get, found-update}
use Rattle.map_model.proofs.PropertyKeeps.{owner_tier-with_properties}
use Rattle.map_model.proofs.PropertyLaws.{properties-laws, property_slot-laws}
use Rattle.map_model.proofs.StayPut.{setting_place-added, setting_named-keeps, setting_named-laws, without_setting-none, without-put, new_property-put}
use Rattle.command_api.specs.Exchange.{FitsTurn, IsExchanged, change_of}
use Rattle.command_api.specs.Names.{Names, WhenEqual}
use Rattle.command_api.specs.Link.{link, turned_link}
use Rattle.command_api.specs.Offers.{FitsNew, FitsPut, FitsSetting, IsMerged, IsOfferOf, Shown, Value, offer_undone, setting_undone}
use Rattle.command_api.specs.Swap.{FitsShown}
use Rattle.command_api.proofs.Links.{slot_in-differs}
use Rattle.command_api.proofs.Offering.{follower-offered, nothing-offered}
use Rattle.command_api.proofs.Swaps.{shown_merged, shown_offered}
use Rattle.property_commands.specs.declared.set.PropertySet.{PropertySet}
use Rattle.property_commands.specs.declared.set.SetKind.{SetKind}
use Rattle.property_commands.specs.declared.set.SetKind.TheVariants.{Replace, Add}
use Rattle.property_commands.specs.PropertyChanges.{AllowsSetting, FitsNewLink, IsKindFor, IsNewAt, before_of, new_link, property_set_change}
use Rattle.property_commands.specs.PropertyChanges.{property_set_shown, set_kind_exchange, shown_setting}
use Rattle.property_commands.specs.Names.{set_property_names}

-- ---- a property that is there
module _ (owner : Owner) (name : List ℕ) (place : OwnerPlace) (at : ℕ) (d : DocumentParts) (stands : setting_place owner name d ≡ Some (place, at)) where
  pub setting_named-get : (setting_named owner name).get d ≡ (setting_at place at).get d
  setting_named-get = found-get (setting_place owner name) (λ k. setting_at k.0 k.1) (place, at) d stands

  pub setting-put : (s : Setting) → with_map (with_property place at (property_with_setting s)) d ≡ put (setting_named owner name) s d
  setting-put s = sym (found-update (setting_place owner name) (λ k. setting_at k.0 k.1) (place, at) d stands (λ own. s))

  pub property_at-given : IsSome ((setting_named owner name).get d) → IsSome (property_at d.map place at)
  property_at-given h = by_list (properties_of d.map place) (rw setting_named-get at h)
    where
      by_property : (o : Option Property) → IsSome (option_and_then (λ p. Some (setting_of p)) o) → IsSome o
      by_property None g = cc
      by_property (Some p) g = refl

      by_list : (o : Option (List Property)) → IsSome (option_and_then (λ ps. option_and_then (λ p. Some (setting_of p)) (slice_get ps at)) o)
          → IsSome (option_and_then (λ ps. slice_get ps at) o)
      by_list None g = cc
      by_list (Some ps) g = by_property (slice_get ps at) g

-- a command that fits finds the property at its place
pub set-there : (owner : Owner) (name : List ℕ) (place : OwnerPlace) (at : ℕ) (made : Bool) (after held : Setting) (d : DocumentParts)
    → FitsShown (setting_named owner name) (AllowsSetting owner name place at) made after held d → IsSome (property_at d.map place at)
set-there owner name place at false after held d h = property_at-given owner name place at d h.allowed.stands h.given.0
set-there owner name place at true after held d h = property_at-given owner name place at d h.allowed.stands (rw h.given refl)

-- a setting changes no tier
setting_named-tier : (owner : Owner) (name : List ℕ) (f : Setting → Setting) (d : DocumentParts) (place : OwnerPlace)
    → owner_tier ((setting_named owner name).update f d).map place ≡ owner_tier d.map place
setting_named-tier owner name f d place = by_place (setting_place owner name d)
  where
    by_place : (o : Option (OwnerPlace × ℕ)) → owner_tier (update_found (λ k. setting_at k.0 k.1) f d o).map place ≡ owner_tier d.map place
    by_place None = refl
    by_place (Some k) = owner_tier-with_properties k.0 _ d.map place

module _ (owner : Owner) (name : List ℕ) (place : OwnerPlace) (at : ℕ) (d : DocumentParts) (s held : Setting) where
  pub AllowsSetting-put : setting_place owner name d ≡ Some (place, at) → IsSetting (put (setting_named owner name) s d).map place held
      → AllowsSetting owner name place at (put (setting_named owner name) s d) held
  AllowsSetting-put stands is = record { stands = setting_named-keeps owner name (λ own. s) d ∙ stands; setting = is }

  AllowsSetting-back : AllowsSetting owner name place at (put (setting_named owner name) s d) held → AllowsSetting owner name place at d held
  AllowsSetting-back h = record {
    stands = sym (setting_named-keeps owner name (λ own. s) d) ∙ h.stands;
    setting = record {
      kind = h.setting.kind;
      value = subst (λ n. IsValue (property_tier n) held.value) (setting_named-tier owner name (λ own. s) d place) h.setting.value;
    };
  }

-- ---- a property that is new
module _ (owner : Owner) (name : List ℕ) (place : OwnerPlace) (at : ℕ) where
  -- the owner's properties, before the new one goes last
  properties_before : (d : DocumentParts) → IsNewAt owner name place at d
      → (ps : List Property) × ((properties_of d.map place ≡ Some ps) × ((length ps ≡ at) × (position (has_name name) ps ≡ None)))
  properties_before d new = by_list (properties_of d.map place) refl new.last new.new
    where
      by_list : (o : Option (List Property)) → properties_of d.map place ≡ o → IsSomeAnd o (λ ps. length ps ≡ at)
          → option_and_then (position (has_name name)) o ≡ None
          → (ps : List Property) × ((properties_of d.map place ≡ Some ps) × ((length ps ≡ at) × (position (has_name name) ps ≡ None)))
      by_list None e last none = absurd last
      by_list (Some ps) e last none = (ps, (e, (last, none)))

  -- the owner's properties, where it stands last
  put_in : (d : DocumentParts) (p : Property) → IsNewAt owner name place at d
      → (ps : List Property) × ((properties_of (with_map (with_property_at place at p) d).map place ≡ Some (insert ps at p)) × (length ps ≡ at))
  put_in d p new =
      let before = properties_before d new in
      (before.0, ((properties-laws place).get-update (λ ps. insert ps at p) before.0 d before.1.0, before.1.1.0))

  property_at-last : (d : DocumentParts) (p : Property) → IsNewAt owner name place at d
      → property_at (with_map (with_property_at place at p) d).map place at ≡ Some p
  property_at-last d p new =
      let in_list = put_in d p new in
      rw in_list.1.0 (slice_get-insert in_list.0 at p (omega (arith, in_list.1.1)))

  -- the turn of a link of a new property
  pub new_link-turned : (names : Names) (s : Setting) (held new : Option (Option Property)) (d e : DocumentParts) → FitsNewLink owner name place at s held d
      → new ≡ turned_link (property_slot place at) held d
      → IsExchanged (link names (property_slot place at) held) (link names (property_slot place at) new) d e
      → IsExchanged (new_link names owner name place at s held) (new_link names owner name place at s new) d e
  new_link-turned names s None new d e h is x = rw is (
      record {
        document = x.document;
        fits = record { link = rw is at x.fits; new = (h.new.0, rw x.document h.new.1) };
        back = rw is at x.back;
        names = refl;
        obsolete = refl;
        made = refl;
      }
      )
  new_link-turned names s (Some None) new d e h is x = absurd h.link.ready
  new_link-turned names s (Some (Some p)) new d e h is x =
      let back : with_map (without_property_at place at) e ≡ d = rw is at x.back in
      rw is (
      record {
        document = x.document;
        fits = record {
          link = rw is at x.fits;
          new = (ap (λ (f : DocumentParts). property_at f.map place at) x.document ∙ property_at-last d p h.new.1 ∙ h.new.0, rw back h.new.1);
        };
        back = back;
        names = refl;
        obsolete = refl;
        made = refl;
      }
      )

  -- ---- one that is made
  module _ (s : Setting) (d : DocumentParts) (h : FitsNewLink owner name place at s None d) where
    before : DocumentParts
    before = with_map (without_property_at place at) d

    -- it was put in before
    put_in-is : d ≡ with_map (with_property_at place at (new_property name s)) (with_map (without_property_at place at) d)
    put_in-is = sym ((property_slot-laws place at).with-without (new_property name s) d h.link.ready h.new.0)

    pub setting_place-last : setting_place owner name d ≡ Some (place, at)
    setting_place-last =
        let e = with_map (without_property_at place at) d in
        let ps = properties_before e h.new.1 in
        let added = setting_place-added owner name place e ps.0 h.new.1.stands ps.1.0 (new_property name s) refl ps.1.1.1 in
        ap (setting_place owner name) put_in-is ∙ (rw ps.1.1.0 at added)

    many : IsSomeAnd (properties_of d.map place) (λ ps. length ps ≡ at + 1)
    many =
        let in_list = put_in (with_map (without_property_at place at) d) (new_property name s) h.new.1 in
        let more = length-insert in_list.0 at (new_property name s) in
        let count : length (insert in_list.0 at (new_property name s)) ≡ at + 1 = omega (arith, more, in_list.1.1) in
        rw (ap (λ (f : DocumentParts). properties_of f.map place) put_in-is ∙ in_list.1.0) count

    -- what it shows fits
    pub new_link-offered : FitsNew owner name s d
    new_link-offered = record { well_formed = h.link.before; last = rw setting_place-last (h.new.0, many); back = rw setting_place-last h.link.after }

    pub new_link-undone : without_setting owner name d ≡ with_map (without_property_at place at) d
    new_link-undone = rw setting_place-last refl

    -- taking it out changes the document
    without-differs : with_map (without_property_at place at) d ≡ d → ⊥
    without-differs same =
        let e = with_map (without_property_at place at) d in
        let ps = properties_before e h.new.1 in
        let behind : at ≤ length ps.0 = omega (arith, ps.1.1.0) in
        let free : IsSomeAnd (properties_of e.map place) (λ qs. at ≤ length qs) = rw ps.1.0 behind in
        slot_in-differs (properties place) (properties-laws place) at (new_property name s) e free (sym put_in-is ∙ sym same)

  -- a newer setting of the property is taken in
  pub new_link-merged : (names : Names) (s before newer : Setting) (d : DocumentParts) (o : Shown) → names.vanishing ≡ WhenEqual
      → FitsPut (setting_named owner name) before newer d
      → offer_undone o d ≡ put (setting_named owner name) before d → FitsTurn false (new_link names owner name place at s None) (offer_undone o d)
      → IsMerged (change_of (new_link names owner name place at s None)) (change_of (new_link names owner name place at newer None)) o d
  new_link-merged names s before newer d o vanishes fits is older =
      let older_fits : FitsNewLink owner name place at s None (put (setting_named owner name) before d) = rw is at older.1.fits in
      let stands : setting_place owner name d ≡ Some (place, at) =
      sym (setting_named-keeps owner name (λ own. before) d) ∙ setting_place-last s (put (setting_named owner name) before d) older_fits in
      let without = without-put owner name place at d before stands in
      let there : property_at d.map place at ≡ Some (new_property name newer) =
      new_property-put owner name place at d before stands s newer fits.holds older_fits.new.0 in
      let merged : FitsNewLink owner name place at newer None d = record {
        link = record {
          ready = rw there refl;
          before = fits.well_formed;
          after = subst (λ (e : DocumentParts). IsWellFormed e.map) without older_fits.link.after;
        };
        new = (there, subst (IsNewAt owner name place at) without older_fits.new.1);
      } in
      record {
        fits = (λ e. cc, record { fits = merged; settled = rw vanishes (λ e. cc, λ e. absurd (without-differs newer d merged e)) });
        undone = sym without ∙ ap (with_map (without_property_at place at)) (sym is);
        names = refl;
      }

-- ---- either kind
module _ (names : Names) (owner : Owner) (name : List ℕ) (place : OwnerPlace) (at : ℕ) where
  -- where it is made, the property stands at the place
  made-stands : (s : Setting) (kind : SetKind) (d : DocumentParts) → FitsTurn false (set_kind_exchange names owner name place at s kind) d
      → setting_place owner name d ≡ Some (place, at)
  made-stands s (Replace setting made same) d fits = fits.1.fits.allowed.stands
  made-stands s (Add None) d fits = setting_place-last owner name place at s d fits.1.fits
  made-stands s (Add (Some loose)) d fits = absurd (fits.0 refl)

  pub kind-offered : (s : Setting) (kind : SetKind) (d : DocumentParts) → FitsTurn false (set_kind_exchange names owner name place at s kind) d
      → FitsSetting owner name (before_of kind) s d × (setting_undone owner name (before_of kind) d ≡
      (set_kind_exchange names owner name place at s kind).exchanged d)
  kind-offered s (Replace setting made same) d fits = (shown_offered made (AllowsSetting owner name place at) fits, refl)
  kind-offered s (Add None) d fits = (new_link-offered owner name place at s d fits.1.fits, new_link-undone owner name place at s d fits.1.fits)
  kind-offered s (Add (Some loose)) d fits = absurd (fits.0 refl)

  -- a newer setting that was new leaves no property for one that is older
  new-clash : (s newer : Setting) (kind : SetKind) (d : DocumentParts) → FitsNew owner name newer d
      → FitsTurn false (set_kind_exchange names owner name place at s kind) (without_setting owner name d) → ⊥
  new-clash s newer kind d fits older = by_place (setting_place owner name d) refl fits.last
    where
      by_place : (o : Option (OwnerPlace × ℕ)) → setting_place owner name d ≡ o
          → IsSomeAnd o (λ k. (property_at d.map k.0 k.1 ≡ Some (new_property name newer)) × IsSomeAnd (properties_of d.map k.0) (λ ps. length ps ≡ k.1 + 1))
          → ⊥
      by_place None e last = last
      by_place (Some k) e last =
          let none = without_setting-none owner name d k e last.1 in
          let there = made-stands s kind (without_setting owner name d) older in
          cc

  pub kind-merged : (s newer : Setting) (kind next : SetKind) (before : Option Setting) (d : DocumentParts) (o : Shown) → names.vanishing ≡ WhenEqual
      → IsKindFor newer kind next
      → FitsSetting owner name before newer d → offer_undone o d ≡ setting_undone owner name before d
      → FitsTurn false (set_kind_exchange names owner name place at s kind) (offer_undone o d)
      → IsMerged (change_of (set_kind_exchange names owner name place at s kind)) (change_of (set_kind_exchange names owner name place at newer next)) o d
  kind-merged s newer kind next None d o vanishes kin fits is older = absurd (new-clash s newer kind d fits (rw is at older))
  kind-merged s newer (Replace setting made same) next (Some before) d o vanishes kin fits is older =
      rw kin.1.0 (
      shown_merged made (AllowsSetting owner name place at) (setting_named-laws owner name) vanishes kin.1.1.0 kin.1.1.1 fits is older
      (AllowsSetting-back owner name place at d before setting)
      )
  kind-merged s newer (Add None) next (Some before) d o vanishes kin fits is older =
      rw kin (new_link-merged owner name place at names s before newer d o vanishes fits is older)
  kind-merged s newer (Add (Some loose)) next (Some before) d o vanishes kin fits is older = absurd (older.0 refl)

-- both kinds have the same names
kind-names : (names : Names) (owner : Owner) (name : List ℕ) (place : OwnerPlace) (at : ℕ) (s : Setting) (kind : SetKind)
    → (set_kind_exchange names owner name place at s kind).names ≡ names
kind-names names owner name place at s (Replace setting made same) = refl
kind-names names owner name place at s (Add held) = refl

pub set-names : (s : PropertySet) → (property_set_change s).names ≡ set_property_names s.owner s.name s.follows
set-names s = kind-names (set_property_names s.owner s.name s.follows) s.owner s.name s.place s.at (given_setting s.shown) s.kind

-- what is set, where it follows, is what an offer of it shows
pub set-shown : (s : PropertySet) (name kind : Bor (List ℕ)) (held : Option (Bor Setting)) (value : Scalar) → s.follows ≡ true → name.now ≡ s.name
    → option_copied held ≡ before_of s.kind
    → kind.now ≡ (given_setting s.shown).kind → scalar_value value ≡ (given_setting s.shown).value
    → Value s.owner name.now (option_copied held) (setting_with kind.now (scalar_value value)) ≡ property_set_shown s
set-shown s name kind held value follows is_name is_before is_kind is_value =
    let setting : setting_with kind.now (scalar_value value) ≡ given_setting s.shown = λ i. record { kind = is_kind i; value = is_value i } in
    (λ i. Value s.owner (is_name i) (is_before i) (setting i))
    ∙ sym (ap (λ b. shown_setting b s.owner s.name (before_of s.kind) (given_setting s.shown)) follows)

-- it is a lawful offer
pub set-offered : (s : PropertySet) → IsOfferOf (property_set_change s) (property_set_shown s)
set-offered s = by_follows s.follows refl
  where
    names : Names
    names = set_property_names s.owner s.name s.follows

    does : (property_set_change s).names.follows ≡ s.follows
    does = ap (λ (n : Names). n.follows) (set-names s)

    by_follows : (follows : Bool) → s.follows ≡ follows → IsOfferOf (property_set_change s)
        (shown_setting follows s.owner s.name (before_of s.kind) (given_setting s.shown))
    by_follows false alone = nothing-offered (property_set_change s) (does ∙ alone)
    by_follows true after =
        follower-offered (property_set_change s) (Value s.owner s.name (before_of s.kind) (given_setting s.shown)) (does ∙ after)
        (sym (ap (λ (n : Names). n.tag) (set-names s))) (λ e. cc)
        (kind-offered names s.owner s.name s.place s.at (given_setting s.shown) s.kind)

-- what is set takes a newer setting in
pub set-merged : (s t : PropertySet) (shown : GivenSetting) (kind : SetKind) (before : Option Setting) (d : DocumentParts) (o : Shown)
    → t ≡ record s { shown = shown; kind = kind }
    → IsKindFor (given_setting shown) s.kind kind → FitsSetting s.owner s.name before (given_setting shown) d
    → offer_undone o d ≡ setting_undone s.owner s.name before d
    → (property_set_change s).fits_undo (offer_undone o d) → IsMerged (property_set_change s) (property_set_change t) o d
set-merged s t shown kind before d o is kin fits undone older =
    rw is (
    kind-merged (set_property_names s.owner s.name s.follows) s.owner s.name s.place s.at (given_setting s.shown)
    (given_setting shown) s.kind kind before d o refl kin fits undone older
    )
