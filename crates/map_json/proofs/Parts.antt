-- The parts of a map, whose members are read one after the other and taken out.
use Rattle.std.proofs.Common.{◌≡◌, ℕ, ◌*◌, ◌≤◌, List, [], ◌∷◌, ◌++◌, bytes_eq, Bool, false, refl, sym, ap, ◌∙◌}
use Rattle.std.specs.Prelude.{Result, Ok, Err}
use Rattle.std.specs.List.{list_any}
use Rattle.std.proofs.lemmas.Bool.{le-leb}
use Rattle.serde_json.specs.Data.{Members}
use Rattle.serde_json.specs.Find.{get_member}
use Rattle.map_model.specs.declared.names.TheConstants.{TYPE, WIDTH, HEIGHT, TILE_WIDTH, TILE_HEIGHT, INFINITE, NEXT_LAYER_ID, NEXT_OBJECT_ID, LAYERS, TILESETS}
use Rattle.map_model.specs.declared.names.TheConstants.{PROPERTIES, VERSION}
use Rattle.map_model.specs.declared.limits.TheConstants.{MAX_SIDE, MAX_CELLS, MAX_TILE_SIDE, MAX_TILESETS, MAX_NEXT_ID}
use Rattle.map_model.specs.declared.parts.MapParts.{MapParts}
use Rattle.map_model.specs.declared.parts.Layer.{Layer}
use Rattle.map_model.specs.declared.parts.Tileset.{Tileset}
use Rattle.map_model.specs.declared.parts.Property.{Property}
use Rattle.map_model.specs.Format.{map_names}
use Rattle.map_model.specs.Refusing.{◌>>=◌}
use Rattle.refusals.specs.declared.map_refusal.MapRefusal.{MapRefusal}
use Rattle.map_values.specs.declared.fault.MapFault.{MapFault}
use Rattle.map_values.specs.declared.fault.MapFault.TheVariants.{Memory, Refused}
use Rattle.map_values.specs.Presence.{Fails, required, absent_means}
use Rattle.map_values.specs.Scalars.{whole_at, truth_at}
use Rattle.map_json.specs.Elements.{elements_at}
use Rattle.json_members.specs.Members.{without, without_all}
use Rattle.map_json.specs.Reading.{properties_of, tileset_at, map_layers_at}
use Rattle.map_json.specs.Maps.{parts_of}
use Rattle.map_json.proofs.Bodies.{get_member-without_all}

-- a fault of a step is one of all
pub Fails->>= : {A B : Type 0} (f : MapFault) (step : Result A MapRefusal) (next : A → Result B MapRefusal) → Fails f step → Fails f (step >>= next)
Fails->>= Memory step next h = tt
Fails->>= (Refused r) step next h = rw h refl

-- the names of the members that are no lists
abbrev pub plain_names : List (List ℕ)
plain_names = WIDTH.now ∷ HEIGHT.now ∷ TILE_WIDTH.now ∷ TILE_HEIGHT.now ∷ INFINITE.now ∷ NEXT_LAYER_ID.now ∷ NEXT_OBJECT_ID.now ∷ []

-- a member that was not taken out yet
stays : (q : List ℕ) (ks : List (List ℕ)) (ms now : Members) → now ≡ without_all ks ms → list_any (bytes_eq q) ks ≡ false → get_member q now ≡ get_member q ms
stays q ks ms now is other = ap (get_member q) is ∙ get_member-without_all q ks ms other

-- the parts with these plain members, whose lists are still to be read
abbrev pub parts_with : Members → (width height tile_width tile_height next_layer_id next_object_id : ℕ) → Result MapParts MapRefusal
parts_with ms width height tile_width tile_height next_layer_id next_object_id = do
  layers ← required (map_layers_at width height) (get_member LAYERS.now ms)
  tilesets ← required (elements_at MAX_TILESETS tileset_at) (get_member TILESETS.now ms)
  properties ← properties_of ms
  Ok (record {
    width = width;
    height = height;
    tile_width = tile_width;
    tile_height = tile_height;
    layers = layers;
    tilesets = tilesets;
    properties = properties;
    next_layer_id = next_layer_id;
    next_object_id = next_object_id;
    kept = without_all map_names ms;
  })

-- the members after each plain one was taken out, and what was read of it
module _ (ms m1 m2 m3 m4 m5 m6 : Members) (w h tw th nl : ℕ) (infinite : Bool)
    (l1 : m1 ≡ without WIDTH.now ms) (l2 : m2 ≡ without HEIGHT.now m1) (l3 : m3 ≡ without TILE_WIDTH.now m2) (l4 : m4 ≡ without TILE_HEIGHT.now m3)
    (l5 : m5 ≡ without INFINITE.now m4)
    (l6 : m6 ≡ without NEXT_LAYER_ID.now m5) (e1 : Ok w ≡ required (whole_at 1 MAX_SIDE) (get_member WIDTH.now ms))
    (e2 : Ok h ≡ required (whole_at 1 MAX_SIDE) (get_member HEIGHT.now m1))
    (few : w * h ≤ MAX_CELLS) (e3 : Ok tw ≡ required (whole_at 1 MAX_TILE_SIDE) (get_member TILE_WIDTH.now m2))
    (e4 : Ok th ≡ required (whole_at 1 MAX_TILE_SIDE) (get_member TILE_HEIGHT.now m3))
    (e5 : Ok infinite ≡ absent_means false truth_at (get_member INFINITE.now m4)) (finite : infinite ≡ false)
    (e6 : Ok nl ≡ required (whole_at 1 MAX_NEXT_ID) (get_member NEXT_LAYER_ID.now m5)) where
  a2 : m2 ≡ without_all (WIDTH.now ∷ HEIGHT.now ∷ []) ms
  a2 = l2 ∙ ap (without HEIGHT.now) l1

  a3 : m3 ≡ without_all (WIDTH.now ∷ HEIGHT.now ∷ TILE_WIDTH.now ∷ []) ms
  a3 = l3 ∙ ap (without TILE_WIDTH.now) a2

  a4 : m4 ≡ without_all (WIDTH.now ∷ HEIGHT.now ∷ TILE_WIDTH.now ∷ TILE_HEIGHT.now ∷ []) ms
  a4 = l4 ∙ ap (without TILE_HEIGHT.now) a3

  a5 : m5 ≡ without_all (WIDTH.now ∷ HEIGHT.now ∷ TILE_WIDTH.now ∷ TILE_HEIGHT.now ∷ INFINITE.now ∷ []) ms
  a5 = l5 ∙ ap (without INFINITE.now) a4

  a6 : m6 ≡ without_all (WIDTH.now ∷ HEIGHT.now ∷ TILE_WIDTH.now ∷ TILE_HEIGHT.now ∷ INFINITE.now ∷ NEXT_LAYER_ID.now ∷ []) ms
  a6 = l6 ∙ ap (without NEXT_LAYER_ID.now) a5

  r1 : required (whole_at 1 MAX_SIDE) (get_member WIDTH.now ms) ≡ Ok w
  r1 = sym e1

  r2 : required (whole_at 1 MAX_SIDE) (get_member HEIGHT.now ms) ≡ Ok h
  r2 = sym (e2 ∙ ap (required (whole_at 1 MAX_SIDE)) (stays HEIGHT.now (WIDTH.now ∷ []) ms m1 l1 refl))

  r3 : required (whole_at 1 MAX_TILE_SIDE) (get_member TILE_WIDTH.now ms) ≡ Ok tw
  r3 = sym (e3 ∙ ap (required (whole_at 1 MAX_TILE_SIDE)) (stays TILE_WIDTH.now (WIDTH.now ∷ HEIGHT.now ∷ []) ms m2 a2 refl))

  r4 : required (whole_at 1 MAX_TILE_SIDE) (get_member TILE_HEIGHT.now ms) ≡ Ok th
  r4 = sym (e4 ∙ ap (required (whole_at 1 MAX_TILE_SIDE)) (stays TILE_HEIGHT.now (WIDTH.now ∷ HEIGHT.now ∷ TILE_WIDTH.now ∷ []) ms m3 a3 refl))

  r5 : absent_means false truth_at (get_member INFINITE.now ms) ≡ Ok false
  r5 = sym (ap (λ (b : Bool). Ok b) (sym finite) ∙ (e5 ∙ ap (absent_means false truth_at)
      (stays INFINITE.now (WIDTH.now ∷ HEIGHT.now ∷ TILE_WIDTH.now ∷ TILE_HEIGHT.now ∷ []) ms m4 a4 refl)))

  r6 : required (whole_at 1 MAX_NEXT_ID) (get_member NEXT_LAYER_ID.now ms) ≡ Ok nl
  r6 = sym (e6 ∙ ap (required (whole_at 1 MAX_NEXT_ID)) (stays NEXT_LAYER_ID.now (WIDTH.now ∷ HEIGHT.now ∷ TILE_WIDTH.now ∷ TILE_HEIGHT.now ∷ INFINITE.now ∷ [])
      ms m5 a5 refl))

  pub parts_of-plain : parts_of ms ≡ (required (whole_at 1 MAX_NEXT_ID) (get_member NEXT_OBJECT_ID.now m6) >>= λ no. parts_with ms w h tw th nl no)
  unfolding parts_of
  parts_of-plain =
      rw (
        r1,
        r2,
        le-leb (w * h) MAX_CELLS few,
        r3,
        r4,
        r5,
        r6,
        stays NEXT_OBJECT_ID.now (WIDTH.now ∷ HEIGHT.now ∷ TILE_WIDTH.now ∷ TILE_HEIGHT.now ∷ INFINITE.now ∷ NEXT_LAYER_ID.now ∷ []) ms m6 a6 refl,
      ) refl

  pub next_object_refused : (f : MapRefusal) → Err f ≡ required (whole_at 1 MAX_NEXT_ID) (get_member NEXT_OBJECT_ID.now m6) → parts_of ms ≡ Err f
  next_object_refused f e = rw (parts_of-plain, sym e) refl

  module _ (m7 : Members) (no : ℕ) (l7 : m7 ≡ without NEXT_OBJECT_ID.now m6)
      (e7 : Ok no ≡ required (whole_at 1 MAX_NEXT_ID) (get_member NEXT_OBJECT_ID.now m6)) where
    pub plain_taken : m7 ≡ without_all plain_names ms
    plain_taken = l7 ∙ ap (without NEXT_OBJECT_ID.now) a6

    pub parts_of-with : parts_of ms ≡ parts_with ms w h tw th nl no
    parts_of-with = rw (parts_of-plain, sym e7) refl

-- the members after each list was taken out, and what was read of it
module _ (ms m7 : Members) (w h tw th nl no : ℕ) (a7 : m7 ≡ without_all plain_names ms) where
  layers_there : get_member LAYERS.now m7 ≡ get_member LAYERS.now ms
  layers_there = stays LAYERS.now plain_names ms m7 a7 refl

  pub layers_refused : (f : MapFault) → Fails f (required (map_layers_at w h) (get_member LAYERS.now m7)) → Fails f (parts_with ms w h tw th nl no)
  layers_refused f fails = Fails->>= f (required (map_layers_at w h) (get_member LAYERS.now ms)) _ (rw layers_there at fails)

  module _ (m8 : Members) (ls : List Layer) (l8 : m8 ≡ without LAYERS.now m7) (e8 : required (map_layers_at w h) (get_member LAYERS.now m7) ≡ Ok ls) where
    a8 : m8 ≡ without_all (plain_names ++ LAYERS.now ∷ []) ms
    a8 = l8 ∙ ap (without LAYERS.now) a7

    r8 : required (map_layers_at w h) (get_member LAYERS.now ms) ≡ Ok ls
    r8 = rw layers_there at e8

    tilesets_there : get_member TILESETS.now m8 ≡ get_member TILESETS.now ms
    tilesets_there = stays TILESETS.now (plain_names ++ LAYERS.now ∷ []) ms m8 a8 refl

    pub tilesets_refused : (f : MapFault) → Fails f (required (elements_at MAX_TILESETS tileset_at) (get_member TILESETS.now m8))
        → Fails f (parts_with ms w h tw th nl no)
    tilesets_refused f fails = rw r8 (Fails->>= f (required (elements_at MAX_TILESETS tileset_at) (get_member TILESETS.now ms)) _ (rw tilesets_there at fails))

    module _ (m9 : Members) (ts : List Tileset) (l9 : m9 ≡ without TILESETS.now m8)
        (e9 : required (elements_at MAX_TILESETS tileset_at) (get_member TILESETS.now m8) ≡ Ok ts) where
      a9 : m9 ≡ without_all (plain_names ++ LAYERS.now ∷ TILESETS.now ∷ []) ms
      a9 = l9 ∙ ap (without TILESETS.now) a8

      r9 : required (elements_at MAX_TILESETS tileset_at) (get_member TILESETS.now ms) ≡ Ok ts
      r9 = rw tilesets_there at e9

      properties_there : get_member PROPERTIES.now m9 ≡ get_member PROPERTIES.now ms
      properties_there = stays PROPERTIES.now (plain_names ++ LAYERS.now ∷ TILESETS.now ∷ []) ms m9 a9 refl

      pub properties_refused : (f : MapFault) → Fails f (properties_of m9) → Fails f (parts_with ms w h tw th nl no)
      properties_refused f fails = rw (r8, r9) (Fails->>= f (properties_of ms) _ (rw properties_there at fails))

      pub parts_read : (m10 m11 m12 : Members) (ps : List Property) → m10 ≡ without PROPERTIES.now m9 → properties_of m9 ≡ Ok ps → m11 ≡ without TYPE.now m10
          → m12 ≡ without VERSION.now m11
          → parts_with ms w h tw th nl no
          ≡ Ok (record {
            width = w;
            height = h;
            tile_width = tw;
            tile_height = th;
            layers = ls;
            tilesets = ts;
            properties = ps;
            next_layer_id = nl;
            next_object_id = no;
            kept = m12;
          })
      parts_read m10 m11 m12 ps l10 e10 l11 l12 =
          let r10 = rw properties_there at e10 in
          let kept : m12 ≡ without_all map_names ms = l12 ∙ ap (without VERSION.now) (l11 ∙ ap (without TYPE.now) (l10 ∙ ap (without PROPERTIES.now) a9)) in
          rw (r8, r9, r10, kept) refl
