-- A map in which a tileset got another first id: it is well formed, and comes back.
use Rattle.std.proofs.Common.{◌≡◌, ◌≢◌, ℕ, ◌+◌, ◌-◌, ◌*◌, ◌%◌, ◌^◌, ◌<◌, ◌≤◌, ◌⊎◌, inl, inr, List, [], ◌∷◌, ◌++◌, map, Bool, true, false, cond}
use Rattle.std.proofs.Common.{nat_lt, nat_le}
use Rattle.std.specs.Prelude.{option_to_list}
use Rattle.std.proofs.Common.{option_map, Option, Some, None, IfSome, IsSome, find, refl, sym, ap, ◌∙◌, subst, true≢false, arith}
use Rattle.std.specs.List.{flat_map}
use Rattle.std.proofs.lemmas.Bool.{and_parts, eq-eqb, ltb-true}
use Rattle.std.proofs.lemmas.Bool.Decides.{nat_tests}
use Rattle.std.proofs.lemmas.List.{length-map}
use Rattle.tile_id.specs.Gid.{base_of}
use Rattle.map_model.specs.declared.limits.TheConstants.{MAX_FIRST_ID, MAX_GROUPS}
use Rattle.map_model.specs.declared.parts.Body.{Body}
use Rattle.map_model.specs.declared.parts.Body.TheVariants.{Tiles, Objects}
use Rattle.map_model.specs.declared.parts.Layer.{Layer}
use Rattle.map_model.specs.declared.parts.MapParts.{MapParts}
use Rattle.map_model.specs.declared.parts.Object.{Object}
use Rattle.map_model.specs.declared.parts.Tileset.{Tileset}
use Rattle.map_model.specs.Bodies.{objects_in, tiles_or_none}
use Rattle.map_model.specs.Canvas.{AreCells}
use Rattle.map_model.specs.Groups.{all_drawn}
use Rattle.map_model.specs.Keeping.{layer_tier, object_tier}
use Rattle.map_model.specs.Lists.{Distinct, Each, change_first}
use Rattle.map_model.specs.Renumbering.{KeepsTileset, LiesApart, MayBeRenumbered, end_in, layers_with_values, map_renumbered, body_with_values}
use Rattle.map_model.specs.Renumbering.{object_with_value, tileset_with_first_id, value_moved}
use Rattle.map_model.specs.Tilesets.{gids_of, has_first_id, values_in, values_of}
use Rattle.map_model.specs.Uses.{base_limit, end_of, is_between, nearer}
use Rattle.map_model.specs.WellFormed.{IsBody, IsDrawn, IsObject, IsTileValue, IsTileset, IsWellFormed, first_ids_of, ids_of, ids_of_object, object_ids_of}
use Rattle.map_model.proofs.BodyLaws.{IsLayer-contents, object_ids-contents}
use Rattle.map_model.proofs.Changes.{Each-change_first, length-change_first}
use Rattle.map_model.proofs.Listings.{Each-prefix, Each-rest}
use Rattle.map_model.proofs.RenumberedTrees.{EachValue, Undoes, back-layers, drawn-with_values, drawn_with}
use Rattle.map_model.proofs.TilesetLemmas.{nat_eq-true}

-- ---- values
-- a value that goes along
pub record GoesAlong (low end to value : ℕ) : Type 0 where
  pub base : base_of (value - low + to) ≡ base_of value - low + to
  pub is : value - low + to - to + low ≡ value
  pub small : value < 2 ^ 32 → value - low + to < 2 ^ 32

goes-along : (low end to value : ℕ) → low ≤ value % 2 ^ 28 → value % 2 ^ 28 + to < end + low → end ≤ 2 ^ 28 → GoesAlong low end to value
goes-along low end to value from upto limit = record {
  base = omega (arith, from, upto, limit);
  is = omega (arith, from);
  small = λ h. omega (arith, from, upto, limit, h);
}

between : (low end value : ℕ) → is_between low end value ≡ true → (low ≤ base_of value) × (base_of value < end)
between low end value e =
    let both = and_parts (nat_le low (base_of value)) (nat_lt (base_of value) end) e in
    (grind (arith, nat_tests, both.0), ltb-true (base_of value) end both.1)

-- what is of a tileset, by whether its value goes along
value_moved-true : (low end to value : ℕ) → is_between low end value ≡ true → value_moved low end to value ≡ value - low + to
value_moved-true low end to value e = rw e refl

value_moved-false : (low end to value : ℕ) → is_between low end value ≡ false → value_moved low end to value ≡ value
value_moved-false low end to value e = rw e refl

is_between-yes : (low end value : ℕ) → low ≤ base_of value → base_of value < end → is_between low end value ≡ true
is_between-yes low end value from upto = grind (arith, nat_tests, from, upto)

module _ (low end to value : ℕ) (limit : end ≤ base_limit) (keeps : KeepsTileset low end to value) where
  there : is_between low end value ≡ true → is_between to end (value_moved low end to value) ≡ true
  there e =
      let b = between low end value e in
      let g = goes-along low end to value b.0 (keeps.along e) limit in
      rw (value_moved-true low end to value e) (
      is_between-yes to end (value - low + to) (rw g.base (omega (arith, b.0))) (rw g.base (omega (arith, b.0, keeps.along e)))
      )

  pub value-back : value_moved to end low (value_moved low end to value) ≡ value
  value-back = by_range (is_between low end value) refl
    where
      by_range : (q : Bool) → is_between low end value ≡ q → value_moved to end low (value_moved low end to value) ≡ value
      by_range true e =
          let b = between low end value e in
          let g = goes-along low end to value b.0 (keeps.along e) limit in
          value_moved-true to end low (value_moved low end to value) (there e) ∙ (ap (λ v. v - to + low) (value_moved-true low end to value e) ∙ g.is)
      by_range false e =
          ap (value_moved to end low) (value_moved-false low end to value e) ∙ value_moved-false to end low value (keeps.stays e)

  pub keeps-back : KeepsTileset to end low (value_moved low end to value)
  keeps-back = by_range (is_between low end value) refl
    where
      by_range : (q : Bool) → is_between low end value ≡ q → KeepsTileset to end low (value_moved low end to value)
      by_range true e =
          let b = between low end value e in
          let g = goes-along low end to value b.0 (keeps.along e) limit in
          let base : base_of (value_moved low end to value) ≡ base_of value - low + to = ap base_of (value_moved-true low end to value e) ∙ g.base in
          record { along = λ f. rw base (omega (arith, b)); stays = λ f. absurd (true≢false (sym (there e) ∙ f)) }
      by_range false e =
          let is = value_moved-false low end to value e in
          record {
            along = λ f. absurd (true≢false (sym (ap (is_between to end) (sym is) ∙ f) ∙ keeps.stays e));
            stays = λ f. ap (is_between low end) is ∙ e;
          }

  pub value-small : IsTileValue value → IsTileValue (value_moved low end to value)
  value-small h = by_range (is_between low end value) refl
    where
      by_range : (q : Bool) → is_between low end value ≡ q → IsTileValue (value_moved low end to value)
      by_range true e =
          let b = between low end value e in
          rw (value_moved-true low end to value e) ((goes-along low end to value b.0 (keeps.along e) limit).small h)
      by_range false e = rw (value_moved-false low end to value e) h

-- ---- tilesets
-- a tileset that is another one
abbrev IsOther : ℕ → ℕ → Tileset → Type 0
IsOther first to t = ((t.first_id < first) × (t.first_id < to)) ⊎ ((first < t.first_id) × (to < t.first_id))

nearer-other : (first to end : ℕ) (t : Tileset) → IsOther first to t → nearer to end t ≡ nearer first end t
nearer-other first to end t (inl h) = grind (arith, nat_tests, h)
nearer-other first to end t (inr h) = grind (arith, nat_tests, h)

end_of-others : (first to end : ℕ) (ts : List Tileset) → Each (IsOther first to) ts → end_of to end ts ≡ end_of first end ts
end_of-others first to end [] h = refl
end_of-others first to end (t ∷ ts) h = ap (λ e. end_of to e ts) (nearer-other first to end t h.0) ∙ end_of-others first to (nearer first end t) ts h.1

others : (first to : ℕ) (ts : List Tileset) → Each (λ n. first ≢ n) (flat_map first_ids_of ts) → Each (LiesApart first to) ts → Each (IsOther first to) ts
others first to [] differ apart = tt
others first to (t ∷ ts) differ apart = (apart.0 (λ e. differ.0 (sym e)), others first to ts differ.1 apart.1)

-- it is not the one with the first id, nor with the other
other-first : (first to : ℕ) (t : Tileset) → IsOther first to t → has_first_id first t ≡ false
other-first first to t (inl h) = grind (arith, nat_tests, h)
other-first first to t (inr h) = grind (arith, nat_tests, h)

other-to : (first to : ℕ) (t : Tileset) → IsOther first to t → has_first_id to t ≡ false
other-to first to t (inl h) = grind (arith, nat_tests, h)
other-to first to t (inr h) = grind (arith, nat_tests, h)

turned : (first to : ℕ) (t : Tileset) → IsOther first to t → IsOther to first t
turned first to t (inl h) = inl (h.1, h.0)
turned first to t (inr h) = inr (h.1, h.0)

-- of the tilesets one has the first id, and the others neither it nor the other number, nor one between
abbrev pub AreApart : ℕ → ℕ → List Tileset → Type 0
AreApart first to [] = ⊥
AreApart first to (t ∷ ts) = ((t.first_id ≡ first) × Each (IsOther first to) ts) ⊎ (IsOther first to t × AreApart first to ts)

pub apart : (first to : ℕ) (ts : List Tileset) → IsSome (find (has_first_id first) ts) → Each (LiesApart first to) ts → Distinct (flat_map first_ids_of ts)
    → AreApart first to ts
apart first to [] some each distinct = absurd (cc)
apart first to (t ∷ ts) some each distinct = by_test (has_first_id first t) refl some (λ h. apart first to ts h each.1 distinct.1)
  where
    by_test : (q : Bool) → has_first_id first t ≡ q → IsSome (cond q (Some t) (find (has_first_id first) ts))
        → (IsSome (find (has_first_id first) ts) → AreApart first to ts) → AreApart first to (t ∷ ts)
    by_test true e h later =
        let is : t.first_id ≡ first = nat_eq-true t.first_id first e in
        inl (is, others first to ts (subst (λ n. Each (λ m. n ≢ m) (flat_map first_ids_of ts)) is distinct.0) each.1)
    by_test false e h later = inr (each.0 (λ same. true≢false (sym (eq-eqb t.first_id first same) ∙ e)), later h)

abbrev pub numbered : ℕ → ℕ → List Tileset → List Tileset
numbered first to ts = change_first (has_first_id first) (tileset_with_first_id to) ts

module _ (first to : ℕ) where
  here-is : (t : Tileset) (ts : List Tileset) → t.first_id ≡ first → numbered first to (t ∷ ts) ≡ tileset_with_first_id to t ∷ ts
  here-is t ts is = rw (eq-eqb t.first_id first is) refl

  later-is : (t : Tileset) (ts : List Tileset) → IsOther first to t → numbered first to (t ∷ ts) ≡ t ∷ numbered first to ts
  later-is t ts other = rw (other-first first to t other) refl

  all-turned : (ts : List Tileset) → Each (IsOther first to) ts → Each (IsOther to first) ts
  all-turned [] h = tt
  all-turned (t ∷ ts) h = (turned first to t h.0, all-turned ts h.1)

  pub numbered-apart : (ts : List Tileset) → AreApart first to ts → AreApart to first (numbered first to ts)
  numbered-apart [] h = absurd h
  numbered-apart (t ∷ ts) (inl h) = rw (here-is t ts h.0) (inl (refl, all-turned ts h.1))
  numbered-apart (t ∷ ts) (inr h) = rw (later-is t ts h.0) (inr (turned first to t h.0, numbered-apart ts h.1))

  pub end-numbered : (end : ℕ) (ts : List Tileset) → AreApart first to ts → end_of to end (numbered first to ts) ≡ end_of first end ts
  end-numbered end [] h = absurd h
  end-numbered end (t ∷ ts) (inl h) =
      let own : nearer to end (tileset_with_first_id to t) ≡ end = grind (arith, nat_tests) in
      let old : nearer first end t ≡ end = grind (arith, nat_tests, h.0) in
      ap (end_of to end) (here-is t ts h.0) ∙ (ap (λ e. end_of to e ts) own ∙ (end_of-others first to end ts h.1 ∙ ap (λ e. end_of first e ts) (sym old)))
  end-numbered end (t ∷ ts) (inr h) =
      ap (end_of to end) (later-is t ts h.0) ∙ (ap (λ e. end_of to e (numbered first to ts)) (nearer-other first to end t h.0)
      ∙ end-numbered (nearer first end t) ts h.1)

  nearer-above : (end : ℕ) (t : Tileset) → IsOther first to t → to < end → to < nearer first end t
  nearer-above end t (inl h) less = grind (arith, nat_tests, h, less)
  nearer-above end t (inr h) less = grind (arith, nat_tests, h, less)

  others-above : (end : ℕ) (ts : List Tileset) → Each (IsOther first to) ts → to < end → to < end_of first end ts
  others-above end [] h less = less
  others-above end (t ∷ ts) h less = others-above (nearer first end t) ts h.1 (nearer-above end t h.0 less)

  pub end-above : (end : ℕ) (ts : List Tileset) → AreApart first to ts → to < end → to < end_of first end ts
  end-above end [] h less = absurd h
  end-above end (t ∷ ts) (inl h) less =
      let old : nearer first end t ≡ end = grind (arith, nat_tests, h.0) in
      rw old (others-above end ts h.1 less)
  end-above end (t ∷ ts) (inr h) less = end-above (nearer first end t) ts h.1 (nearer-above end t h.0 less)

  pub numbered-IsTileset : 1 ≤ to → to ≤ MAX_FIRST_ID → (ts : List Tileset) → Each IsTileset ts → Each IsTileset (numbered first to ts)
  numbered-IsTileset low high ts h =
      Each-change_first (has_first_id first) (tileset_with_first_id to) IsTileset
      (λ t is. record { low = low; high = high; source = is.source; kept = is.kept }) ts h

  others-differ : (n : ℕ) (ts : List Tileset) → ((t : Tileset) → IsOther first to t → n ≢ t.first_id) → Each (IsOther first to) ts
      → Each (λ m. n ≢ m) (flat_map first_ids_of ts)
  others-differ n [] differ h = tt
  others-differ n (t ∷ ts) differ h = (differ t h.0, others-differ n ts differ h.1)

  to-differs : (t : Tileset) → IsOther first to t → to ≢ t.first_id
  to-differs t (inl h) e = omega (arith, h.1, e)
  to-differs t (inr h) e = omega (arith, h.1, e)

  still-differs : (n : ℕ) (ts : List Tileset) → n ≢ to → AreApart first to ts → Each (λ m. n ≢ m) (flat_map first_ids_of ts)
      → Each (λ m. n ≢ m) (flat_map first_ids_of (numbered first to ts))
  still-differs n [] differs h each = absurd h
  still-differs n (t ∷ ts) differs (inl h) each = rw (here-is t ts h.0) (differs, each.1)
  still-differs n (t ∷ ts) differs (inr h) each = rw (later-is t ts h.0) (each.0, still-differs n ts differs h.1 each.1)

  pub numbered-distinct : (ts : List Tileset) → AreApart first to ts → Distinct (flat_map first_ids_of ts) → Distinct (flat_map first_ids_of (numbered first to ts))
  numbered-distinct [] h distinct = absurd h
  numbered-distinct (t ∷ ts) (inl h) distinct = rw (here-is t ts h.0) (others-differ to ts to-differs h.1, distinct.1)
  numbered-distinct (t ∷ ts) (inr h) distinct =
      rw (later-is t ts h.0) (still-differs t.first_id ts (λ e. to-differs t h.0 (sym e)) h.1 distinct.0, numbered-distinct ts h.1 distinct.1)

-- the tilesets come back
pub numbered-back : (first to : ℕ) (ts : List Tileset) → AreApart first to ts → numbered to first (numbered first to ts) ≡ ts
numbered-back first to [] h = absurd h
numbered-back first to (t ∷ ts) (inl h) =
    ap (numbered to first) (here-is first to t ts h.0) ∙ (here-is to first (tileset_with_first_id to t) ts refl ∙ (λ i. record t { first_id = sym h.0 i } ∷ ts))
numbered-back first to (t ∷ ts) (inr h) =
    ap (numbered to first) (later-is first to t ts h.0)
    ∙ (later-is to first t (numbered first to ts) (turned first to t h.0) ∙ ap (λ us. t ∷ us) (numbered-back first to ts h.1))

-- ---- layers
module _ (low end to : ℕ) (limit : end ≤ base_limit) where
  abbrev Keeps : ℕ → Type 0
  Keeps = KeepsTileset low end to

  abbrev f : ℕ → ℕ
  f = value_moved low end to

  all-undone : (vs : List ℕ) → Each Keeps vs → Each (Undoes (value_moved to end low) f) vs
  all-undone [] h = tt
  all-undone (v ∷ vs) h = (value-back low end to v limit h.0, all-undone vs h.1)

  pub drawn-undone : (ds : List (ℕ × Layer)) → EachValue Keeps ds → EachValue (Undoes (value_moved to end low) f) ds
  drawn-undone [] h = tt
  drawn-undone (d ∷ ds) h = (all-undone (values_of d) h.0, drawn-undone ds h.1)

  all-keep : (vs : List ℕ) → Each Keeps vs → Each (KeepsTileset to end low) (map f vs)
  all-keep [] h = tt
  all-keep (v ∷ vs) h = (keeps-back low end to v limit h.0, all-keep vs h.1)

  objects-keep : (os : List Object) → Each Keeps (flat_map gids_of os) → Each (KeepsTileset to end low) (flat_map gids_of (map (object_with_value f) os))
  objects-keep [] h = tt
  objects-keep (o ∷ os) h = by_gid o.gid h (objects-keep os)
    where
      by_gid : (g : Option ℕ) → Each Keeps (option_to_list g ++ flat_map gids_of os)
          → (Each Keeps (flat_map gids_of os) → Each (KeepsTileset to end low) (flat_map gids_of (map (object_with_value f) os)))
          → Each (KeepsTileset to end low) (option_to_list (option_map f g) ++ flat_map gids_of (map (object_with_value f) os))
      by_gid None k rest = rest k
      by_gid (Some v) k rest = (keeps-back low end to v limit k.0, rest k.1)

  body-keep : (b : Body) → Each Keeps (values_in b) → Each (KeepsTileset to end low) (values_in (body_with_values f b))
  body-keep (Tiles e cells) h = all-keep cells h
  body-keep (Objects os) h = objects-keep os h
  body-keep b h = h

  pub drawn-keep : (ds : List (ℕ × Layer)) → EachValue Keeps ds → EachValue (KeepsTileset to end low) (map (drawn_with f) ds)
  drawn-keep [] h = tt
  drawn-keep (d ∷ ds) h = (body-keep d.1.body h.0, drawn-keep ds h.1)

  -- ---- well formed
  cells-small : (vs : List ℕ) → Each Keeps vs → Each IsTileValue vs → Each IsTileValue (map f vs)
  cells-small [] h small = tt
  cells-small (v ∷ vs) h small = (value-small low end to v limit h.0 small.0, cells-small vs h.1 small.1)

  gid-small : (g : Option ℕ) → Each Keeps (option_to_list g) → IfSome g IsTileValue → IfSome (option_map f g) IsTileValue
  gid-small None h small = tt
  gid-small (Some v) h small = value-small low end to v limit h.0 small

  objects-small : (tier : ℕ) (os : List Object) → Each Keeps (flat_map gids_of os) → Each (IsObject tier) os → Each (IsObject tier) (map (object_with_value f) os)
  objects-small tier [] h is = tt
  objects-small tier (o ∷ os) h is = (
    record {
      placing = is.0.placing;
      name = is.0.name;
      gid = gid-small o.gid (Each-prefix Keeps (gids_of o) (flat_map gids_of os) h) is.0.gid;
      properties = is.0.properties;
      kept = is.0.kept;
    },
    objects-small tier os (Each-rest Keeps (gids_of o) (flat_map gids_of os) h) is.1,
  )

  tiles-small : (size : ℕ) (b : Body) → Each Keeps (values_in b) → (cells : List ℕ) → tiles_or_none b ≡ Some cells → AreCells size cells
      → AreCells size (map f cells)
  tiles-small size (Tiles e own) h cells is are =
      let same : own ≡ cells = cc in
      (rw (length-map cells f) are.0, cells-small cells (subst (Each Keeps) same h) are.1)
  tiles-small size b h cells is are = cc

  objects-fit : (tier size : ℕ) (b : Body) → Each Keeps (values_in b) → (os : List Object) → objects_in b ≡ Some os → IsBody tier size (Objects os)
      → IsBody tier size (Objects (map (object_with_value f) os))
  objects-fit tier size (Objects own) h os is are =
      let same : own ≡ os = cc in
      (rw (length-map os (object_with_value f)) are.0, objects-small (object_tier tier) os (subst (λ qs. Each Keeps (flat_map gids_of qs)) same h) are.1)
  objects-fit tier size b h os is are = cc

  pub drawn-fit : (size : ℕ) (ds : List (ℕ × Layer)) → EachValue Keeps ds → Each (IsDrawn size) ds → Each (IsDrawn size) (map (drawn_with f) ds)
  drawn-fit size [] h is = tt
  drawn-fit size (d ∷ ds) h is = (
    IsLayer-contents (map f) (map (object_with_value f)) d.0 size size d.1 (tiles-small size d.1.body h.0) (objects-fit d.0 size d.1.body h.0) is.0,
    drawn-fit size ds h.1 is.1,
  )

  object_ids-same : (os : List Object) → flat_map ids_of_object (map (object_with_value f) os) ≡ flat_map ids_of_object os
  object_ids-same [] = refl
  object_ids-same (o ∷ os) = ap (λ ids. o.id ∷ ids) (object_ids-same os)

  pub layer_ids-same : (ds : List (ℕ × Layer)) → flat_map ids_of (map (drawn_with f) ds) ≡ flat_map ids_of ds
  layer_ids-same [] = refl
  layer_ids-same (d ∷ ds) = ap (λ ids. d.1.id ∷ ids) (layer_ids-same ds)

  pub drawn_ids-same : (ds : List (ℕ × Layer)) → flat_map object_ids_of (map (drawn_with f) ds) ≡ flat_map object_ids_of ds
  drawn_ids-same [] = refl
  drawn_ids-same (d ∷ ds) =
      λ i. object_ids-contents (map f) (map (object_with_value f)) object_ids-same d.1.body i ++ drawn_ids-same ds i

-- ---- maps
pub end_of-limit : (first end : ℕ) (ts : List Tileset) → end_of first end ts ≤ end
end_of-limit first end [] = omega arith
end_of-limit first end (t ∷ ts) =
    let later = end_of-limit first (nearer first end t) ts in
    let step : nearer first end t ≤ end = grind (arith, nat_tests) in
    omega (arith, later, step)

module _ (first to : ℕ) (m : MapParts) (may : MayBeRenumbered first to m) (h : IsWellFormed m) where
  abbrev end : ℕ
  end = end_in m first

  limit : end ≤ base_limit
  limit = end_of-limit first base_limit m.tilesets

  are : AreApart first to m.tilesets
  are = apart first to m.tilesets may.there may.apart h.tilesets.distinct

  abbrev next : MapParts
  next = map_renumbered first to m

  drawn-next : all_drawn next.layers ≡ map (drawn_with (value_moved first end to)) (all_drawn m.layers)
  drawn-next = drawn-with_values MAX_GROUPS (value_moved first end to) layer_tier m.layers

  end-next : end_in next to ≡ end
  end-next = end-numbered first to base_limit m.tilesets are

  pub renumbered-back : map_renumbered to first next ≡ m
  renumbered-back =
      let undone = drawn-undone first end to limit (all_drawn m.layers) may.values in
      let layers : layers_with_values MAX_GROUPS (value_moved to (end_in next to) first) next.layers ≡ m.layers =
      ap (λ e. layers_with_values MAX_GROUPS (value_moved to e first) next.layers) end-next
      ∙ back-layers (value_moved first end to) (value_moved to end first) MAX_GROUPS m.layers undone in
      λ i. record m { layers = layers i; tilesets = numbered-back first to m.tilesets are i }

  pub renumbered-IsWellFormed : IsWellFormed next
  renumbered-IsWellFormed = record {
    size = h.size;
    tile_size = h.tile_size;
    layers = rw drawn-next (record {
      few = rw (length-map (all_drawn m.layers) (drawn_with (value_moved first end to))) h.layers.few;
      each = drawn-fit first end to limit (m.width * m.height) (all_drawn m.layers) may.values h.layers.each;
      layer_ids = rw (layer_ids-same first end to limit (all_drawn m.layers)) h.layers.layer_ids;
      object_ids = rw (drawn_ids-same first end to limit (all_drawn m.layers)) h.layers.object_ids;
    });
    tilesets = record {
      few = rw (length-change_first (has_first_id first) (tileset_with_first_id to) m.tilesets) h.tilesets.few;
      each = numbered-IsTileset first to may.low may.high m.tilesets h.tilesets.each;
      distinct = numbered-distinct first to m.tilesets are h.tilesets.distinct;
    };
    properties = h.properties;
    kept = h.kept;
  }

  -- the first id that the tileset had is that of a tileset
  first-IsTileset : (ts : List Tileset) → AreApart first to ts → Each IsTileset ts → (1 ≤ first) × (first ≤ MAX_FIRST_ID)
  first-IsTileset [] a is = absurd a
  first-IsTileset (t ∷ ts) (inl a) is = (rw (← a.0) is.0.low, rw (← a.0) is.0.high)
  first-IsTileset (t ∷ ts) (inr a) is = first-IsTileset ts a.1 is.1

  found : (ts : List Tileset) → AreApart to first ts → IsSome (find (has_first_id to) ts)
  found [] a = absurd a
  found (t ∷ ts) (inl a) = rw (eq-eqb t.first_id to a.0) refl
  found (t ∷ ts) (inr a) = rw (other-first to first t a.0) (found ts a.1)

  each-apart : (ts : List Tileset) → AreApart to first ts → Each (LiesApart to first) ts
  each-apart [] a = absurd a
  each-apart (t ∷ ts) (inl a) = (λ differs. absurd (differs a.0), all-apart ts a.1)
    where
      all-apart : (us : List Tileset) → Each (IsOther to first) us → Each (LiesApart to first) us
      all-apart [] b = tt
      all-apart (u ∷ us) b = (λ differs. b.0, all-apart us b.1)
  each-apart (t ∷ ts) (inr a) = (λ differs. a.0, each-apart ts a.1)

  pub renumbered-fits : MayBeRenumbered to first next
  renumbered-fits =
      let turned-are = numbered-apart first to m.tilesets are in
      let range = first-IsTileset m.tilesets are h.tilesets.each in
      record {
        there = found next.tilesets turned-are;
        low = range.0;
        high = range.1;
        apart = each-apart next.tilesets turned-are;
        values = rw (end-next, drawn-next) (drawn-keep first end to limit (all_drawn m.layers) may.values);
      }
