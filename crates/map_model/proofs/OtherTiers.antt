-- Objects and layers at other tiers: where they fit, they are such as a map has there.
use Rattle.std.proofs.Common.{◌≡◌, ℕ, zero, suc, ◌+◌, ◌*◌, ◌≤◌, List, [], ◌∷◌, ◌++◌, Bool, true, false, ◌&&◌, refl, sym, ap, ◌∙◌, arith}
use Rattle.std.specs.List.{flat_map, list_all}
use Rattle.std.proofs.lemmas.Bool.{leb-true, ltb-true}
use Rattle.std.proofs.lemmas.Grind.{flat_map-append}
use Rattle.std.proofs.lemmas.List.Folds.{list_all-append}
use Rattle.serde_json.specs.Data.{Members, depth, members_depth}
use Rattle.map_model.specs.declared.limits.TheConstants.{MAX_DEPTH}
use Rattle.map_model.specs.declared.parts.Body.{Body}
use Rattle.map_model.specs.declared.parts.Body.TheVariants.{Objects, Group'}
use Rattle.map_model.specs.declared.parts.Layer.{Layer}
use Rattle.map_model.specs.declared.parts.Object.{Object}
use Rattle.map_model.specs.declared.parts.Property.{Property}
use Rattle.map_model.specs.declared.parts.PropValue.{PropValue}
use Rattle.map_model.specs.declared.parts.PropValue.TheVariants as values
use Rattle.map_model.specs.Groups.{bare, drawn, group_in, inside, tree}
use Rattle.map_model.specs.Keeping.{AreKept, deepest_tier, inner_tier, object_tier, property_tier}
use Rattle.map_model.specs.Lists.{Each, or_empty}
use Rattle.map_model.specs.Moving.{body_fits, members_fit, object_fits, own_fits, properties_fit, property_fits, value_fits}
use Rattle.map_model.specs.WellFormed.{AreProperties, IsBody, IsDrawn, IsLayer, IsObject, IsProperty, IsValue}
use Rattle.map_model.proofs.GroupBodies.{IsLayer-without}
use Rattle.map_model.proofs.Keeps.{tree-alone}
use Rattle.map_model.proofs.Listings.{Each-append, Each-prefix, Each-rest}
use Rattle.map_model.proofs.Trees.{below, tree-is}

both : (x y : Bool) → (x && y) ≡ true → (x ≡ true) × (y ≡ true)
both true y e = (refl, e)
both false y e = cc

-- what passes the test and has P has Q
Each-passing : {X : Type 0} (p : X → Bool) (P Q : X → Type 0) → ((x : X) → p x ≡ true → P x → Q x) → (xs : List X) → list_all p xs ≡ true → Each P xs
    → Each Q xs
Each-passing p P Q one [] e h = tt
Each-passing p P Q one (x ∷ xs) e h = let s = both (p x) (list_all p xs) e in (one x s.0 h.0, Each-passing p P Q one xs s.1 h.1)

-- ---- a thing that fits at the tier b, and stood at the tier a
module _ (a b : ℕ) where
  AreKept-at : (names : List (List ℕ)) (ms : Members) → members_fit b ms ≡ true → AreKept a names ms → AreKept b names ms
  AreKept-at names ms fits h = record {
    unread = h.unread;
    whole = h.whole;
    shallow = leb-true (b + members_depth ms) MAX_DEPTH fits;
    readable = h.readable;
  }

  IsValue-at : (v : PropValue) → value_fits b v ≡ true → IsValue a v → IsValue b v
  IsValue-at (values.Other d) fits h = record {
    kind = h.kind;
    whole = h.whole;
    shallow = leb-true (b + depth d) MAX_DEPTH fits;
    readable = h.readable;
  }
  IsValue-at v fits h = h

IsProperty-at : (a b : ℕ) (p : Property) → property_fits b p ≡ true → IsProperty a p → IsProperty b p
IsProperty-at a b p fits h =
    let s = both (members_fit b p.kept) (value_fits b p.value) fits in
    record { name = h.name; kind = h.kind; value = IsValue-at a b p.value s.1 h.value; kept = AreKept-at a b _ p.kept s.0 h.kept }

AreProperties-at : (a b : ℕ) (ps : List Property) → properties_fit b ps ≡ true → AreProperties a ps → AreProperties b ps
AreProperties-at a b ps fits h = record {
  few = h.few;
  each = Each-passing (property_fits (property_tier b)) (IsProperty (property_tier a)) (IsProperty (property_tier b))
      (IsProperty-at (property_tier a) (property_tier b)) ps fits h.each;
  distinct = h.distinct;
}

pub IsObject-at : (a b : ℕ) (o : Object) → object_fits b o ≡ true → IsObject a o → IsObject b o
IsObject-at a b o fits h =
    let s = both (members_fit b o.kept) (properties_fit b o.properties) fits in
    record {
      placing = h.placing;
      name = h.name;
      gid = h.gid;
      properties = AreProperties-at a b o.properties s.1 h.properties;
      kept = AreKept-at a b _ o.kept s.0 h.kept;
    }

IsBody-at : (a b size : ℕ) (body : Body) → body_fits b body ≡ true → IsBody a size body → IsBody b size body
IsBody-at a b size (Objects os) fits h = (
  h.0,
  Each-passing (object_fits (object_tier b)) (IsObject (object_tier a)) (IsObject (object_tier b)) (IsObject-at (object_tier a) (object_tier b)) os fits h.1,
)
IsBody-at a b size (Group' s r) fits h = ltb-true b deepest_tier fits
IsBody-at a b size body fits h = h

IsLayer-at : (a b size : ℕ) (l : Layer) → own_fits (b, l) ≡ true → IsLayer a size l → IsLayer b size l
IsLayer-at a b size l fits h =
    let s = both (members_fit b l.kept && properties_fit b l.properties) (body_fits b l.body) fits in
    let t = both (members_fit b l.kept) (properties_fit b l.properties) s.0 in
    record {
      name = h.name;
      properties = AreProperties-at a b l.properties t.1 h.properties;
      kept = AreKept-at a b _ l.kept t.0 h.kept;
      body = IsBody-at a b size l.body s.1 h.body;
    }

-- ---- the same of a layer with those that stand in it
module _ (size : ℕ) where
  drawn_list-at : (groups : ℕ) → ((a b : ℕ) (l : Layer) → Each (IsDrawn size) (tree groups a l) → list_all own_fits (tree groups b l) ≡ true
      → Each (IsDrawn size) (tree groups b l))
      → (a b : ℕ) (ls : List Layer) → Each (IsDrawn size) (drawn groups a ls) → list_all own_fits (drawn groups b ls) ≡ true
      → Each (IsDrawn size) (drawn groups b ls)
  drawn_list-at groups one a b [] h fits = tt
  drawn_list-at groups one a b (l ∷ ls) h fits =
      let s = both (list_all own_fits (tree groups b l)) (list_all own_fits (drawn groups b ls))
      (sym (list_all-append own_fits (tree groups b l) (drawn groups b ls)) ∙ fits) in
      Each-append (IsDrawn size) (tree groups b l) (drawn groups b ls)
      (one a b l (Each-prefix (IsDrawn size) (tree groups a l) (drawn groups a ls) h) s.0)
      (drawn_list-at groups one a b ls (Each-rest (IsDrawn size) (tree groups a l) (drawn groups a ls) h) s.1)

  drawn_own-at : (groups a b : ℕ) (l : Layer) → (Each (IsDrawn size) (below groups a l) → list_all own_fits (below groups b l) ≡ true
      → Each (IsDrawn size) (below groups b l))
      → Each (IsDrawn size) (tree groups a l) → list_all own_fits (tree groups b l) ≡ true → Each (IsDrawn size) (tree groups b l)
  drawn_own-at groups a b l deeper h fits =
      let was : Each (IsDrawn size) ((a, bare l) ∷ below groups a l) = rw (tree-is groups a l) at h in
      let all : list_all own_fits ((b, bare l) ∷ below groups b l) ≡ true = rw (tree-is groups b l) at fits in
      let s = both (own_fits (b, bare l)) (list_all own_fits (below groups b l)) all in
      let now : Each (IsDrawn size) ((b, bare l) ∷ below groups b l) = (IsLayer-at a b size (bare l) s.0 was.0, deeper was.1 s.1) in
      rw (tree-is groups b l) now

  pub drawn-at : (groups a b : ℕ) (l : Layer) → Each (IsDrawn size) (tree groups a l) → list_all own_fits (tree groups b l) ≡ true
      → Each (IsDrawn size) (tree groups b l)
  drawn-at zero a b l = drawn_own-at zero a b l (λ h fits. tt)
  drawn-at (suc groups) a b l = drawn_own-at (suc groups) a b l (drawn_list-at groups (drawn-at groups) (inner_tier a) (inner_tier b) (inside l))

-- ---- a layer of a map is drawn whole: no group in it is cut off
-- in a layer that stands as deep as one may, none stands
childless : (tier size : ℕ) (b : Body) → tier ≡ deepest_tier → IsBody tier size b → or_empty (group_in b) ≡ []
childless tier size (Group' s r) full h = absurd (omega (arith, full, h))
childless tier size b full h = refl

module _ (size : ℕ) where
  whole_list : (groups k many tier : ℕ) → ((l : Layer) → Each (IsDrawn size) (tree k tier l) → tree many tier l ≡ tree groups tier l) → (ls : List Layer)
      → Each (IsDrawn size) (drawn k tier ls) → drawn many tier ls ≡ drawn groups tier ls
  whole_list groups k many tier one [] h = refl
  whole_list groups k many tier one (l ∷ ls) h =
      let first = one l (Each-prefix (IsDrawn size) (tree k tier l) (drawn k tier ls) h) in
      let later = whole_list groups k many tier one ls (Each-rest (IsDrawn size) (tree k tier l) (drawn k tier ls) h) in
      λ i. first i ++ later i

  -- with room for as many groups as may stand there, all is drawn that is drawn with room for more
  pub whole : (groups k many tier : ℕ) (l : Layer) → groups ≤ k → groups ≤ many → tier + 2 * groups ≡ deepest_tier → Each (IsDrawn size) (tree k tier l)
      → tree many tier l ≡ tree groups tier l
  whole zero k many tier l low few deep h =
      let was : Each (IsDrawn size) ((tier, bare l) ∷ below k tier l) = rw (tree-is k tier l) at h in
      let none = childless tier size l.body (omega (arith, deep)) (IsLayer-without (λ ls. []) tier size l was.0).body in
      tree-alone many tier l none ∙ sym (tree-alone zero tier l none)
  whole (suc groups) zero many tier l low few deep h = absurd (omega (arith, low))
  whole (suc groups) (suc k) zero tier l low few deep h = absurd (omega (arith, few))
  whole (suc groups) (suc k) (suc many) tier l low few deep h =
      let was : Each (IsDrawn size) ((tier, bare l) ∷ drawn k (inner_tier tier) (inside l)) = rw (tree-is (suc k) tier l) at h in
      let deeper : inner_tier tier + 2 * groups ≡ deepest_tier = omega (arith, deep) in
      tree-is (suc many) tier l
      ∙ ap (λ ds. (tier, bare l) ∷ ds)
      (whole_list groups k many (inner_tier tier) (λ x is. whole groups k many (inner_tier tier) x (omega (arith, low)) (omega (arith, few)) deeper is)
      (inside l) was.1)
      ∙ sym (tree-is (suc groups) tier l)

-- ---- what is read off layers alone is the same at each tier
module _ {A : Type 0} (f : Layer → List A) where
  read_list : (groups : ℕ) → ((a b : ℕ) (l : Layer) → flat_map (λ d. f d.1) (tree groups a l) ≡ flat_map (λ d. f d.1) (tree groups b l)) → (a b : ℕ)
      (ls : List Layer)
      → flat_map (λ d. f d.1) (drawn groups a ls) ≡ flat_map (λ d. f d.1) (drawn groups b ls)
  read_list groups one a b [] = refl
  read_list groups one a b (l ∷ ls) =
      flat_map-append (λ d. f d.1) (tree groups a l) (drawn groups a ls) ∙ (λ i. one a b l i ++ read_list groups one a b ls i)
      ∙ sym (flat_map-append (λ d. f d.1) (tree groups b l) (drawn groups b ls))

  pub read-at : (groups a b : ℕ) (l : Layer) → flat_map (λ d. f d.1) (tree groups a l) ≡ flat_map (λ d. f d.1) (tree groups b l)
  read-at zero a b l = ap (flat_map (λ d. f d.1)) (tree-is zero a l) ∙ sym (ap (flat_map (λ d. f d.1)) (tree-is zero b l))
  read-at (suc groups) a b l =
      ap (flat_map (λ d. f d.1)) (tree-is (suc groups) a l)
      ∙ ap (λ xs. f (bare l) ++ xs) (read_list groups (read-at groups) (inner_tier a) (inner_tier b) (inside l))
      ∙ sym (ap (flat_map (λ d. f d.1)) (tree-is (suc groups) b l))
