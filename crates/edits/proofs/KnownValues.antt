-- The values that have a tileset, by the lowest first id.
use Rattle.std.proofs.Common.{◌≡◌, ℕ, ◌-◌, ◌^◌, ◌<◌, ◌≤◌, min, List, [], ◌∷◌, Bool, true, false, cond, ◌||◌, nat_eq, nat_le, nat_lt, Option, Some, None}
use Rattle.std.proofs.Common.{is_some, refl, ap, ◌∙◌, arith}
use Rattle.std.proofs.lemmas.Bool.Decides.{nat_tests}
use Rattle.std.proofs.lemmas.Nat.{mod_below}
use Rattle.tile_id.specs.Gid.{base_of}
use Rattle.map_model.specs.declared.parts.MapParts.{MapParts}
use Rattle.map_model.specs.declared.parts.Tileset.{Tileset}
use Rattle.map_model.specs.Lists.{Each}
use Rattle.map_model.specs.Tilesets.{best_of, better}
use Rattle.map_model.specs.WellFormed.{IsTileset, IsWellFormed}
use Rattle.edits.specs.Refusals.{is_known, is_known_from}

-- the lowest first id of tilesets, and no higher than one so far
abbrev pub lowest_of : ℕ → List Tileset → ℕ
lowest_of lowest [] = lowest
lowest_of lowest (t ∷ ts) = lowest_of (min lowest t.first_id) ts

-- one tileset more is there, or is not above a base
some-better : (base lowest : ℕ) (best : Option Tileset) (t : Tileset) → nat_le lowest base ≡ is_some best
    → nat_le (min lowest t.first_id) base ≡ is_some (better base best t)
some-better base lowest None t e = by_test (nat_lt base t.first_id) refl
  where
    by_test : (b : Bool) → nat_lt base t.first_id ≡ b → nat_le (min lowest t.first_id) base ≡ is_some (cond b None (Some t))
    by_test true f = grind (arith, nat_tests)
    by_test false f = grind (arith, nat_tests)
some-better base lowest (Some s) t e = by_test (nat_lt base t.first_id) (nat_lt s.first_id t.first_id)
  where
    low : nat_le (min lowest t.first_id) base ≡ true
    low = grind (arith, nat_tests)

    by_test : (b c : Bool) → nat_le (min lowest t.first_id) base ≡ is_some (cond b (Some s) (cond c (Some t) (Some s)))
    by_test true c = low
    by_test false true = low
    by_test false false = low

some-best : (base lowest : ℕ) (best : Option Tileset) (ts : List Tileset) → nat_le lowest base ≡ is_some best
    → nat_le (lowest_of lowest ts) base ≡ is_some (best_of base best ts)
some-best base lowest best [] e = e
some-best base lowest best (t ∷ ts) e = some-best base (min lowest t.first_id) (better base best t) ts (some-better base lowest best t e)

some-low : (lowest : ℕ) (ts : List Tileset) → 1 ≤ lowest → Each IsTileset ts → 1 ≤ lowest_of lowest ts
some-low lowest [] l each = l
some-low lowest (t ∷ ts) l each = some-low (min lowest t.first_id) ts (omega (arith, each.0.low)) each.1

not_from_zero : (lowest base : ℕ) → 1 ≤ lowest → nat_eq base 0 ≡ true → nat_le lowest base ≡ false
not_from_zero lowest base one e = grind (arith, nat_tests)

not_from_limit : (base : ℕ) → base < 2 ^ 28 → nat_le (2 ^ 32 - 1) base ≡ false
not_from_limit base small = grind (arith, nat_tests)

-- a value of a well-formed map is known exactly from the lowest first id on
pub known-from_lowest : (m : MapParts) (lowest value : ℕ) → IsWellFormed m → lowest ≡ lowest_of (2 ^ 32 - 1) m.tilesets
    → is_known_from lowest value ≡ is_known m value
known-from_lowest m lowest value well e = ap (λ b. nat_eq value 0 || b) (by_base (nat_eq (base_of value) 0) refl)
  where
    one : 1 ≤ lowest
    one = let l = some-low (2 ^ 32 - 1) m.tilesets (omega arith) well.tilesets.each in omega arith

    none : nat_le (2 ^ 32 - 1) (base_of value) ≡ false
    none = not_from_limit (base_of value) (mod_below value (2 ^ 28) (omega arith))

    by_base : (b : Bool) → nat_eq (base_of value) 0 ≡ b → nat_le lowest (base_of value) ≡ is_some (cond b None (best_of (base_of value) None m.tilesets))
    by_base true f = not_from_zero lowest (base_of value) one f
    by_base false f = ap (λ n. nat_le n (base_of value)) e ∙ some-best (base_of value) (2 ^ 32 - 1) None m.tilesets none
