use Rattle.std.proofs.Common.{◌≡◌, ◌∙◌, refl, Bool, true, false, nat_eq, cond, IfSome, IfNone, None}
use Rattle.tile_id.specs.Gid.{base_of}
use Rattle.map_model.specs.Tilesets.{best_of, IsTilesetOf, HasNoTileset}
use Rattle.map_model.proofs.TilesetLemmas.{nat_eq-true, tileset_of-greatest, tileset_of-none}
use Rattle.map_model.proofs.map.Map.tileset_of.Goals as goal

pub returns-clause-found : goal.returns-clause-found
returns-clause-found c =
    let some : base_of c.args.value ≡ 0 → ⊥ = λ e. c.if-base-eq0.false (c.base.ensures ∙ e) in
    elim (nat_eq (base_of c.args.value) 0) as (λ b. IfSome (cond b None (best_of (base_of c.args.value) None c.args.self.now.tilesets))
    (IsTilesetOf c.args.self.now c.args.value))
    [ true ↦ tt | false ↦ tileset_of-greatest c.args.self.now c.args.value some ]

pub returns-clause-none : goal.returns-clause-none
returns-clause-none c = by_test (nat_eq (base_of c.args.value) 0) refl
  where
    by_test : (b : Bool) → nat_eq (base_of c.args.value) 0 ≡ b
        → IfNone (cond b None (best_of (base_of c.args.value) None c.args.self.now.tilesets)) (HasNoTileset c.args.self.now c.args.value)
    by_test true e = absurd (c.if-base-eq0.false (c.base.ensures ∙ nat_eq-true _ _ e))
    by_test false e = tileset_of-none c.args.self.now c.args.value
