use Rattle.std.proofs.Common.{[], ◌∷◌, drop, sym, subst}
use Rattle.std.proofs.lemmas.Bool.Decides.{Decides-eqb}
use Rattle.std.proofs.lemmas.Slice.Eq.{starts_is}
use Rattle.json.specs.Lex.{lex, between}
use Rattle.tiled_maps.specs.Lexemes.{AreEmpty}
use Rattle.tiled_maps.proofs.LookBytes.{colon_empty, colon_space_empty}
use Rattle.tiled_maps.proofs.look.is_empty.Goals as goal

pub returns-then-starts_with : goal.returns-then-starts_with
returns-then-starts_with c e =
    let is = (starts_is Decides-eqb c.args.rest.now (58 ∷ 34 ∷ 34 ∷ []) c.starts_with.result c.starts_with.ensures.value).0 e in
    subst (λ t. AreEmpty (lex between t)) (sym is) (colon_empty (drop 3 c.args.rest.now))

pub returns-else-starts_with : goal.returns-else-starts_with
returns-else-starts_with c e =
    let other = c.starts_with-else-starts_with in
    let is = (starts_is Decides-eqb c.args.rest.now (58 ∷ 32 ∷ 34 ∷ 34 ∷ []) other.result other.ensures.value).0 e in
    subst (λ t. AreEmpty (lex between t)) (sym is) (colon_space_empty (drop 4 c.args.rest.now))
