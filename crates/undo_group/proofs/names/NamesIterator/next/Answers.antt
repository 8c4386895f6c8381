use Rattle.std.proofs.Common.{◌<◌, List, ℕ, ◌∷◌, length, map, sym, ◌∙◌, ap, subst, arith}
use Rattle.std.specs.String.{string_bytes}
use Rattle.undo_group.specs.Order.{in_order}
use Rattle.undo_group.proofs.Ordered.{AreAmong-rest, in_order-first}
use Rattle.undo_group.proofs.names.NamesIterator.next.Goals as goal

pub invariant_of-self : goal.invariant_of-self
invariant_of-self c =
    AreAmong-rest c.self.inside.left.now c.in_ok-first.first.now c.in_ok-first.others.now (length c.self.inside.names.now) c.in_ok-first.ensures.cases.0
    c.self.invariant

pub returns-clause-steps : goal.returns-clause-steps
returns-clause-steps c =
    let names = c.self.inside.names.now in
    let others = c.in_ok-first.others.now in
    sym c.self.view_is
    ∙ ap (map string_bytes) (
    in_order-first names c.self.inside.left.now c.in_ok-first.first.now others c.index-self-first.result c.in_ok-first.ensures.cases.0 c.self.invariant
    c.index-self-first.is
    )
    ∙ ap (λ (n : List ℕ). n ∷ map string_bytes (in_order names others)) (ap string_bytes c.index-self-first.is ∙ sym c.as_str.ensures.value)

pub returns-clause-goes : goal.returns-clause-goes
returns-clause-goes c =
    let names = c.self.inside.names.now in
    let others = c.in_ok-first.others.now in
    let steps = sym c.self.view_is
    ∙ ap (map string_bytes) (
    in_order-first names c.self.inside.left.now c.in_ok-first.first.now others c.index-self-first.result c.in_ok-first.ensures.cases.0 c.self.invariant
    c.index-self-first.is
    ) in
    record {
      on = λ _. (tt, tt, subst (λ (l : List (List ℕ)). length (map string_bytes (in_order names others)) < length l) (sym steps) (omega arith));
      keeps = tt;
      rests = λ _. tt;
    }
