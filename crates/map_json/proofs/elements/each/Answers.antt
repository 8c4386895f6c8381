use Rattle.std.proofs.Common.{◌≡◌, ◌++◌, ◌∷◌, [], length, rules, arith, sym, ap, ◌∙◌, length-append}
use Rattle.std.proofs.lemmas.List.{nil_from_length}
use Rattle.std.specs.Vec.Iter.{into_iter_items}
use Rattle.serde_json.specs.View.{view as data_of, items_view}
use Rattle.map_json.specs.Elements.{each}
use Rattle.map_json.proofs.Loops.{with_prefix, with_prefix-element, with_prefix-all}
use Rattle.map_json.proofs.elements.each.Goals as goal

pub loop-value-preserved : goal.loop-value-preserved
loop-value-preserved g c =
    let read = g.E.Element.reads c.args.size in
    let listed = g.L.ElementList.listed in
    let l = c.loop-value in
    let later = c.next.new.self in
    let steps : into_iter_items l.value-iterator ≡ c.in-Some.value ∷ into_iter_items later = search rules in
    let put : listed c.add.new.self ≡ listed l.found ++ c.in_ok-element.element ∷ [] = search rules in
    let more = with_prefix-element read (listed l.found) (data_of c.in-Some.value) (items_view (into_iter_items later))
    c.in_ok-element.element c.in_ok-element.ensures in (
      tt,
      tt,
      omega (arith, simp length-append at (ap length put), ap length steps, l.invariant.2),
      rw put (sym more ∙ (ap (λ vs. with_prefix (listed l.found) (each read (items_view vs))) (sym steps) ∙ l.invariant.3)),
    )

pub returns : goal.returns
returns g c =
    let l = c.loop-value in
    let none = nil_from_length (into_iter_items l.value-iterator) (search (rules, c.in-None.ensures.steps.0)) in
    with_prefix-all (g.E.Element.reads c.args.size) (g.L.ElementList.listed l.found) _ (rw none at l.invariant.3)
