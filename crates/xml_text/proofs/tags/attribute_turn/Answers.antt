use Rattle.std.proofs.Common.{◌-◌, length, arith}
use Rattle.std.proofs.lemmas.List.{map-append}
use Rattle.xml_text.specs.Places.{attribute_place}
use Rattle.xml_text.proofs.PlaceLaws.{attributes_longer, attributes_more}
use Rattle.xml_text.proofs.tags.attribute_turn.Goals as goal

pub returns-then-not-has_name-clause-places : goal.returns-then-not-has_name-clause-places
returns-then-not-has_name-clause-places c = λ low h. attributes_longer low _ _ _ h (omega (arith, c.unblanked-inner.ensures.shorter))

pub returns-clause-places : goal.returns-clause-places
returns-clause-places c = λ low h.
    let a = c.in_ok-attribute.ensures in
    let v = a.value in
    rw (c.in_ok-push.ensures.items, map-append attribute_place _ _)
    (attributes_more low (c.args.whole - length c.args.text.now) (c.args.whole - length c.in_ok-attribute.rest.now) _ _ h
    (omega (arith, a.from, c.unblanked-inner.ensures.shorter), omega (arith, v.0, v.1, v.2), omega (arith, a.end)) v)
