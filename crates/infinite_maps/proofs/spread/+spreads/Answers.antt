use Rattle.std.proofs.Common.{◌≡◌, [], ◌∷◌, ◌++◌, map, get_or, sym, ap, ◌∙◌, subst, append_assoc, string_bytes, arith}
use Rattle.std.specs.List.Sorted.{IsStrictlySortedBy}
use Rattle.std.specs.Map.{keys_of}
use Rattle.std.specs.String.{string_cmp}
use Rattle.serde_json.specs.View.{view, members_view, items_of}
use Rattle.serde_json.specs.declared.value.Value.{Value}
use Rattle.serde_json.proofs.Views.{Entry, put_last}
use Rattle.infinite_maps.specs.Infinite.{below, spread, items_spread, members_spread}
use Rattle.json_trees.proofs.Loops.{pushed}
use Rattle.infinite_maps.proofs.Walks.{members_spread-put, items_spread-items_of, map_whole}
use Rattle.infinite_maps.proofs.spread.+spreads.Goals as goal

pub members_spread-loop-key-preserved : goal.members_spread-loop-key-preserved
members_spread-loop-key-preserved t c =
    let l = c.loop-key in
    let done = l.invariant.0 in
    let p = c.args.plane in
    let part = c.args.part in
    let e : Entry = (c.in-Some.key.now, c.in-Some.member.now) in
    let left = c.next.new.self in
    let all : c.args.members.now.entries ≡ done ++ e ∷ left = l.invariant.1 ∙ ap (λ es. done ++ es) c.in-Some.ensures.steps in
    let last = put_last done e left (subst (λ es. IsStrictlySortedBy string_cmp (keys_of es)) all c.iter-key-items.ensures.ordered) in
    let same : view c.in_ok-value.value ≡ spread p (below part (string_bytes c.in-Some.key.now)) (view c.in-Some.member.now)
    = c.in_ok-value.ensures ∙ ap (λ q. spread p q (view c.in-Some.member.now)) (c.below.ensures ∙ ap (below part) c.as_str.ensures.value) in (
      done ++ e ∷ [],
      all ∙ sym (append_assoc done (e ∷ []) left),
      c.in_ok-put.ensures.ok ∙ rw (c.as_str-in-loop-key.ensures.value, same, l.invariant.2)
          (sym (members_spread-put p part (string_bytes e.0) (view e.1) (members_view done)) ∙ ap (members_spread p part) last),
    )

pub items_spread-loop-item-preserved : goal.items_spread-loop-item-preserved
items_spread-loop-item-preserved t c =
    let l = c.loop-item in
    let made = λ (v : Value). spread c.args.plane c.args.part (view v) in
    let items = c.deref-item-items.result.now in
    let item = c.item-item.result in
    let new : view c.in_ok-spread.field-0 ≡ made (get_or items l.item-index item) = c.in_ok-spread.ensures ∙ ap made c.item-item.is in
    rw c.in_ok-push.ensures.items (pushed view made l.all.items c.in_ok-spread.field-0 items l.item-index item l.invariant c.loop-item-test.true new)

pub items_spread-returns : goal.items_spread-returns
items_spread-returns t c =
    ap items_of (c.loop-item.invariant ∙ map_whole (spread c.args.plane c.args.part) _ _ (omega (arith, c.loop-item-test.false)))
    ∙ items_spread-items_of c.args.plane c.args.part (map view c.deref-item-items.result.now)
    ∙ ap (λ vs. items_spread c.args.plane c.args.part (items_of (map view vs))) c.deref-item-items.ensures.value
