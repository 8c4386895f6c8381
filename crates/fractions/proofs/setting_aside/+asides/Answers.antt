use Rattle.std.proofs.Common.{◌≡◌, [], ◌∷◌, ◌++◌, map, get_or, sym, ap, ◌∙◌, subst, append_assoc}
use Rattle.std.specs.List.Sorted.{IsStrictlySortedBy}
use Rattle.std.specs.Map.{keys_of}
use Rattle.std.specs.String.{string_cmp}
use Rattle.std.proofs.Common.{string_bytes, arith}
use Rattle.serde_json.specs.View.{view, members_view, items_of}
use Rattle.serde_json.specs.declared.value.Value.{Value}
use Rattle.serde_json.proofs.Views.{Entry, put_last}
use Rattle.fractions.specs.Lines.{items_moved, members_moved, moved_aside}
use Rattle.fractions.specs.Places.{below}
use Rattle.fractions.proofs.Unmoved.{items_moved-items_of, members_moved-put}
use Rattle.fractions.proofs.Walks.{map_whole}
use Rattle.json_trees.proofs.Loops.{pushed}
use Rattle.fractions.proofs.setting_aside.+asides.Goals as goal

pub members_moved-loop-key-preserved : goal.members_moved-loop-key-preserved
members_moved-loop-key-preserved t c =
    let l = c.loop-key in
    let done = l.invariant.0 in
    let e : Entry = (c.in-Some.key.now, c.in-Some.member.now) in
    let left = c.next.new.self in
    let all : c.args.members.now.entries ≡ done ++ e ∷ left = l.invariant.1 ∙ ap (λ es. done ++ es) c.in-Some.ensures.steps in
    let last = put_last done e left (subst (λ es. IsStrictlySortedBy string_cmp (keys_of es)) all c.iter-key-items.ensures.ordered) in
    let same : view c.in_ok-value.value ≡ moved_aside c.args.moved (below c.args.place (string_bytes c.in-Some.key.now)) (view c.in-Some.member.now)
    = c.in_ok-value.ensures
    ∙ ap (λ p. moved_aside c.args.moved p (view c.in-Some.member.now)) (c.below.ensures ∙ ap (below c.args.place) c.as_str.ensures.value) in (
      done ++ e ∷ [],
      all ∙ sym (append_assoc done (e ∷ []) left),
      c.in_ok-put.ensures.ok
          ∙ rw (c.as_str-in-loop-key.ensures.value, same, l.invariant.2)
          (sym (members_moved-put c.args.moved c.args.place (string_bytes e.0) (view e.1) (members_view done)) ∙ ap (members_moved c.args.moved c.args.place) last),
    )

pub items_moved-loop-item-preserved : goal.items_moved-loop-item-preserved
items_moved-loop-item-preserved t c =
    let l = c.loop-item in
    let made = λ (v : Value). moved_aside c.args.moved c.args.place (view v) in
    let items = c.deref-item-items.result.now in
    let item = c.item-item.result in
    let new : view c.in_ok-moved_aside.field-0 ≡ made (get_or items l.item-index item) = c.in_ok-moved_aside.ensures ∙ ap made c.item-item.is in
    rw c.in_ok-push.ensures.items (pushed view made l.all.items c.in_ok-moved_aside.field-0 items l.item-index item l.invariant c.loop-item-test.true new)

pub items_moved-returns : goal.items_moved-returns
items_moved-returns t c = ap items_of (c.loop-item.invariant ∙ map_whole (moved_aside c.args.moved c.args.place) _ _ (omega (arith, c.loop-item-test.false)))
    ∙ items_moved-items_of c.args.moved c.args.place (map view c.deref-item-items.result.now)
    ∙ ap (λ vs. items_moved c.args.moved c.args.place (items_of (map view vs))) c.deref-item-items.ensures.value
