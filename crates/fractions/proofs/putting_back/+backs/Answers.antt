use Rattle.std.proofs.Common.{◌≡◌, [], ◌∷◌, ◌++◌, map, get_or, sym, ap, ◌∙◌, subst, append_assoc}
use Rattle.std.specs.List.Sorted.{IsStrictlySortedBy}
use Rattle.std.specs.Map.{keys_of}
use Rattle.std.specs.String.{string_cmp}
use Rattle.std.proofs.Common.{string_bytes, arith}
use Rattle.serde_json.specs.View.{view, members_view, items_of}
use Rattle.serde_json.specs.declared.value.Value.{Value}
use Rattle.serde_json.proofs.Views.{Entry, put_last}
use Rattle.fractions.specs.Back.{back, items_back, members_back}
use Rattle.fractions.proofs.Law.{members_back-put}
use Rattle.fractions.proofs.Walks.{items_back-items_of, map_whole}
use Rattle.json_trees.proofs.Loops.{pushed}
use Rattle.fractions.proofs.putting_back.+backs.Goals as goal

pub members_back-loop-key-preserved : goal.members_back-loop-key-preserved
members_back-loop-key-preserved t c =
    let l = c.loop-key in
    let done = l.invariant.0 in
    let e : Entry = (c.in-Some.key.now, c.in-Some.member.now) in
    let left = c.next.new.self in
    let all : c.args.members.now.entries ≡ done ++ e ∷ left = l.invariant.1 ∙ ap (λ es. done ++ es) c.in-Some.ensures.steps in
    let last = put_last done e left (subst (λ es. IsStrictlySortedBy string_cmp (keys_of es)) all c.iter-key-items.ensures.ordered) in
    let same : view c.in_ok-value.value ≡ back (view c.in-Some.member.now) = c.in_ok-value.ensures in (
      done ++ e ∷ [],
      all ∙ sym (append_assoc done (e ∷ []) left),
      c.in_ok-put.ensures.ok
          ∙ rw (c.as_str.ensures.value, same, l.invariant.2)
          (sym (members_back-put (string_bytes e.0) (view e.1) (members_view done)) ∙ ap (members_back) last),
    )

pub items_back-loop-item-preserved : goal.items_back-loop-item-preserved
items_back-loop-item-preserved t c =
    let l = c.loop-item in
    let made = λ (v : Value). back (view v) in
    let items = c.deref-item-items.result.now in
    let item = c.item-item.result in
    let new : view c.in_ok-back.field-0 ≡ made (get_or items l.item-index item) = c.in_ok-back.ensures ∙ ap made c.item-item.is in
    rw c.in_ok-push.ensures.items (pushed view made l.all.items c.in_ok-back.field-0 items l.item-index item l.invariant c.loop-item-test.true new)

pub items_back-returns : goal.items_back-returns
items_back-returns t c = ap items_of (c.loop-item.invariant ∙ map_whole back _ _ (omega (arith, c.loop-item-test.false)))
    ∙ items_back-items_of (map view c.deref-item-items.result.now) ∙ ap (λ vs. items_back (items_of (map view vs))) c.deref-item-items.ensures.value
