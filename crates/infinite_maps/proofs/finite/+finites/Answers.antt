use Rattle.std.proofs.Common.{◌≡◌, [], ◌∷◌, ◌++◌, map, sym, ap, ◌∙◌, subst, append_assoc, string_bytes, arith}
use Rattle.std.specs.List.Sorted.{IsStrictlySortedBy}
use Rattle.std.specs.Map.{keys_of}
use Rattle.std.specs.String.{string_cmp}
use Rattle.serde_json.specs.Data.{Members}
use Rattle.serde_json.specs.View.{view, members_view, items_of}
use Rattle.serde_json.proofs.Views.{Entry}
use Rattle.infinite_maps.specs.Finite.{finite, items_finite, with_member, members_blamed}
use Rattle.infinite_maps.proofs.Walks.{map_whole}
use Rattle.infinite_maps.proofs.FiniteWalk.{items_finite-items_of, finite_last, members_blamed_more}
use Rattle.infinite_maps.proofs.finite.+finites.Goals as goal

pub finite_items-returns-clause-tree : goal.finite_items-returns-clause-tree
finite_items-returns-clause-tree t c =
    ap items_of (c.loop-item.invariant.0 ∙ map_whole (finite c.args.plane c.args.part) _ _ (omega (arith, c.loop-item-test.false)))
    ∙ items_finite-items_of c.args.plane c.args.part (map view c.deref-item-items.result.now)
    ∙ ap (λ vs. items_finite c.args.plane c.args.part (items_of (map view vs))) c.deref-item-items.ensures.value

pub finite_members-loop-key-preserved : goal.finite_members-loop-key-preserved
finite_members-loop-key-preserved t c =
    let l = c.loop-key in
    let done = l.invariant.0 in
    let p = c.args.plane in
    let part = c.args.part in
    let e : Entry = (c.in-Some.key.now, c.in-Some.member.now) in
    let left = c.next.new.self in
    let steps = c.in-Some.ensures.steps in
    let all : c.args.members.now.entries ≡ done ++ e ∷ left = l.invariant.1 ∙ ap (λ es. done ++ es) steps in
    let last = finite_last p part done e left (subst (λ es. IsStrictlySortedBy string_cmp (keys_of es)) all c.iter-key-items.ensures.ordered) in (
      done ++ e ∷ [],
      all ∙ sym (append_assoc done (e ∷ []) left),
      c.in_ok-put_member.ensures.member ∙ ap (λ (ms : Members). with_member p part (string_bytes e.0) (view e.1) ms) l.invariant.2 ∙ last,
      λ f h. l.invariant.3 f (ap (λ es. members_blamed f part (members_view es)) steps
          ∙ members_blamed_more f part (string_bytes e.0) (view e.1) (members_view left) h),
    )
