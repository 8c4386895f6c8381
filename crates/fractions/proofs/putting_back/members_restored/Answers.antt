use Rattle.std.proofs.Common.{◌≡◌, [], ◌∷◌, ◌++◌, sym, ap, ◌∙◌, subst, append_assoc}
use Rattle.std.specs.List.Sorted.{IsStrictlySortedBy}
use Rattle.std.specs.Map.{keys_of}
use Rattle.std.specs.String.{string_cmp}
use Rattle.std.proofs.Common.{string_bytes}
use Rattle.serde_json.specs.View.{view, members_view}
use Rattle.serde_json.proofs.Views.{Entry, put_last}
use Rattle.std.proofs.Common.{option_and_then}
use Rattle.serde_json.specs.Find.{get_member}
use Rattle.fractions.specs.Aside.{fraction_at}
use Rattle.fractions.specs.Back.{restored, members_restored}
use Rattle.fractions.proofs.Law.{members_restored-put, by_note}
use Rattle.fractions.proofs.putting_back.members_restored.Goals as goal

pub loop-key-preserved : goal.loop-key-preserved
loop-key-preserved c =
    let l = c.loop-key in
    let done = l.invariant.0 in
    let e : Entry = (c.in-Some.key.now, c.in-Some.member.now) in
    let left = c.next.new.self in
    let all : c.args.members.now.entries ≡ done ++ e ∷ left = l.invariant.1 ∙ ap (λ es. done ++ es) c.in-Some.ensures.steps in
    let last = put_last done e left (subst (λ es. IsStrictlySortedBy string_cmp (keys_of es)) all c.iter-key-items.ensures.ordered) in
    let ns = members_view c.args.notes.now.entries in
    let same : view c.in_ok-value.value ≡ by_note ns (string_bytes c.in-Some.key.now) (view c.in-Some.member.now)
    = c.in_ok-value.ensures
    ∙ ap (λ o. restored o (view c.in-Some.member.now))
    (c.note_at.ensures ∙ ap (λ k. option_and_then fraction_at (get_member k ns)) c.as_str.ensures.value) in (
      done ++ e ∷ [],
      all ∙ sym (append_assoc done (e ∷ []) left),
      c.in_ok-put.ensures.ok
          ∙ rw (c.as_str-in-loop-key.ensures.value, same, l.invariant.2)
          (sym (members_restored-put (members_view c.args.notes.now.entries) (string_bytes e.0) (view e.1) (members_view done))
          ∙ ap (members_restored (members_view c.args.notes.now.entries)) last),
    )
