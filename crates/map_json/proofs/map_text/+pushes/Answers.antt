use Rattle.std.proofs.Common.{◌≡◌, ◌*◌, ◌-◌, ◌≤◌, suc, None, Some, OnOk, List, [], ◌∷◌, ◌++◌, string_bytes, false, true, sym, ap, ◌∙◌, subst, arith, rules}
use Rattle.std.proofs.Common.{append_assoc}
use Rattle.std.specs.List.Sorted.{IsStrictlySortedBy}
use Rattle.std.specs.Map.{keys_of}
use Rattle.std.specs.String.{string_cmp}
use Rattle.json.specs.Print.{quoted}
use Rattle.serde_json.specs.Data.{depth, item, members_depth, object}
use Rattle.serde_json.specs.Read.{max_depth}
use Rattle.serde_json.specs.View.{view, members_view}
use Rattle.serde_json.specs.Written.{comma_if, compact_text, items_text, has_float, members_have_float}
use Rattle.serde_json.proofs.Views.{Entry}
use Rattle.map_model.specs.declared.names.TheConstants.{DATA, LAYERS}
use Rattle.map_model.specs.declared.parts.Layer.{Layer}
use Rattle.map_model.specs.Groups.{group_in}
use Rattle.map_model.specs.Lists.{or_empty}
use Rattle.map_values.specs.Texts.{Appends}
use Rattle.map_json.specs.Appending.{AreWritten, instead, replaced}
use Rattle.map_json.specs.Details.{frame_in, layer_in, layers_in, numbers_in}
use Rattle.map_values.specs.Arrays.{array_by, items_by, whole_tree}
use Rattle.map_json.proofs.Outlines.{frame_in_plain, layer_in-frame, layer_in-group, layer_in-numbers, layer_in-groups}
use Rattle.map_json.proofs.PutMembers.{ArePut, ArePut-none, ArePut-more, ArePut-all}
use Rattle.map_values.proofs.Returning.{ItemsReturn, ItemsReturn-none, ItemsReturn-item, Returns-array}
use Rattle.map_json.proofs.Returning.{regroup_item}
use Rattle.map_json.proofs.Written.{AreWritten-first, AreWritten-rest, AreWritten-inside, AreWritten-lacks, AreWritten-values}
use Rattle.map_json.proofs.map_text.+pushes.Goals.{push_layer-then-groups-gt0+in_default, push_layer-else-groups-gt0}
use Rattle.map_json.proofs.map_text.+pushes.Goals as goal

pub push_framed-loop-name-init : goal.push_framed-loop-name-init
push_framed-loop-name-init t c =
    let d = layers_in c.args.writing.detail c.args.groups c.args.writing.size.width c.args.writing.size.height c.args.layers.now in
    let held : c.into_iter-name-iterator.result ≡ c.members.result.now.entries = search rules in
    ArePut-none LAYERS.now d c.args.frame.now c.push.new.self.items c.into_iter-name-iterator.result
    (ap members_view held ∙ c.members.ensures) c.requires.whole c.requires.shallow

pub push_framed-loop-name-preserved : goal.push_framed-loop-name-preserved
push_framed-loop-name-preserved t c =
    let l = c.loop-name in
    let d = layers_in c.args.writing.detail c.args.groups c.args.writing.size.width c.args.writing.size.height c.args.layers.now in
    let e : Entry = (c.in-Some.name.now, c.in-Some.value.now) in
    let k = string_bytes c.in-Some.name.now in
    let held : c.into_iter-name-iterator.result ≡ c.members.result.now.entries = search rules in
    let put = subst (λ es. ArePut LAYERS.now d c.args.frame.now c.push.new.self.items c.into_iter-name-iterator.result es l.later l.text.items)
    c.in-Some.ensures.steps l.invariant in
    let ordered = subst (λ es. IsStrictlySortedBy string_cmp (keys_of es)) (sym held) c.iter-name-items.ensures.ordered in
    let named = subst (λ n. c.push_name.new.text.items ≡ l.text.items ++ (comma_if l.later ++ (quoted n ++ 58 ∷ []))) c.as_str.ensures.value
    c.in_ok-push_name.ensures in
    let shows = subst (λ n. Appends (instead LAYERS.now d n (view c.in-Some.value.now)) c.push_name.new.text.items c.push_member.new.text.items)
    c.as_str-in-loop-name.ensures.value c.in_ok-push_member.ensures in
    ArePut-more LAYERS.now d c.args.frame.now c.push.new.self.items c.into_iter-name-iterator.result c.next.new.self l.later l.text.items
    c.push_name.new.text.items c.push_member.new.text.items e put ordered named shows

pub push_framed-returns : goal.push_framed-returns
push_framed-returns t c =
    let l = c.loop-name in
    let d = layers_in c.args.writing.detail c.args.groups c.args.writing.size.width c.args.writing.size.height c.args.layers.now in
    let none : l.name-iterator ≡ [] = search rules in
    let held : c.into_iter-name-iterator.result ≡ c.members.result.now.entries = search rules in
    let put = subst (λ es. ArePut LAYERS.now d c.args.frame.now c.push.new.self.items c.into_iter-name-iterator.result es l.later l.text.items) none l.invariant
    in
    ArePut-all LAYERS.now d c.args.frame.now c.push.new.self.items c.into_iter-name-iterator.result l.later c.args.text.now.items l.text.items
    c.push-2.new.self.items put (ap members_view held ∙ c.members.ensures)
    c.in_ok-push.ensures.items c.in_ok-push-2.ensures.items

pub push_layer-push_framed-requires : goal.push_layer-push_framed-requires
push_layer-push_framed-requires t c =
    let size = c.args.writing.size.width * c.args.writing.size.height in
    let l = c.args.layer.now in
    let group : group_in l.body ≡ Some c.in-Some.inside.now = search rules in
    let more : c.args.groups ≡ suc (c.args.groups - 1) = omega (arith, c.if-groups-gt0.true) in
    let plain = frame_in_plain c.args.writing.detail c.args.groups c.args.writing.size.width c.args.writing.size.height l c.requires in
    let deep = plain.1 in
    let is : c.in_ok-frame.frame ≡ frame_in c.args.writing.detail c.args.writing.size.width c.args.writing.size.height l = c.in_ok-frame.ensures in (
      omega (arith, c.if-groups-gt0.true),
      (
        AreWritten-inside c.args.groups (c.args.groups - 1) size l c.in-Some.inside.now more (ap or_empty group) c.requires,
        (ap members_have_float is ∙ plain.0, subst (λ ms. members_depth ms ≤ max_depth) (sym is) (omega (arith, deep))),
      ),
    )

pub push_layer-returns-in-Some : goal.push_layer-returns-in-Some
push_layer-returns-in-Some t c =
    let l = c.args.layer.now in
    let group : group_in l.body ≡ Some c.in-Some.inside.now = search rules in
    let less = c.args.groups - 1 in
    let more : c.args.groups ≡ suc less = omega (arith, c.if-groups-gt0.true) in
    let is : c.in_ok-frame.frame ≡ frame_in c.args.writing.detail c.args.writing.size.width c.args.writing.size.height l = c.in_ok-frame.ensures in
    let whole = ap (λ ms. object (replaced LAYERS.now
    (layers_in c.args.writing.detail less c.args.writing.size.width c.args.writing.size.height c.in-Some.inside.now) ms)) is
    ∙ layer_in-group c.args.writing.detail c.args.groups less c.args.writing.size.width c.args.writing.size.height l c.in-Some.inside.now more group
    (AreWritten-lacks c.args.groups (c.args.writing.size.width * c.args.writing.size.height) l c.requires) in
    subst (λ d. OnOk c.push_framed.result (Appends d c.args.text.now.items c.push_framed.new.text.items)) whole c.push_framed.ensures

pub push_layer-push_numbered-requires-clause-numbers : goal.push_layer-push_numbered-requires-clause-numbers
push_layer-push_numbered-requires-clause-numbers t c =
    let l = c.args.layer.now in
    let some : numbers_in c.args.writing.detail l.body ≡ Some c.in-Some-numbers_in.numbers.now = search rules in
    AreWritten-values c.args.writing.detail c.args.groups (c.args.writing.size.width * c.args.writing.size.height) l c.in-Some-numbers_in.numbers.now some
    c.requires

pub push_layer-push_numbered-requires-clause-whole : goal.push_layer-push_numbered-requires-clause-whole
push_layer-push_numbered-requires-clause-whole t c =
    let plain = frame_in_plain c.args.writing.detail c.args.groups c.args.writing.size.width c.args.writing.size.height c.args.layer.now c.requires in
    ap members_have_float c.in_ok-frame.ensures ∙ plain.0

pub push_layer-push_numbered-requires-clause-shallow : goal.push_layer-push_numbered-requires-clause-shallow
push_layer-push_numbered-requires-clause-shallow t c =
    let plain = frame_in_plain c.args.writing.detail c.args.groups c.args.writing.size.width c.args.writing.size.height c.args.layer.now c.requires in
    let deep = plain.1 in
    subst (λ ms. members_depth ms ≤ max_depth) (sym c.in_ok-frame.ensures) (omega (arith, deep))

pub push_layer-returns-in-Some-numbers_in : goal.push_layer-returns-in-Some-numbers_in
push_layer-returns-in-Some-numbers_in t c =
    let l = c.args.layer.now in
    let numbers = c.in-Some-numbers_in.numbers.now in
    let some : numbers_in c.args.writing.detail l.body ≡ Some numbers = search rules in
    let whole = ap (λ ms. object (replaced DATA.now (array_by whole_tree numbers) ms)) c.in_ok-frame.ensures
    ∙ layer_in-numbers c.args.writing.detail c.args.groups c.args.writing.size.width c.args.writing.size.height l numbers some
    (AreWritten-lacks c.args.groups (c.args.writing.size.width * c.args.writing.size.height) l c.requires) in
    subst (λ d. OnOk c.push_numbered.result (Appends d c.args.text.now.items c.push_numbered.new.text.items)) whole c.push_numbered.ensures

pub push_layer-push_value-requires-clause-whole : goal.push_layer-push_value-requires-clause-whole
push_layer-push_value-requires-clause-whole t c =
    let plain = frame_in_plain c.args.writing.detail c.args.groups c.args.writing.size.width c.args.writing.size.height c.args.layer.now c.requires in
    ap has_float (c.into_value.ensures ∙ ap object c.in_ok-frame.ensures) ∙ plain.0

pub push_layer-push_value-requires-clause-shallow : goal.push_layer-push_value-requires-clause-shallow
push_layer-push_value-requires-clause-shallow t c =
    let plain = frame_in_plain c.args.writing.detail c.args.groups c.args.writing.size.width c.args.writing.size.height c.args.layer.now c.requires in
    subst (λ d. depth d ≤ max_depth) (sym (c.into_value.ensures ∙ ap object c.in_ok-frame.ensures)) plain.1

pub push_layer-returns : goal.push_layer-returns
push_layer-returns t c =
    let l = c.args.layer.now in
    let plain : numbers_in c.args.writing.detail l.body ≡ None = search rules in
    let whole : object (frame_in c.args.writing.detail c.args.writing.size.width c.args.writing.size.height l)
    ≡ layer_in c.args.writing.detail c.args.groups c.args.writing.size.width c.args.writing.size.height l =
    elim c.if-groups-gt0.branch [
      | push_layer-then-groups-gt0+in_default w ↦
          let none : group_in l.body ≡ None = search rules in
          layer_in-frame c.args.writing.detail c.args.groups c.args.writing.size.width c.args.writing.size.height l plain none
      | push_layer-else-groups-gt0 w ↦ layer_in-groups c.args.writing.detail c.args.groups c.args.writing.size.width c.args.writing.size.height l plain
          (omega (arith, w.if-groups-gt0))
    ] in
    subst (λ d. OnOk c.push_value.result (Appends d c.args.text.now.items c.push_value.new.text.items))
    (c.into_value.ensures ∙ (ap object c.in_ok-frame.ensures ∙ whole)) c.push_value.ensures

pub push_layers-push_layer-requires : goal.push_layers-push_layer-requires
push_layers-push_layer-requires t c = (
  omega arith,
  AreWritten-first c.args.groups (c.args.writing.size.width * c.args.writing.size.height) c.in-Some.layer.now c.next.new.self
      (subst (AreWritten c.args.groups (c.args.writing.size.width * c.args.writing.size.height)) c.in-Some.ensures.steps c.loop-layer.invariant.2),
)

pub push_layers-loop-layer-preserved : goal.push_layers-loop-layer-preserved
push_layers-loop-layer-preserved t c =
    let l = c.loop-layer in
    let tree = layer_in c.args.writing.detail c.args.groups c.args.writing.size.width c.args.writing.size.height in
    let d = tree c.in-Some.layer.now in
    let left = items_by tree c.next.new.self in
    let step : items_by tree l.layer-iterator ≡ item d left = ap (items_by tree) c.in-Some.ensures.steps in
    let before = c.push_comma.new.text.items in
    let shows : Appends d before c.push_layer.new.text.items = c.in_ok-push_layer.ensures in (
      ap (λ t. t ++ items_text true left) (shows.0 ∙ ap (λ t. t ++ compact_text d) c.in_ok-push_comma.ensures)
          ∙ (regroup_item l.text.items (comma_if l.later) (compact_text d) (items_text true left)
          ∙ (ap (λ ds. l.text.items ++ items_text l.later ds) (sym step) ∙ l.invariant.0)),
      λ h. l.invariant.1 (subst ItemsReturn (sym step) (ItemsReturn-item d left shows.1 h)),
      AreWritten-rest c.args.groups (c.args.writing.size.width * c.args.writing.size.height) c.in-Some.layer.now c.next.new.self
          (subst (AreWritten c.args.groups (c.args.writing.size.width * c.args.writing.size.height)) c.in-Some.ensures.steps l.invariant.2),
    )

pub push_layers-returns : goal.push_layers-returns
push_layers-returns t c =
    let l = c.loop-layer in
    let tree = layer_in c.args.writing.detail c.args.groups c.args.writing.size.width c.args.writing.size.height in
    let all = items_by tree c.args.layers.now in
    let none : l.layer-iterator ≡ [] = search rules in (
      c.in_ok-push-2.ensures.items
          ∙ (ap (λ (ls : List Layer). l.text.items ++ items_text l.later (items_by tree ls)) (sym none)
          ∙ (l.invariant.0 ∙ (ap (λ t. t ++ items_text false all) c.in_ok-push.ensures.items
          ∙ append_assoc c.args.text.now.items (91 ∷ []) (items_text false all)))),
      Returns-array all (l.invariant.1 (subst (λ ls. ItemsReturn (items_by tree ls)) (sym none) ItemsReturn-none)),
    )
