use Rattle.std.proofs.Common.{◌≡◌, [], ◌∷◌, ◌++◌, sym, ap, ◌∙◌, subst, rules}
use Rattle.std.specs.List.Sorted.{IsStrictlySortedBy}
use Rattle.std.specs.Map.{keys_of}
use Rattle.std.specs.String.{string_cmp}
use Rattle.json.specs.Print.{quoted}
use Rattle.serde_json.specs.View.{view, members_view}
use Rattle.serde_json.specs.Written.{comma_if}
use Rattle.serde_json.proofs.Views.{Entry}
use Rattle.map_model.specs.declared.names.TheConstants.{DATA}
use Rattle.map_values.specs.Texts.{Appends}
use Rattle.map_json.specs.Appending.{instead}
use Rattle.map_values.specs.Arrays.{array_by, whole_tree}
use Rattle.map_json.proofs.PutMembers.{ArePut, ArePut-none, ArePut-more, ArePut-all}
use Rattle.map_json.proofs.map_text.push_numbered.Goals as goal

pub loop-name-init : goal.loop-name-init
loop-name-init c =
    let held : c.into_iter-name-iterator.result ≡ c.members.result.now.entries = search rules in
    ArePut-none DATA.now (array_by whole_tree c.args.numbers.now) c.args.frame.now c.push.new.self.items c.into_iter-name-iterator.result
    (ap members_view held ∙ c.members.ensures) c.requires.whole c.requires.shallow

pub loop-name-preserved : goal.loop-name-preserved
loop-name-preserved c =
    let l = c.loop-name in
    let d = array_by whole_tree c.args.numbers.now in
    let e : Entry = (c.in-Some.name.now, c.in-Some.value.now) in
    let held : c.into_iter-name-iterator.result ≡ c.members.result.now.entries = search rules in
    let put = subst (λ es. ArePut DATA.now d c.args.frame.now c.push.new.self.items c.into_iter-name-iterator.result es l.later l.text.items)
    c.in-Some.ensures.steps l.invariant in
    let ordered = subst (λ es. IsStrictlySortedBy string_cmp (keys_of es)) (sym held) c.iter-name-items.ensures.ordered in
    let named = subst (λ n. c.push_name.new.text.items ≡ l.text.items ++ (comma_if l.later ++ (quoted n ++ 58 ∷ []))) c.as_str.ensures.value
    c.in_ok-push_name.ensures in
    let shows = subst (λ n. Appends (instead DATA.now d n (view c.in-Some.value.now)) c.push_name.new.text.items c.push_numbered_member.new.text.items)
    c.as_str-in-loop-name.ensures.value c.in_ok-push_numbered_member.ensures in
    ArePut-more DATA.now d c.args.frame.now c.push.new.self.items c.into_iter-name-iterator.result c.next.new.self l.later l.text.items
    c.push_name.new.text.items c.push_numbered_member.new.text.items e put ordered named shows

pub returns : goal.returns
returns c =
    let l = c.loop-name in
    let d = array_by whole_tree c.args.numbers.now in
    let none : l.name-iterator ≡ [] = search rules in
    let held : c.into_iter-name-iterator.result ≡ c.members.result.now.entries = search rules in
    let put = subst (λ es. ArePut DATA.now d c.args.frame.now c.push.new.self.items c.into_iter-name-iterator.result es l.later l.text.items) none l.invariant
    in
    ArePut-all DATA.now d c.args.frame.now c.push.new.self.items c.into_iter-name-iterator.result l.later c.args.text.now.items l.text.items
    c.push-2.new.self.items put (ap members_view held ∙ c.members.ensures)
    c.in_ok-push.ensures.items c.in_ok-push-2.ensures.items
