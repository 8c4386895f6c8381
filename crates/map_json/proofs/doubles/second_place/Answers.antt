use Rattle.std.proofs.Common.{refl, sym, ◌∙◌}
use Rattle.std.proofs.lemmas.Bool.{not-true}
use Rattle.std.specs.Ordering.{is_eq}
use Rattle.std.specs.BTreeSet.{contains}
use Rattle.map_json.proofs.Meetings.{go_on-first, go_on-place}
use Rattle.map_json.proofs.doubles.second_place.Goals as goal

pub loop-at-init : goal.loop-at-init
loop-at-init g c = go_on-first (λ a b. is_eq (g.K.Ord.cmp a b)) (contains g.K.Ord.cmp c.new-met.result) (λ q. rw c.new-met.ensures.empty refl) c.args.keys.now

pub loop-at-preserved : goal.loop-at-preserved
loop-at-preserved g c =
    let cmp = g.K.Ord.cmp in
    let key = c.index-keys-at.result in
    let new = not-true (contains cmp c.loop-at.met key) (sym c.in_ok-insert.ensures.added ∙ c.if-not-branch.false) in
    sym (go_on-place (λ a b. is_eq (cmp a b)) (contains cmp c.loop-at.met)
    (contains cmp c.insert.new.self) c.args.keys.now c.loop-at.at key c.loop-at-test.true c.index-keys-at.is c.in_ok-insert.ensures.updates.0 new)
    ∙ c.loop-at.invariant
