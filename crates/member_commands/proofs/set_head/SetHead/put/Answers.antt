use Rattle.std.proofs.Common.{refl, sym, ap, ◌∙◌, subst}
use Rattle.fractions.specs.Places.{is_inner}
use Rattle.fractions.specs.Lines.{members_said, put_words}
use Rattle.map_json.specs.Words.{AreWords}
use Rattle.member_commands.specs.Edits.{after_put_members, is_early}
use Rattle.member_commands.proofs.Members.{absent-refused, ok_then, put_fits}
use Rattle.member_commands.proofs.set_head.SetHead.put.Goals as goal

pub returns-then-not-is_there-clause-refusal : goal.returns-then-not-is_there-clause-refusal
returns-then-not-is_there-clause-refusal g c =
    absent-refused g.H.Head.parts g.met.H.Head.laws c.args.document.now c.args.id c.is_there.result c.is_there.ensures.there c.if-not-is_there.true is_early
    (after_put_members g.H.Head.parts c.args.fractions c.args.document.now c.args.id c.args.json.now) (λ e. rw e refl) c.absence.result c.absence.ensures

pub json_words-requires : goal.json_words-requires
json_words-requires g c = ap is_inner c.place.ensures ∙ g.met.H.Head.laws.inner

pub saying-requires : goal.saying-requires
saying-requires g c = λ head e.
    let p = g.H.Head.parts in
    let f = c.args.fractions in
    let m = p.moved f c.args.document.now in
    let words = c.in-Ok.words in
    let is = ok_then c.put_words.result _ c.put_words.ensures c.if-is_err.ensures.value in
    let said = subst (λ q. AreWords (members_said f q m words)) c.place.ensures (c.in-Ok.ensures.words m) in
    let put = is ∙ ap (λ q. put_words f q c.moved-moved.result words c.in-Ok-members.members) c.place-2.ensures
    ∙ ap (λ n. put_words f p.place n words c.in-Ok-members.members) c.moved-moved.ensures in
    put_fits p g.met.H.Head.laws c.args.id f c.args.document.now c.is_there.ensures.well_formed m words c.in-Ok-members.members c.in-Ok-members.ensures said
    (sym c.are_own.ensures ∙ c.if-not-are_own.false) head (ap (p.read c.args.document.now) (sym put) ∙ e)
