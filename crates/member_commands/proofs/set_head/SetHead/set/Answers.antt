use Rattle.std.proofs.Common.{refl, sym, ap, ◌∙◌, subst}
use Rattle.serde_json.specs.Data.{member, no_members}
use Rattle.serde_json.specs.View.{view}
use Rattle.fractions.specs.Places.{below, is_inner}
use Rattle.fractions.specs.Lines.{put_words, said}
use Rattle.std.proofs.Common.{◌≡◌, Ok}
use Rattle.map_json.specs.Words.{IsWord, word_at}
use Rattle.map_json.proofs.Asides.{member-AreWords}
use Rattle.member_commands.specs.Edits.{after_set_member, is_early_named}
use Rattle.member_commands.proofs.Members.{absent-refused, ok_then, put_fits}
use Rattle.member_commands.proofs.set_head.SetHead.set.Goals as goal

pub returns-then-not-is_there-clause-refusal : goal.returns-then-not-is_there-clause-refusal
returns-then-not-is_there-clause-refusal g c =
    absent-refused g.H.Head.parts g.met.H.Head.laws c.args.document.now c.args.id c.is_there.result c.is_there.ensures.there c.if-not-is_there.true is_early_named
    (after_set_member g.H.Head.parts c.args.fractions c.args.document.now c.args.id c.args.name.now c.args.json.now) (λ e. rw e refl) c.absence.result
    c.absence.ensures

pub json_member-requires : goal.json_member-requires
json_member-requires g c = ap is_inner c.place.ensures ∙ g.met.H.Head.laws.inner

pub saying-requires : goal.saying-requires
saying-requires g c = λ head e.
    let p = g.H.Head.parts in
    let f = c.args.fractions in
    let m = p.moved f c.args.document.now in
    let name = c.args.name.now in
    let value = c.in-Ok.value in
    let words = member name (view value) no_members in
    let says = subst (λ q. word_at f (below q name) c.args.json.now ≡ Ok (view value)) c.place.ensures c.in-Ok.ensures.value in
    let said = subst (λ q. IsWord (said f (below q name) (view value))) c.place.ensures c.in-Ok.ensures.word in
    let is = ok_then c.put_word.result _ c.put_word.ensures c.if-is_err.ensures.value in
    let put = is ∙ ap (λ q. put_words f q c.moved-moved.result words c.in-Ok-members.members) c.place-2.ensures
    ∙ ap (λ n. put_words f p.place n words c.in-Ok-members.members) c.moved-moved.ensures in
    put_fits p g.met.H.Head.laws c.args.id f c.args.document.now c.is_there.ensures.well_formed m words c.in-Ok-members.members c.in-Ok-members.ensures
    (member-AreWords f p.place m name c.args.json.now value c.utf8.name g.met.H.Head.laws.inner says said)
    (rw (sym c.is_own.ensures ∙ c.if-not-is_own.false) refl) head (ap (p.read c.args.document.now) (sym put) ∙ e)
