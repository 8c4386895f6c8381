use Rattle.std.proofs.Common.{refl, sym, ap, ◌∙◌}
use Rattle.fractions.specs.Lines.{remove_word}
use Rattle.member_commands.specs.Edits.{after_remove_member, is_early_named}
use Rattle.member_commands.proofs.Members.{absent-refused, drop_fits, ok_then}
use Rattle.member_commands.proofs.set_head.SetHead.remove.Goals as goal

pub returns-then-not-is_there-clause-refusal : goal.returns-then-not-is_there-clause-refusal
returns-then-not-is_there-clause-refusal g c =
    absent-refused g.H.Head.parts g.met.H.Head.laws c.args.document.now c.args.id c.is_there.result c.is_there.ensures.there c.if-not-is_there.true is_early_named
    (after_remove_member g.H.Head.parts c.args.fractions c.args.document.now c.args.id c.args.name.now) (λ e. rw e refl) c.absence.result c.absence.ensures

pub saying-requires : goal.saying-requires
saying-requires g c = λ head e.
    let p = g.H.Head.parts in
    let f = c.args.fractions in
    let is = ok_then c.remove_word.result _ c.remove_word.ensures c.if-is_err.ensures.value in
    let left = is ∙ ap (λ q. remove_word f q c.args.name.now c.in-Ok.members) c.place.ensures in
    drop_fits p g.met.H.Head.laws c.args.id f c.args.document.now c.is_there.ensures.well_formed c.args.name.now c.in-Ok.members c.in-Ok.ensures head
    (ap (p.read c.args.document.now) (sym left) ∙ e)
