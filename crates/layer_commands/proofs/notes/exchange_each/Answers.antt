use Rattle.std.proofs.Common.{◌≡◌, ◌+◌, ◌<◌, suc, length, Some, refl, sym, ap, ◌∙◌, subst, arith}
use Rattle.std.proofs.lemmas.Option.{slice_get_read}
use Rattle.std.specs.List.{slice_get, slice_set}
use Rattle.layer_commands.specs.Notes.{FitsNote, own_note, with_note}
use Rattle.layer_commands.proofs.NoteLaws.{all-own, all-with, first_own, get-first_own, next-fits, next-own, next-with, with_first}
use Rattle.layer_commands.proofs.notes.exchange_each.Goals as goal

pub exchange_note-requires : goal.exchange_note-requires
exchange_note-requires c =
    let ns = c.args.notes.now in
    let d = c.args.document.now in
    let n = c.index-notes-at.result in
    let at = c.loop-at.at in
    let within : at < length c.loop-at.notes = omega (arith, c.loop-at-test.true, c.loop-at.auto.notes) in
    let next : slice_get ns at ≡ Some n = sym (get-first_own at ns d) ∙ (ap (λ xs. slice_get xs at) (sym c.loop-at.invariant.notes)
    ∙ slice_get_read c.loop-at.notes (length c.loop-at.notes) at n refl within c.index-notes-at.is) in
    subst (λ x. FitsNote x c.loop-at.document) c.index-notes-at.is (rw c.loop-at.invariant.document (next-fits n at ns d next c.requires))

pub loop-at-preserved : goal.loop-at-preserved
loop-at-preserved c =
    let ns = c.args.notes.now in
    let d = c.args.document.now in
    let n = c.index-notes-at.result in
    let at = c.loop-at.at in
    let within : at < length c.loop-at.notes = omega (arith, c.loop-at-test.true, c.loop-at.auto.notes) in
    let next : slice_get ns at ≡ Some n = sym (get-first_own at ns d) ∙ (ap (λ xs. slice_get xs at) (sym c.loop-at.invariant.notes)
    ∙ slice_get_read c.loop-at.notes (length c.loop-at.notes) at n refl within c.index-notes-at.is) in
    let more : suc at ≡ at + 1 = omega arith in
    record {
      notes = ap (slice_set c.loop-at.notes at) (c.exchange_note.ensures.note ∙ (λ i. own_note (sym c.index-notes-at.is i) (c.loop-at.invariant.document i)))
          ∙ ap (λ xs. slice_set xs at (own_note n (with_first at ns d))) c.loop-at.invariant.notes ∙ next-own n at ns d next
          ∙ ap (λ k. first_own k ns d) more;
      document = c.exchange_note.ensures.document ∙ (λ i. with_note (sym c.index-notes-at.is i) (c.loop-at.invariant.document i)) ∙ next-with n at ns d next
          ∙ ap (λ k. with_first k ns d) more;
    }

pub returns-clause-notes : goal.returns-clause-notes
returns-clause-notes c =
    let end : c.loop-at.at ≡ length c.args.notes.now = omega (arith, c.loop-at-test.false, c.loop-at.auto.at-end) in
    c.loop-at.invariant.notes ∙ (ap (λ k. first_own k c.args.notes.now c.args.document.now) end ∙ all-own c.args.notes.now c.args.document.now)

pub returns-clause-document : goal.returns-clause-document
returns-clause-document c =
    let end : c.loop-at.at ≡ length c.args.notes.now = omega (arith, c.loop-at-test.false, c.loop-at.auto.at-end) in
    c.loop-at.invariant.document ∙ (ap (λ k. with_first k c.args.notes.now c.args.document.now) end ∙ all-with c.args.notes.now c.args.document.now)
