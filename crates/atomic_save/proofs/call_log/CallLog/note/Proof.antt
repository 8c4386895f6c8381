-- Nothing is done. The log is opened, and closed at one call more, which no memory holds.
use Rattle.std.proofs.Common.{List, [], ◌∷◌, refl}
use Rattle.std.proofs.raw_atomic.Walks.{proved}
use base.Fml.{ftrue, flft}
use base.Logic.{id⊢}
use mir.Syntax.{named}
use mir.Val.{Val, vunit}
use types.Kit.{‵, raw, ◌⊛◌, ◌$◌, ◌∵◌, !, qed, move, drop, use1, split, join, fsplit, fsplit3, feq_i, suffices, frame, group, done}
use types.Run.{unit_lit, of_opd, returns, enter}
use types.ByLocal.{alloc_all, pass_all, free_all, look_at, sets}
use denote.Builtin.{bool}
use denote.Exit.{yes}
use denote.Plain.{bool_vals, bool_Tells}
use denote.RattleType.{owns}
use denote.Ref.{mut_vals, mut_Tells, shr_vals, shr_Tells}
use denote.Signature.{Slot, plain, types_at, shr_ref_to, named_lft, name_of, meet_at}
use denote.Steps.{nothing, opens, closes}
use denote.Triple.Walked.{Stays, says, stay_ref, Goes-ref, stay_dropped, Goes-dropped, ends_at}
use Rattle.atomic_save.specs.Note.{call_of}
use Rattle.atomic_save.specs.declared.call_log.CallLog.{CallLog}
use Rattle.atomic_save.specs.contracts.call_log.CallLog.{the_row as Row}
use Rattle.atomic_save.specs.contracts.request.Request.{the_row as Asked}
use Rattle.atomic_save.specs.contracts.call_log.CallLog.note as f
use Rattle.atomic_save.proofs.call_log.CallLog.note.Statement.{statement}
use Rattle.atomic_save.proofs.call_log.CallLog.note.Code as code

-- a request, whose lifetime is the third
abbrev request : Slot 3
request = plain (λ κs. Asked (named_lft 3 2 tt κs))

abbrev stayed : Stays f.ended.signature.params f.ended.kept
stayed = (stay_ref (0 ∷ []) tt (plain (λ _. Row)), (stay_dropped _ yes, (stay_dropped _ yes, tt)))

pub note_spec : {M : Type 1} → statement M
note_spec 𝓤 𝓛 𝓜 𝓡 wired =
    let c = f.clauses 𝓛 𝓜.mem 𝓡.returns in
    proved 𝓛 f.ended stayed c 𝓜 𝓡 (
      Goes-ref 𝓛 3 0 tt (plain (λ _. Row)),
      (Goes-dropped 𝓛 3 (shr_ref_to (1 ∷ []) tt request) yes (λ κs x w. refl), (Goes-dropped 𝓛 3 (plain (λ _. bool)) yes (λ κs x w. refl), tt)),
    )
    f.Key.name code.function (code.unfolded 𝓤 𝓛.H 𝓜 𝓡 wired)
    (λ κs. (mut_vals, (shr_vals, (bool_vals, tt)))) (λ κs.
    (mut_Tells (named 0) κs.0 Row, (shr_Tells (name_of (1 ∷ [])) (meet_at 3 (1 ∷ []) tt κs) (request.row κs), (bool_Tells, tt)))) (λ κs qs bounds a none _.
    let b = a.0.ref_ptr.0 in let o = a.0.ref_ptr.1 in let was : CallLog = a.0.now in
    let next : CallLog = record { marker = was.marker; calls = call_of a.1.0.now a.1.1.0 ∷ was.calls } in
    let bits : List Val × (List Val × (List Val × Unit {0})) = (mut_vals a.0, (shr_vals a.1.0, (bool_vals a.1.1.0, tt))) in
    qed 𝓛 (((‵ (flft κs.0 qs.0) ⊛ (‵ (flft κs.1.0 qs.1.0) ⊛ (‵ (flft κs.1.1.0 qs.1.1.0) ⊛ ‵ ftrue))) ⊛ ‵ (owns (types_at f.signature.params κs) a bits)) ∷ raw
    ((c κs a).requires none) ∷ []) ∵
    split ! $ move ! (2 ∷ []) $ drop ! $ move ! (1 ∷ []) $ fsplit ! $ move ! (1 ∷ []) $ drop ! $ move ! (1 ∷ []) $ split ! $ move ! (2 ∷ []) $
    -- [the log; the token of its borrow; the other tokens]
    enter ! _ _ _ _ _ $ alloc_all ! (λ l. pass_all ! refl ((tt, tt), ((tt, tt), ((tt, tt), tt))) $
    fsplit3 ! $ move ! (1 ∷ 2 ∷ 3 ∷ []) $ opens ! tt Row {h = was} b o (λ us.
    sets ! (of_opd ! (unit_lit !)) refl (tt, tt) $
    move ! (1 ∷ []) $ use1 𝓛 (‵ (Row.own_val next us)) (id⊢ 𝓤 _) $ move ! (1 ∷ 0 ∷ []) $ closes ! tt Row next us b o $
    -- [two parts of the log; the token; the log's first part]
    returns ! (look_at ! 0 refl) $ free_all ! refl $ move ! (3 ∷ []) $
    suffices ! _ (ends_at 𝓛 f.ended stayed c ((κs, qs, bounds, a, bits), none) vunit tt (next, (tt, (tt, tt))) (tt, (tt, (tt, tt)))) $ says ! refl $
    group ! 3 $ nothing ! $ nothing ! $ join ! $ nothing ! $ join ! $ move ! (1 ∷ 0 ∷ []) $ join ! $ move ! (1 ∷ 2 ∷ []) $ join ! $ frame ! $ frame ! $
    feq_i ! _ (vunit ∷ []) _ refl $ done !)))
