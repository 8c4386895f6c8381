use Rattle.std.proofs.Common.{◌≡◌, Some, Ok, Err, refl, sym}
use Rattle.editor.specs.Editors.{IsSound, machine_of}
use Rattle.editor.specs.Kinds.{kinds_in}
use Rattle.editor.specs.Planning.{FitsActive}
use Rattle.document_lines.specs.Machine.{active_of, workspace}
use Rattle.document_lines.specs.Planning.{edit_change}
use Rattle.document_lines.specs.declared.planned.Planned.TheVariants as planned
use Rattle.document_lines.proofs.Bound.{same-bound}
use Rattle.session.specs.Grammar.{line_of}
use Rattle.session_run.specs.Planned.{PlansBytes, PlansKinds}
use Rattle.session_run.proofs.Bytes.{committed_kinds, committed_step, read_plan, read_plan_kinds, same-FitsActive, unput_bytes, unput_kinds}
use Rattle.session_run.proofs.running.step_parsed.Goals as goal
use Rattle.session_run.proofs.running.step_parsed.Goals.{in-Ok+in-Push, in-Err+in-Ok-plan_refused}

pub plan_refused-requires-clause-unread : goal.plan_refused-requires-clause-unread
plan_refused-requires-clause-unread g c = rw c.in-Err.is at c.parse_line.ensures.value

pub returns-in-Some-clause-step : goal.returns-in-Some-clause-step
returns-in-Some-clause-step g c =
    let change = g.C.Command.change in
    let m = c.match-parse_line in
    let plans : PlansBytes change c.args.dialect c.args.line.now (workspace (machine_of change c.args.editor.now) (g.S.MapStore.stored c.args.store.now))
    (planned.Push m.edit) (workspace (machine_of change m.editor) (g.S.MapStore.stored m.store)) = elim m.branch [
      | in-Ok+in-Push w ↦
          let read : line_of c.args.line.now ≡ Ok w.in-Ok.read = rw w.in-Ok.is at c.parse_line.ensures.value in
          rw (w.editor-is, w.store-is, w.edit-is) (read_plan change c.args.dialect c.args.line.now w.in-Ok.read read _ (planned.Push w.in-Push.edit) _
          (w.in-Push.ensures.plans c.requires.sound))
      | in-Err+in-Ok-plan_refused w ↦
          rw (w.editor-is, w.store-is, w.edit-is) (w.in-Ok-plan_refused.ensures.plans (g.S.MapStore.stored c.args.store.now))
    ] in
    committed_step change c.args.dialect c.args.line.now m.edit c.in-Some.command c.commit_told.result
    (c.requires.same m.edit (Some c.in-Some.command) c.in-Some.ensures) _ (workspace (machine_of change m.editor) (g.S.MapStore.stored m.store)) _
    plans c.commit_told.ensures.commits

pub returns-in-Some-clause-kinds : goal.returns-in-Some-clause-kinds
returns-in-Some-clause-kinds g c =
    let change = g.C.Command.change in
    let m = c.match-parse_line in
    let kinds : PlansKinds change c.args.dialect c.args.line.now (machine_of change c.args.editor.now) (planned.Push m.edit) (machine_of change m.editor)
    (kinds_in c.args.editor.now) (kinds_in m.editor) = elim m.branch [
      | in-Ok+in-Push w ↦
          let read : line_of c.args.line.now ≡ Ok w.in-Ok.read = rw w.in-Ok.is at c.parse_line.ensures.value in
          rw (w.editor-is, w.edit-is) (read_plan_kinds change c.args.dialect c.args.line.now w.in-Ok.read read
          (workspace (machine_of change c.args.editor.now) (g.S.MapStore.stored c.args.store.now))
          (workspace (machine_of change w.plan.new.self) (g.S.MapStore.stored w.plan.new.store)) (planned.Push w.in-Push.edit) _ _
          (w.in-Push.ensures.plans c.requires.sound) w.in-Push.ensures.unchanged (w.in-Push.ensures.kinds c.requires.sound))
      | in-Err+in-Ok-plan_refused w ↦ rw (w.editor-is, w.edit-is) w.in-Ok-plan_refused.ensures.kinds
    ] in
    committed_kinds change c.args.dialect c.args.line.now m.edit c.in-Some.command c.commit_told.result
    (c.requires.same m.edit (Some c.in-Some.command) c.in-Some.ensures) (machine_of change c.args.editor.now) (machine_of change m.editor) _ _ _ _
    kinds c.commit_told.ensures.kinds

pub returns-in-Some-clause-sound : goal.returns-in-Some-clause-sound
returns-in-Some-clause-sound g c =
    let change = g.C.Command.change in
    let m = c.match-parse_line in
    let sound : IsSound change m.editor = elim m.branch [
      | in-Ok+in-Push w ↦ rw w.editor-is (w.in-Push.ensures.sound c.requires.sound)
      | in-Err+in-Ok-plan_refused w ↦ rw w.editor-is w.in-Ok-plan_refused.ensures.sound
    ] in
    let same = c.requires.same m.edit (Some c.in-Some.command) c.in-Some.ensures in
    c.commit_told.ensures.sound sound (same-bound m.edit (change c.in-Some.command) same)

pub returns-in-None-clause-sound : goal.returns-in-None-clause-sound
returns-in-None-clause-sound g c =
    elim c.match-parse_line.branch [
      | in-Ok+in-Push w ↦ rw w.editor-is (w.in-Push.ensures.sound c.requires.sound)
      | in-Err+in-Ok-plan_refused w ↦ rw w.editor-is w.in-Ok-plan_refused.ensures.sound
    ]

pub returns-in-None-clause-step : goal.returns-in-None-clause-step
returns-in-None-clause-step g c =
    let change = g.C.Command.change in
    let m = c.match-parse_line in
    let plans : PlansBytes change c.args.dialect c.args.line.now (workspace (machine_of change c.args.editor.now) (g.S.MapStore.stored c.args.store.now))
    (planned.Push m.edit) (workspace (machine_of change m.editor) (g.S.MapStore.stored m.store)) = elim m.branch [
      | in-Ok+in-Push w ↦
          let read : line_of c.args.line.now ≡ Ok w.in-Ok.read = rw w.in-Ok.is at c.parse_line.ensures.value in
          rw (w.editor-is, w.store-is, w.edit-is) (read_plan change c.args.dialect c.args.line.now w.in-Ok.read read _ (planned.Push w.in-Push.edit) _
          (w.in-Push.ensures.plans c.requires.sound))
      | in-Err+in-Ok-plan_refused w ↦
          rw (w.editor-is, w.store-is, w.edit-is) (w.in-Ok-plan_refused.ensures.plans (g.S.MapStore.stored c.args.store.now))
    ] in
    unput_bytes change c.args.dialect c.args.line.now m.edit _ (workspace (machine_of change m.editor) (g.S.MapStore.stored m.store)) plans

pub returns-in-None-clause-kinds : goal.returns-in-None-clause-kinds
returns-in-None-clause-kinds g c =
    let change = g.C.Command.change in
    let m = c.match-parse_line in
    let kinds : PlansKinds change c.args.dialect c.args.line.now (machine_of change c.args.editor.now) (planned.Push m.edit) (machine_of change m.editor)
    (kinds_in c.args.editor.now) (kinds_in m.editor) = elim m.branch [
      | in-Ok+in-Push w ↦
          let read : line_of c.args.line.now ≡ Ok w.in-Ok.read = rw w.in-Ok.is at c.parse_line.ensures.value in
          rw (w.editor-is, w.edit-is) (read_plan_kinds change c.args.dialect c.args.line.now w.in-Ok.read read
          (workspace (machine_of change c.args.editor.now) (g.S.MapStore.stored c.args.store.now))
          (workspace (machine_of change w.plan.new.self) (g.S.MapStore.stored w.plan.new.store)) (planned.Push w.in-Push.edit) _ _
          (w.in-Push.ensures.plans c.requires.sound) w.in-Push.ensures.unchanged (w.in-Push.ensures.kinds c.requires.sound))
      | in-Err+in-Ok-plan_refused w ↦ rw (w.editor-is, w.edit-is) w.in-Ok-plan_refused.ensures.kinds
    ] in
    unput_kinds change c.args.dialect c.args.line.now m.edit (machine_of change c.args.editor.now) (machine_of change m.editor) _ _ kinds

pub commit_told-requires-clause-fits : goal.commit_told-requires-clause-fits
commit_told-requires-clause-fits g c =
    let change = g.C.Command.change in
    let m = c.match-parse_line in
    let fits : FitsActive (active_of (machine_of change m.editor)) (edit_change m.edit) = elim m.branch [
      | in-Ok+in-Push w ↦ rw (w.editor-is, w.edit-is) w.in-Push.ensures.fits
      | in-Err+in-Ok-plan_refused w ↦ rw (w.editor-is, w.edit-is) w.in-Ok-plan_refused.ensures.fits
    ] in
    same-FitsActive (active_of (machine_of change m.editor)) (edit_change m.edit) (change c.in-Some.command)
    (c.requires.same m.edit (Some c.in-Some.command) c.in-Some.ensures) fits
